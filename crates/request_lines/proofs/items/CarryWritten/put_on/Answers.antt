use Rattle.request_lines.specs.Items.{carry_text}
use Rattle.request_lines.proofs.Putting.{puts_then}
use Rattle.request_lines.proofs.items.CarryWritten.put_on.Goals as goal

pub returns : goal.returns
unfolding carry_text
returns g c = puts_then c.put_id.ensures (puts_then c.put_id-2.ensures (puts_then c.put_number.ensures c.put.ensures))
