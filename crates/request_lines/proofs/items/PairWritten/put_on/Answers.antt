use Rattle.request_lines.specs.Items.{pair_text}
use Rattle.request_lines.proofs.Putting.{puts_then}
use Rattle.request_lines.proofs.items.PairWritten.put_on.Goals as goal

pub returns : goal.returns
unfolding pair_text
returns g c = puts_then c.put_id.ensures (puts_then c.put_id-2.ensures c.put.ensures)
