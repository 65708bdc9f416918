use Rattle.std.proofs.Common.{sym}
use Rattle.request_lines.specs.Items.{changed_text}
use Rattle.request_lines.proofs.Putting.{puts_then, puts_same}
use Rattle.request_lines.proofs.items.ChangedWritten.put_on.Goals as goal

pub returns : goal.returns
unfolding changed_text
returns g c = puts_then c.put_id.ensures (puts_then c.put_id-2.ensures (puts_then c.put.ensures (puts_then (puts_same (sym c.truth_of.ensures) c.put-2.ensures) c.put-3.ensures)))
