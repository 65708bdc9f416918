use Rattle.request_lines.proofs.Putting.{puts_then}
use Rattle.request_lines.proofs.refused.put_op.Goals as goal

pub returns : goal.returns
returns g c = puts_then c.put_number.ensures (puts_then c.put_word.ensures (c.put_seen.ensures))
