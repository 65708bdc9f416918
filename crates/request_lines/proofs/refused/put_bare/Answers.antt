use Rattle.request_lines.proofs.Putting.{puts_then}
use Rattle.request_lines.proofs.refused.put_bare.Goals as goal

pub returns : goal.returns
returns g c = puts_then c.put_word.ensures (c.put.ensures)
