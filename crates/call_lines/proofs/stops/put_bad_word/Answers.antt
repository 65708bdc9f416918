use Rattle.request_lines.proofs.Putting.{puts_then}
use Rattle.call_lines.proofs.stops.put_bad_word.Goals as goal

pub returns : goal.returns
returns g c = puts_then c.put_word.ensures (puts_then c.put_number.ensures c.put.ensures)
