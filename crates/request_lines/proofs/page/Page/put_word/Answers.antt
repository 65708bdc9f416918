use Rattle.request_lines.proofs.Putting.{puts_then}
use Rattle.request_lines.proofs.page.Page.put_word.Goals as goal

pub returns : goal.returns
returns g c = puts_then c.put.ensures (puts_then c.put-2.ensures (puts_then c.put-3.ensures c.put-4.ensures))
