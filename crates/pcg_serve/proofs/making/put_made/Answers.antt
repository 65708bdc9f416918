use Rattle.request_lines.proofs.Putting.{puts_then}
use Rattle.call_lines.specs.Texts.{made_line}
use Rattle.pcg_serve.proofs.making.put_made.Goals as goal

pub returns : goal.returns
unfolding made_line
returns g c = puts_then c.put_number.ensures (puts_then c.put_number-2.ensures (puts_then c.put_number-3.ensures (puts_then c.put_number-4.ensures c.put.ensures)))
