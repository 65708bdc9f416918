use Rattle.request_lines.proofs.Putting.{puts_then}
use Rattle.request_lines.specs.Refused.{refused_text}
use Rattle.request_lines.proofs.refused.put_glued.Goals as goal

pub returns : goal.returns
unfolding refused_text
returns g c = puts_then c.put_number.ensures (puts_then c.put_id.ensures (puts_then c.put_id-2.ensures (c.put.ensures)))
