use Rattle.request_lines.proofs.Putting.{puts_then}
use Rattle.request_lines.specs.Refused.{bad_line_text}
use Rattle.request_lines.proofs.refused.put_line_too_long.Goals as goal

pub returns : goal.returns
unfolding bad_line_text
returns g c = puts_then c.put_number.ensures (c.put.ensures)
