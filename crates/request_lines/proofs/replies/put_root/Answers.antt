use Rattle.request_lines.proofs.Putting.{puts_then}
use Rattle.request_lines.specs.Texts.{text_of_reply}
use Rattle.request_lines.proofs.replies.put_root.Goals as goal

pub returns : goal.returns
unfolding text_of_reply
returns g c = puts_then c.put_id.ensures (c.put_seen.ensures)
