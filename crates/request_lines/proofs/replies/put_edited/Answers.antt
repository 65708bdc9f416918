use Rattle.request_lines.proofs.Putting.{puts_then}
use Rattle.request_lines.specs.Texts.{edited_text}
use Rattle.request_lines.proofs.replies.put_edited.Goals as goal

pub returns : goal.returns
unfolding edited_text
returns g c = puts_then c.put_number.ensures (puts_then c.put_ids.ensures (puts_then c.put_number-2.ensures (puts_then c.put_ids-2.ensures (c.put_seen.ensures))))
