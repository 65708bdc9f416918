use Rattle.request_lines.proofs.Putting.{puts_then}
use Rattle.request_lines.specs.Texts.{edit_text}
use Rattle.request_lines.proofs.entries.put_split.Goals as goal

pub returns : goal.returns
unfolding edit_text
returns g c = puts_then c.put_ids.ensures (puts_then c.put_ids-2.ensures (c.put.ensures))
