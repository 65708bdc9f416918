use Rattle.request_lines.proofs.Putting.{puts_then}
use Rattle.request_lines.specs.Texts.{merge_text}
use Rattle.request_lines.proofs.entries.put_pair.Goals as goal

pub returns : goal.returns
unfolding merge_text
returns g c = puts_then c.put_id.ensures (puts_then c.put_id-2.ensures (c.put.ensures))
