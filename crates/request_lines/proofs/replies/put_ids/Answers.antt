use Rattle.std.proofs.Common.{rules, ap}
use Rattle.request_lines.specs.Texts.{ids_text}
use Rattle.request_lines.proofs.Putting.{puts_then, puts_same}
use Rattle.request_lines.proofs.replies.put_ids.Goals as goal

pub returns : goal.returns
returns g c = puts_then c.put.ensures (puts_same (ap (λ w. ids_text w) (search rules)) c.put_list.ensures)
