use Rattle.std.proofs.Common.{rules}
use Rattle.request_lines.proofs.Putting.{puts_both}
use Rattle.request_lines.proofs.lists.put_item.Goals as goal

pub returns-else-index-eq0 : goal.returns-else-index-eq0
returns-else-index-eq0 g c = puts_both _ (search rules) c.put.ensures c.put_on-else-index-eq0.ensures
