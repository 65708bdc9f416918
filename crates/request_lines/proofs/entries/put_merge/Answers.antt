use Rattle.std.proofs.Common.{rules}
use Rattle.request_lines.proofs.Putting.{puts_then, puts_same}
use Rattle.request_lines.proofs.Merging.{merge_listed}
use Rattle.request_lines.proofs.entries.put_merge.Goals as goal

pub returns-else-pairs-eq1 : goal.returns-else-pairs-eq1
returns-else-pairs-eq1 g c = puts_same (merge_listed c.args.pairs.now (search rules)) (puts_then c.put.ensures (puts_then c.put_list.ensures c.put-else-pairs-eq1.ensures))
