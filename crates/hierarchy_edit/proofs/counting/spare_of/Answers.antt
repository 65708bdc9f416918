use Rattle.hierarchy_edit.proofs.Counts.{spare_is}
use Rattle.hierarchy_edit.proofs.counting.spare_of.Goals as goal

pub overflow_sub-result : goal.overflow_sub-result
overflow_sub-result g c = let r = c.requires.image in (spare_is c.args.dataset.now r.0 r.1 _ r.2 _ c.len.ensures).0

pub returns : goal.returns
returns g c b log i = (spare_is c.args.dataset.now b log _ i _ c.len.ensures).1
