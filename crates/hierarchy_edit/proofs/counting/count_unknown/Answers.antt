use Rattle.std.proofs.Common.{true, false, sym}
use Rattle.chain_ends.proofs.EdgeFinds.{found_known, none_unknown}
use Rattle.hierarchy_edit.proofs.Counts.{count_one}
use Rattle.hierarchy_edit.proofs.counting.count_unknown.Goals as goal

pub returns-in_default-clause-is : goal.returns-in_default-clause-is
returns-in_default-clause-is g c = λ d b log i. sym (count_one d b log c.args.change.now false (none_unknown d b log _ i c.args.change.now.pair (c.find_edge.ensures.found d b log i) c.in_default.not-Some))

pub returns-clause-is : goal.returns-clause-is
returns-clause-is g c = λ d b log i. sym (count_one d b log c.args.change.now true (found_known d b log _ i c.args.change.now.pair c.in-Some._edge (c.find_edge.ensures.found d b log i) c.in-Some.is))
