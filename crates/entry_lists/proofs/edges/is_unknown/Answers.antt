use Rattle.std.proofs.Common.{not, sym, ap}
use Rattle.chain_ends.proofs.EdgeFinds.{found_known, none_unknown}
use Rattle.entry_lists.proofs.edges.is_unknown.Goals as goal

pub returns-in_default-clause-is : goal.returns-in_default-clause-is
returns-in_default-clause-is g c = λ d b log i. sym (ap not (none_unknown d b log _ i c.args.change.now.pair (c.find_edge.ensures.found d b log i) c.in_default.not-Some))

pub returns-clause-is : goal.returns-clause-is
returns-clause-is g c = λ d b log i. sym (ap not (found_known d b log _ i c.args.change.now.pair c.in-Some._edge (c.find_edge.ensures.found d b log i) c.in-Some.is))
