use Rattle.std.proofs.Common.{not, ap}
use Rattle.entry_lists.proofs.EdgeFacts.{nothing_put, pair_put}
use Rattle.entry_lists.proofs.edges.put_unknown.Goals as goal

pub returns-then-not-is_unknown-clause-put : goal.returns-then-not-is_unknown-clause-put
returns-then-not-is_unknown-clause-put g c = λ d b log i. nothing_put d b log c.args.change.now c.args.list.now.items c.is_unknown.result (c.is_unknown.ensures.is d b log i) (ap not c.if-not-is_unknown.true)

pub returns-clause-put : goal.returns-clause-put
returns-clause-put g c = λ d b log i. pair_put d b log c.args.change.now c.args.list.now.items _ c.is_unknown.result (c.is_unknown.ensures.is d b log i) (ap not c.if-not-is_unknown.false) c.in-Ok.ensures.items
