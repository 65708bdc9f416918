use Rattle.std.proofs.Common.{subst}
use Rattle.components.specs.Spreading.{IsSpread}
use Rattle.components.proofs.Traversal.{popped}
use Rattle.components.proofs.spread.spread.Goals as goal

pub take_pairs-requires-clause-at : goal.take_pairs-requires-clause-at
take_pairs-requires-clause-at c = (popped c.args.n c.args.pairs.now c.args.root c.in-Some.u c.loop-u.labels c.pop.new.self.items
    (subst (λ s. IsSpread c.args.n c.args.pairs.now c.args.root c.args.n c.loop-u.labels s) c.in-Some.ensures.items c.loop-u.invariant.spread)).0

pub take_pairs-requires-clause-own : goal.take_pairs-requires-clause-own
take_pairs-requires-clause-own c = (popped c.args.n c.args.pairs.now c.args.root c.in-Some.u c.loop-u.labels c.pop.new.self.items
    (subst (λ s. IsSpread c.args.n c.args.pairs.now c.args.root c.args.n c.loop-u.labels s) c.in-Some.ensures.items c.loop-u.invariant.spread)).1

pub take_pairs-requires-clause-spread : goal.take_pairs-requires-clause-spread
take_pairs-requires-clause-spread c = (popped c.args.n c.args.pairs.now c.args.root c.in-Some.u c.loop-u.labels c.pop.new.self.items
    (subst (λ s. IsSpread c.args.n c.args.pairs.now c.args.root c.args.n c.loop-u.labels s) c.in-Some.ensures.items c.loop-u.invariant.spread)).2
