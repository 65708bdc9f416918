use Rattle.components.proofs.Traversal.{IsTaking}
use Rattle.components.proofs.spread.take_pairs.Given as goal

abbrev pub invariant-loop-at : goal.invariant-loop-at
invariant-loop-at l = IsTaking l.n l.pairs l.root l.u l.initial.labels l.initial.waiting.items l.labels l.waiting.items l.at

abbrev pub decreases-loop-at : goal.decreases-loop-at
decreases-loop-at l = l.at
