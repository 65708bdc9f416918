use Rattle.std.proofs.Common.{◌≡◌, []}
use Rattle.components.specs.Spreading.{IsSpread}
use Rattle.components.proofs.labels.label.Given as goal

abbrev pub invariant-loop-v : goal.invariant-loop-v
invariant-loop-v l = record {
  spread : IsSpread l.n l.pairs l.v l.n l.labels [];
  empty : l.waiting.items ≡ [];
}
