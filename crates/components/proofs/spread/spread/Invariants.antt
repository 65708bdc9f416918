use Rattle.std.proofs.Common.{◌≡◌, ◌≢◌, ℕ, get_or}
use Rattle.components.specs.Spreading.{IsSpread, work}
use Rattle.components.proofs.spread.spread.Given as goal

abbrev pub invariant-loop-u : goal.invariant-loop-u
invariant-loop-u l = record {
  spread : IsSpread l.n l.pairs l.root l.n l.labels l.waiting.items;
  kept : (v : ℕ) → get_or l.initial.labels v 0 ≢ l.n → get_or l.labels v 0 ≡ get_or l.initial.labels v 0;
}

abbrev pub decreases-loop-u : goal.decreases-loop-u
decreases-loop-u l = work l.n l.labels l.waiting.items
