use Rattle.std.proofs.Common.{◌≡◌, ◌≤◌, ◌<◌, ℕ}
use Rattle.chunk_geometry.specs.Chunks.{chunk_at}
use Rattle.chunk_geometry.proofs.grid.Grid.level.Given as goal

abbrev pub invariant-loop-layer : goal.invariant-loop-layer
invariant-loop-layer l = (other : ℕ) → 2 ≤ other → other < l.layer → chunk_at other l.a ≡ chunk_at other l.b → ⊥
