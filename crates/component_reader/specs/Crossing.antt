-- Inner: no clause of `run` is made of it.
-- The active edges that lead out of a node.
use Rattle.std.specs.Prelude.{ℕ, Bool, ◌&&◌, nat_lt, List}
use Rattle.std.specs.List.{AllByRecursion}
use Rattle.op_model.specs.declared.base.Dataset.{Dataset}
use Rattle.op_model.specs.declared.base.Edge.{Edge}
use Rattle.op_model.specs.Valid.{IsSupervoxel}
use Rattle.layer_laws.specs.Levels.{level}

-- whether an edge is active, and its ends come into one chunk only above this layer
unfoldable pub goes_out : Dataset → ℕ → Edge → Bool
goes_out d layer e = e.active && nat_lt layer (level d e.pair.a e.pair.b)

-- the ends of each edge are supervoxels of the grid
abbrev pub AreInGrid : Dataset → List Edge → Type 0
AreInGrid d es = AllByRecursion (λ e. IsSupervoxel d e.pair.a × IsSupervoxel d e.pair.b) es
