-- Inner: no clause of `run` is made of it.
-- Edges that are met one by one, of which a list keeps no more than were allowed.
use Rattle.std.specs.Prelude.{◌≡◌, ℕ, Bool, ◌&&◌, ◌==◌, List, length, take}
use Rattle.op_model.specs.declared.base.Edge.{Edge}
use Rattle.graph_model.specs.Lists.{has}
use Rattle.component_reader.specs.declared.taking.Met.{Met}

-- whether an edge is active and leads from this supervoxel, as its lesser end, to one of these
unfoldable pub starts : List ℕ → ℕ → Edge → Bool
starts to v e = (e.active && v == e.pair.a) && has to e.pair.b

-- these edges were met: the first of them are kept, up to so many, and all are counted
pub record AreMet (most : ℕ) (edges : List Edge) (met : Met) : Type 0 where
  pub kept : met.list.items ≡ take most edges
  pub count : met.count ≡ length edges
