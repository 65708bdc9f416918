-- Inner: no clause of `run` is made of it.
-- Places of supervoxels in the base's ascending list, and edges between places.
use Rattle.std.specs.Prelude.{◌≡◌, ℕ, ◌+◌, ◌==◌, if◌then◌else◌, List, [], ◌∷◌, map}
use Rattle.std.specs.List.{All}
use Rattle.op_model.specs.declared.base.Dataset.{Dataset}
use Rattle.op_model.specs.declared.base.Base.{Base}
use Rattle.op_model.specs.declared.base.Edge.{Edge}
use Rattle.layer_laws.specs.Levels.{level}
use Rattle.base_rows.specs.declared.lists.BaseEdge.{BaseEdge}
use Rattle.base_rows.specs.Lists.{IsPlaced}
use Rattle.octree_layers.specs.declared.levels.PlacedEdge.{PlacedEdge}

-- where an id first stands in a list, counted from 0
unfoldable pub place_of : List ℕ → ℕ → ℕ
place_of [] v = 0
place_of (x ∷ xs) v = if x == v then 0 else place_of xs v + 1

-- an edge by the places of its ends
abbrev pub placed : Dataset → Base → Edge → PlacedEdge
placed d b e = record {
  lesser = place_of b.supervoxels e.pair.a;
  greater = place_of b.supervoxels e.pair.b;
  level = level d e.pair.a e.pair.b;
  active = e.active;
}

-- these are the edges of the base, in its order, with the places of their ends
pub record ArePlaces (b : Base) (xs : List BaseEdge) : Type 0 where
  pub edges : map (λ x. x.edge) xs ≡ b.edges
  pub placed : All (IsPlaced b.supervoxels) xs
