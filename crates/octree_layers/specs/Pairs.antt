-- Inner: no clause of `run` is made of it.
-- The pairs of least leaves that a layer joins, by their places.
use Rattle.std.specs.Prelude.{ℕ, Bool, ◌&&◌, ◌==◌, List, map}
use Rattle.std.specs.List.{filter}
use Rattle.std.specs.List.Sorted.{IsPermutation}
use Rattle.op_model.specs.declared.base.Dataset.{Dataset}
use Rattle.op_model.specs.declared.base.Base.{Base}
use Rattle.layer_laws.specs.Building.{at}
use Rattle.octree_layers.specs.declared.levels.PlacedEdge.{PlacedEdge}
use Rattle.octree_layers.specs.Places.{placed}

-- an edge joins its ends in this layer and not in a lower one
abbrev pub joins_at : ℕ → PlacedEdge → Bool
joins_at layer e = e.level == layer && e.active

-- the places of the least leaves of the nodes that its ends are of
abbrev pub pair_at : List ℕ → PlacedEdge → ℕ × ℕ
pair_at firsts e = (at firsts e.lesser, at firsts e.greater)

unfoldable pub pairs_at : List ℕ → ℕ → List PlacedEdge → List (ℕ × ℕ)
pairs_at firsts layer edges = map (pair_at firsts) (filter (joins_at layer) edges)

-- these are the edges of the base, in any order
abbrev pub AreEdges : Dataset → Base → List PlacedEdge → Type 0
AreEdges d b edges = IsPermutation (map (placed d b) b.edges) edges
