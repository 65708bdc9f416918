-- Inner: no clause of `run` is made of it.
-- The edges of a part and its least leaves, taken as a base of its own.
use Rattle.std.specs.Prelude.{ℕ, List}
use Rattle.std.specs.List.Sorted.{IsNonDecreasingBy}
use Rattle.op_model.specs.declared.base.Dataset.{Dataset}
use Rattle.op_model.specs.declared.base.Base.{Base}
use Rattle.op_model.specs.Ingest.{ingested}
use Rattle.layer_laws.specs.Building.{AreLeastLeaves}
use Rattle.octree_layers.specs.declared.levels.PlacedEdge.{PlacedEdge}
use Rattle.octree_layers.specs.Pairs.{AreEdges}

-- these are the edges of the part, by ascending levels
pub record AreByLevel (d : Dataset) (part : Base) (edges : List PlacedEdge) : Type 0 where
  pub same : AreEdges d part edges
  pub rising : IsNonDecreasingBy (λ e. e.level) edges

-- the places of the least leaves of the nodes that the part has at its own first entry
abbrev pub AreOwnFirsts : Dataset → Base → ℕ → List ℕ → Type 0
AreOwnFirsts d part layer firsts = AreLeastLeaves d part (ingested d part 0) layer firsts
