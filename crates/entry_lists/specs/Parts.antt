-- Inner: no clause of `run` is made of it.
-- The parts of an entry's lists, each behind the records of a log.
use Rattle.std.specs.Prelude.{◌≡◌, ℕ, false, List, [], ◌∷◌, map, IsTrue, IsFalse}
use Rattle.std.specs.List.{All, list_any}
use Rattle.op_model.specs.declared.base.Pair.{Pair}
use Rattle.op_model.specs.declared.base.Edge.{Edge}
use Rattle.op_model.specs.declared.base.Weight.TheVariants.{Affinity}
use Rattle.graph_model.specs.Lists.{has}
use Rattle.record_rows.specs.Chains.{change_of}
use Rattle.base_rows.specs.declared.lists.BaseEdge.{BaseEdge}
use Rattle.op_model.specs.declared.base.Dataset.{Dataset}
use Rattle.op_model.specs.declared.base.Base.{Base}
use Rattle.op_model.specs.declared.entry.Entry.{Entry}
use Rattle.op_model.specs.Legal.{Legal}
use Rattle.record_rows.specs.Rows.{Row, Node}
use Rattle.record_rows.specs.Readings.{Image}
use Rattle.row_append.specs.declared.tail.Tail.{Tail}
use Rattle.row_append.specs.Ends.{EdgesOf, NodesIn}
use Rattle.base_rows.specs.declared.lists.BaseNode.{BaseNode}
use Rattle.base_rows.specs.Lists.{IsOnce, IsPlaced}
use Rattle.base_rows.specs.States.{AreTails}
use Rattle.entry_parts.specs.declared.made.MadeNode.{MadeNode}
use Rattle.entry_rows.specs.States.{AreMade, ArePointers}
use Rattle.octree_layers.specs.Places.{place_of}

-- the words are the image of the log, and the entry follows it
pub record IsBehind (d : Dataset) (b : Base) (log : List Entry) (e : Entry) (words : List ℕ) : Type 0 where
  pub image : Image d b log words
  pub legal : Legal d b (e ∷ log)

-- a node with the place of its chunk in a list
unfoldable pub base_node : List ℕ → MadeNode → BaseNode
base_node chunks m = record { id = m.id; least = m.least; chunk = place_of chunks m.chunk }

-- these are the nodes, in chunks whose nodes end there, and nothing of them stands yet
pub record AreNodesPlaced (number : ℕ) (rows : List Row) (xs : List BaseNode) (tails : List Tail) (ns : List Node) : Type 0 where
  pub chunks : List ℕ
  pub once : IsOnce chunks
  pub ends_are : AreTails NodesIn chunks rows tails
  pub pointers : ArePointers tails
  pub made : AreMade number chunks rows xs ns

-- the ends of a pair
unfoldable pub ends_of : Pair → List ℕ
ends_of p = p.a ∷ p.b ∷ []

-- both ends of the pair are listed
abbrev pub HoldsEnds : List ℕ → Pair → Type 0
HoldsEnds ids p = IsTrue (has ids p.a) × IsTrue (has ids p.b)

-- the inactive edge of a pair, with the places of its ends in a list
unfoldable pub base_edge : ℕ → List ℕ → Pair → BaseEdge
base_edge affinity ids p = record { edge = record { pair = p; weight = Affinity affinity; active = false }; lesser = place_of ids p.a; greater = place_of ids p.b }

-- these are the edges, between supervoxels whose edges end there, and no change of their pairs stands
pub record AreEdgesPlaced (rows : List Row) (xs : List BaseEdge) (tails : List Tail) (es : List Edge) : Type 0 where
  pub ids : List ℕ
  pub once : IsOnce ids
  pub ends_are : AreTails EdgesOf ids rows tails
  pub pointers : ArePointers tails
  pub placed : All (IsPlaced ids) xs
  pub fresh : All (λ x. IsFalse (list_any (change_of x.edge.pair) rows)) xs
  pub edges_are : map (λ x. x.edge) xs ≡ es
