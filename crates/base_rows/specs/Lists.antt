-- Inner: no clause of `run` is made of it.
-- The records of a base by their places: what edges, nodes and links the places mean.
use Rattle.std.specs.Prelude.{◌≡◌, ◌≢◌, ℕ, ◌<◌, List, length, Some, slice_index_or}
use Rattle.std.specs.List.{slice_get}
use Rattle.op_model.specs.Lists.{head_or}
use Rattle.record_rows.specs.Rows.{Node, Link}
use Rattle.base_rows.specs.declared.lists.BaseEdge.{BaseEdge}
use Rattle.base_rows.specs.declared.lists.BaseNode.{BaseNode}
use Rattle.base_rows.specs.declared.lists.BaseLink.{BaseLink}

-- the k-th of a list
abbrev pub at : List ℕ → ℕ → ℕ
at xs k = slice_index_or xs k 0

-- each number of the list stands at one place
abbrev pub IsOnce : List ℕ → Type 0
IsOnce xs = (i j : ℕ) → i < length xs → j < length xs → at xs i ≡ at xs j → i ≡ j

-- the places are those of the edge's ends, which are two supervoxels
pub record IsPlaced (ids : List ℕ) (x : BaseEdge) : Type 0 where
  pub lesser : x.lesser < length ids
  pub greater : x.greater < length ids
  pub lesser_is : at ids x.lesser ≡ x.edge.pair.a
  pub greater_is : at ids x.greater ≡ x.edge.pair.b
  pub differ : x.edge.pair.a ≢ x.edge.pair.b

-- this is the node, and the place is that of its chunk
pub record IsNode (chunks : List ℕ) (x : BaseNode) (n : Node) : Type 0 where
  pub id : n.id ≡ x.id
  pub least : head_or 0 n.leaves ≡ x.least
  pub made : n.made ≡ 0
  pub chunk : x.chunk < length chunks
  pub chunk_is : at chunks x.chunk ≡ n.chunk

-- these are the nodes, one by one
pub record AreNodes (chunks : List ℕ) (xs : List BaseNode) (ns : List Node) : Type 0 where
  pub count : length xs ≡ length ns
  pub each : (i : ℕ) (x : BaseNode) (n : Node) → slice_get xs i ≡ Some x → slice_get ns i ≡ Some n → IsNode chunks x n

-- the places are those of a child among the supervoxels and nodes, and of a parent among the nodes
abbrev pub IsWithin : List ℕ → List ℕ → BaseLink → Type 0
IsWithin owners nodes x = (x.child < length owners) × (x.parent < length nodes)

-- the link from the child at its place to the parent at its place
abbrev pub link_of : List ℕ → List ℕ → BaseLink → Link
link_of owners nodes x = record { child = at owners x.child; parent = at nodes x.parent; entry = 0 }
