-- Inner: no clause of `run` is made of it.
-- Which records are of nodes that no entry has retired.
use Rattle.std.specs.Prelude.{◌≡◌, ℕ, ◌<◌, List, ◌∷◌, length, Some, IsTrue, IsFalse}
use Rattle.std.specs.List.{slice_get, list_any}
use Rattle.op_model.specs.declared.base.Dataset.{Dataset}
use Rattle.op_model.specs.declared.base.Base.{Base}
use Rattle.op_model.specs.declared.entry.Entry.{Entry}
use Rattle.graph_model.specs.Lists.{has}
use Rattle.op_model.specs.Chunks.{layers}
use Rattle.op_model.specs.Labels.{component, node}
use Rattle.op_model.specs.Valid.{IsDataset, IsBase}
use Rattle.op_model.specs.Legal.{Legal}
use Rattle.record_rows.specs.Rows.{NodeRow, Node}
use Rattle.record_rows.specs.Chains.{retires}
use Rattle.record_rows.specs.LogRows.{rows_of}

-- the node is that of a supervoxel at the log
pub record IsCurrent (d : Dataset) (b : Base) (log : List Entry) (n : Node) : Type 0 where
  pub layer : ℕ
  pub v : ℕ
  pub has_layer : IsTrue (has (layers d) layer)
  pub known : IsTrue (has b.supervoxels v)
  pub leaves_are : n.leaves ≡ component d b log layer v
  pub id_is : n.id ≡ node d b log layer v
  pub made_before : n.made < length log

-- a record of a node that no entry has retired is of one of the log's nodes
abbrev pub UnretiredAreCurrent : Type 0
UnretiredAreCurrent =
    (d : Dataset) (b : Base) → IsDataset d → IsBase d b → (log : List Entry) (p : ℕ) (n : Node) → Legal d b log
    → slice_get (rows_of d b log) p ≡ Some (NodeRow n) → IsFalse (list_any (retires n) (rows_of d b log)) → IsCurrent d b log n

-- and each node of the log has such a record
abbrev pub CurrentAreUnretired : Type 0
CurrentAreUnretired =
    (d : Dataset) (b : Base) → IsDataset d → IsBase d b → (e : Entry) (log : List Entry) (layer v : ℕ) → Legal d b (e ∷ log) → IsTrue (has (layers d) layer) → IsTrue (has b.supervoxels v)
    → (p : ℕ) × (n : Node) × (slice_get (rows_of d b (e ∷ log)) p ≡ Some (NodeRow n)) × (n.id ≡ node d b (e ∷ log) layer v) × (n.leaves ≡ component d b (e ∷ log) layer v)
    × IsFalse (list_any (retires n) (rows_of d b (e ∷ log)))
