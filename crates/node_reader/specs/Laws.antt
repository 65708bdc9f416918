-- Inner: no clause of `run` is made of it.
-- What holds of the leaves in the records of nodes.
use Rattle.std.specs.Prelude.{◌≡◌, ◌≤◌, ℕ, List, IsTrue}
use Rattle.op_model.specs.declared.base.Dataset.{Dataset}
use Rattle.op_model.specs.declared.base.Base.{Base}
use Rattle.op_model.specs.declared.entry.Entry.{Entry}
use Rattle.graph_model.specs.Lists.{has}
use Rattle.op_model.specs.Answers.{leaves}
use Rattle.op_model.specs.Chunks.{chunk, layers, top}
use Rattle.op_model.specs.Labels.{component, node}
use Rattle.op_model.specs.Legal.{Legal}
use Rattle.op_model.specs.Transcript.{log_at}
use Rattle.op_model.specs.Valid.{IsDataset, IsBase}
use Rattle.record_rows.specs.Rows.{Node}
use Rattle.record_rows.specs.Readings.{HoldsNode}

-- the record of a root, which is a node in the top layer's chunk, has the leaves that the root is answered with
abbrev pub LeavesAreTold : Type 0
LeavesAreTold =
    (d : Dataset) (b : Base) (log : List Entry) (place v : ℕ) (n : Node) → IsDataset d → IsBase d b → Legal d b log
    → HoldsNode d b log place n → IsTrue (has b.supervoxels v) → n.chunk ≡ chunk d (top d) v → n.leaves ≡ leaves d b log n.id

-- the record of a supervoxel's node at a prefix has the leaves that are joined to the supervoxel there
abbrev pub LeavesAreJoined : Type 0
LeavesAreJoined =
    (d : Dataset) (b : Base) (log : List Entry) (prefix layer v place : ℕ) (n : Node) → IsDataset d → IsBase d b → Legal d b log → 1 ≤ prefix
    → HoldsNode d b log place n → IsTrue (has (layers d) layer) → IsTrue (has b.supervoxels v) → n.id ≡ node d b (log_at d b log prefix) layer v
    → n.leaves ≡ component d b (log_at d b log prefix) layer v
