-- Inner: no clause of `run` is made of it.
-- The nodes that an entry retires, by the paths of its changed pairs' ends.
use Rattle.std.specs.Prelude.{◌≡◌, ℕ, true, List, ◌∷◌, ◌++◌, length, Some, IsTrue}
use Rattle.std.specs.List.{slice_get}
use Rattle.op_model.specs.declared.base.Dataset.{Dataset}
use Rattle.op_model.specs.declared.base.Base.{Base}
use Rattle.op_model.specs.declared.entry.Entry.{Entry}
use Rattle.graph_model.specs.Lists.{has}
use Rattle.op_model.specs.Chunks.{layers}
use Rattle.op_model.specs.Labels.{node}
use Rattle.op_model.specs.Operations.{ends}
use Rattle.op_model.specs.Valid.{IsDataset, IsBase}
use Rattle.op_model.specs.Legal.{Legal}
use Rattle.record_rows.specs.Rows.{Row, NodeRow, EntryRow, Node}
use Rattle.record_rows.specs.LogRows.{rows_of}
use Rattle.grown_rows.specs.Aimed.{AreRetired, Differ}

-- no record is an entry's, and each node's is one that the entry of this number makes
pub record IsBefore (number : ℕ) (more : List Row) : Type 0 where
  pub no_entry : (p : ℕ) (x : Entry) → slice_get more p ≡ Some (EntryRow x) → ⊥
  pub made : (p : ℕ) (n : Node) → slice_get more p ≡ Some (NodeRow n) → n.made ≡ number

-- these are the places of the nodes of the ends of these pairs, in each layer, at the log
pub record AreOnPaths (d : Dataset) (b : Base) (log : List Entry) (e : Entry) (places : List ℕ) : Type 0 where
  pub known : (u : ℕ) → IsTrue (has (ends e.changed) u) → IsTrue (has b.supervoxels u)
  pub given :
      (p : ℕ) → has places p ≡ true
      → (layer u : ℕ) × (n : Node) × IsTrue (has (layers d) layer) × IsTrue (has (ends e.changed) u) × (slice_get (rows_of d b log) p ≡ Some (NodeRow n)) × (n.id ≡ node d b log layer u)
  pub all :
      (layer u : ℕ) → IsTrue (has (layers d) layer) → IsTrue (has (ends e.changed) u)
      → (p : ℕ) × (n : Node) × (has places p ≡ true) × (slice_get (rows_of d b log) p ≡ Some (NodeRow n)) × (n.id ≡ node d b log layer u)
  pub differ : Differ places

-- they are the nodes that the entry retires
abbrev pub PathsAreRetired : Type 0
PathsAreRetired =
    (d : Dataset) (b : Base) → IsDataset d → IsBase d b → (e f : Entry) (log : List Entry) (more : List Row) (places : List ℕ) → Legal d b (f ∷ log) → e.number ≡ length (f ∷ log)
    → IsBefore e.number more → AreOnPaths d b (f ∷ log) e places → AreRetired e (rows_of d b (f ∷ log) ++ more) places
