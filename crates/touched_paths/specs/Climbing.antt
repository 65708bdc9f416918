-- Inner: no clause of `run` is made of it.
-- The places of the nodes of some supervoxels, layer by layer.
use Rattle.std.specs.Prelude.{◌≡◌, ℕ, ◌<◌, ◌≤◌, List, length, Some, IsTrue}
use Rattle.std.specs.List.{slice_get}
use Rattle.op_model.specs.declared.base.Dataset.{Dataset}
use Rattle.op_model.specs.declared.base.Base.{Base}
use Rattle.op_model.specs.declared.entry.Entry.{Entry}
use Rattle.graph_model.specs.Lists.{has}
use Rattle.op_model.specs.Labels.{node, root}
use Rattle.op_model.specs.Valid.{IsAscending}
use Rattle.record_rows.specs.Rows.{NodeRow, Node}
use Rattle.record_rows.specs.LogRows.{rows_of}
use Rattle.record_rows.specs.Readings.{HoldsId, HoldsNode, ParentImage}
use Rattle.record_rows.specs.Versions.{child_at}
use Rattle.grown_rows.specs.Aimed.{Differ}

-- each of the numbers stands for some member of the list, and each member has one that stands for it
pub record Covers (us : List ℕ) (R : ℕ → ℕ → Type 0) (ps : List ℕ) : Type 0 where
  pub given : (p : ℕ) → IsTrue (has ps p) → (u : ℕ) × IsTrue (has us u) × R p u
  pub all : (u : ℕ) → IsTrue (has us u) → (p : ℕ) × IsTrue (has ps p) × R p u

-- these are the places of what stands just below the nodes of this layer of these supervoxels at the whole log
pub record IsClimbed (d : Dataset) (b : Base) (log : List Entry) (words : List ℕ) (prefix layer : ℕ) (us spots : List ℕ) : Type 0 where
  pub image : ParentImage d b log words
  pub whole : prefix ≡ length log
  pub known : (u : ℕ) → IsTrue (has us u) → IsTrue (has b.supervoxels u)
  pub stand : Covers us (λ p u. HoldsId d b log p (child_at d b log layer u)) spots

-- these are the places of their nodes from layer 2 to below this layer, each once
pub record ArePassed (d : Dataset) (b : Base) (log : List Entry) (layer : ℕ) (us places : List ℕ) : Type 0 where
  pub given : (p : ℕ) → IsTrue (has places p) → (k u : ℕ) × (n : Node) × (2 ≤ k) × (k < layer) × IsTrue (has us u) × (slice_get (rows_of d b log) p ≡ Some (NodeRow n)) × (n.id ≡ node d b log k u)
  pub all : (k u : ℕ) → 2 ≤ k → k < layer → IsTrue (has us u) → (p : ℕ) × (n : Node) × IsTrue (has places p) × (slice_get (rows_of d b log) p ≡ Some (NodeRow n)) × (n.id ≡ node d b log k u)
  pub differ : Differ places

-- these are the places of the roots of these supervoxels, ascending, each once
pub record AreTops (d : Dataset) (b : Base) (log : List Entry) (us tops : List ℕ) : Type 0 where
  pub ascending : IsAscending tops
  pub stand : Covers us (λ p u. (n : Node) × HoldsNode d b log p n × (n.id ≡ root d b log u)) tops
