-- Inner: no clause of `run` is made of it.
-- Which prefix and which supervoxels are asked of, and where a walk from a supervoxel up to its root stands.
use Rattle.std.specs.Prelude.{ℕ, ◌≤◌, List, length, IsTrue}
use Rattle.std.specs.List.{AllByRecursion}
use Rattle.op_model.specs.declared.base.Dataset.{Dataset}
use Rattle.op_model.specs.declared.base.Base.{Base}
use Rattle.op_model.specs.declared.entry.Entry.{Entry}
use Rattle.graph_model.specs.Lists.{has}
use Rattle.op_model.specs.Chunks.{layers}
use Rattle.op_model.specs.Transcript.{log_at}
use Rattle.record_rows.specs.Versions.{child_at}
use Rattle.record_rows.specs.Readings.{HoldsId, ParentImage}

-- just below the supervoxel's node of this layer, at this prefix
pub record IsBelow (d : Dataset) (b : Base) (log : List Entry) (words : List ℕ) (prefix layer v spot : ℕ) : Type 0 where
  pub image : ParentImage d b log words
  pub layered : IsTrue (has (layers d) layer)
  pub known : IsTrue (has b.supervoxels v)
  pub low : 1 ≤ prefix
  pub high : prefix ≤ length log
  pub at : HoldsId d b log spot (child_at d b (log_at d b log prefix) layer v)

-- the words tell of nodes and parents, and the log has entries up to the prefix
pub record IsReadable (d : Dataset) (b : Base) (log : List Entry) (words : List ℕ) (prefix : ℕ) : Type 0 where
  pub image : ParentImage d b log words
  pub low : 1 ≤ prefix
  pub high : prefix ≤ length log

-- each is a supervoxel of the base
abbrev pub AreKnown : Base → List ℕ → Type 0
AreKnown b ids = AllByRecursion (λ v. IsTrue (has b.supervoxels v)) ids
