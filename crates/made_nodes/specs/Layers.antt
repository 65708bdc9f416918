-- Inner: no clause of `run` is made of it.
-- What the new nodes of a layer are found from.
use Rattle.std.specs.Prelude.{ℕ, List, ◌∷◌, IsTrue}
use Rattle.graph_model.specs.Lists.{has}
use Rattle.op_model.specs.declared.base.Dataset.{Dataset}
use Rattle.op_model.specs.declared.base.Base.{Base}
use Rattle.op_model.specs.declared.entry.Entry.{Entry}
use Rattle.op_model.specs.Valid.{IsAscending}
use Rattle.record_rows.specs.Readings.{ParentImage}
use Rattle.entry_parts.specs.Parts.{AreEndsAt, AreFirstsOf}

-- The words tell of a log, and an entry e is to follow. These are supervoxels, ascending, the places of the changed ends among them, and the places of the least leaves of their nodes of the layer, which are among them too.
pub record IsTouched (d : Dataset) (b : Base) (log : List Entry) (e : Entry) (words ids ends : List ℕ) (layer : ℕ) (firsts : List ℕ) : Type 0 where
  pub image : ParentImage d b log words
  pub ascending : IsAscending ids
  pub known : (v : ℕ) → IsTrue (has ids v) → IsTrue (has b.supervoxels v)
  pub ends_at : AreEndsAt ids e.changed ends
  pub firsts_of : AreFirstsOf d b (e ∷ log) ids layer firsts
