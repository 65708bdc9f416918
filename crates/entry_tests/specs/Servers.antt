-- Inner: no clause of `run` is made of it.
-- What stands in the words of a log that edits are put into.
use Rattle.std.specs.Prelude.{ℕ, ◌+◌, ◌*◌, ◌≤◌, List, length}
use Rattle.op_model.specs.declared.base.Dataset.{Dataset}
use Rattle.op_model.specs.declared.base.Base.{Base}
use Rattle.op_model.specs.declared.entry.Entry.{Entry}
use Rattle.op_model.specs.declared.entry.Plan.{Plan}
use Rattle.op_model.specs.Legal.{LegalPlan}
use Rattle.record_rows.specs.Readings.{Image}

-- the words are the image of a log of the dataset, and there is room for all further records
pub record IsServer (d : Dataset) (words : List ℕ) (spare : ℕ) : Type 0 where
  pub b : Base
  pub log : List Entry
  pub image : Image d b log words
  pub room : 8 * d.capacity ≤ length words + spare

-- the plan is legal at a log whose image the words are
pub record IsPlanned (d : Dataset) (words : List ℕ) (p : Plan) : Type 0 where
  pub b : Base
  pub log : List Entry
  pub image : Image d b log words
  pub legal : LegalPlan d b log p.edit p.changed
