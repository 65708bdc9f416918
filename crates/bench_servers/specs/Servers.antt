-- Inner: no clause of `run` is made of it.
-- What stands in the words of a log that edits are put into.
use Rattle.std.specs.Prelude.{◌≡◌, ℕ, ◌+◌, ◌*◌, ◌≤◌, List, length, true}
use Rattle.op_model.specs.declared.base.Dataset.{Dataset}
use Rattle.op_model.specs.declared.base.Base.{Base}
use Rattle.op_model.specs.declared.entry.Entry.{Entry}
use Rattle.op_model.specs.declared.entry.Plan.{Plan}
use Rattle.op_model.specs.declared.request.Edit.{Edit}
use Rattle.graph_model.specs.Lists.{has}
use Rattle.op_model.specs.Legal.{LegalPlan}
use Rattle.record_rows.specs.Readings.{HoldsNode, Image}
use Rattle.record_rows.specs.Rows.{Node}
use Rattle.edit_merge.specs.Plans.{IsMerge}
use Rattle.edit_split.specs.Marks.{IsSplit}
use Rattle.undo_redo.specs.Turns.{IsTurn}
use Rattle.bench_servers.specs.declared.forms.Form.{Form}
use Rattle.bench_servers.specs.declared.forms.Form.TheVariants as form

-- the words are the image of a log of the dataset, and there is room for all further records
pub record IsServer (d : Dataset) (words : List ℕ) (spare : ℕ) : Type 0 where
  pub b : Base
  pub log : List Entry
  pub image : Image d b log words
  pub room : 8 * d.capacity ≤ length words + spare

-- the plan is legal at a log whose image the words are
pub record IsPlanned (d : Dataset) (words : List ℕ) (p : Plan) : Type 0 where
  pub b : Base
  pub log : List Entry
  pub image : Image d b log words
  pub legal : LegalPlan d b log p.edit p.changed

-- the base of that log has the supervoxel
pub record HasSupervoxel (d : Dataset) (words : List ℕ) (v : ℕ) : Type 0 where
  pub b : Base
  pub log : List Entry
  pub image : Image d b log words
  pub known : has b.supervoxels v ≡ true

-- a node's record stands at the place
pub record HasNode (d : Dataset) (words : List ℕ) (place : ℕ) : Type 0 where
  pub b : Base
  pub log : List Entry
  pub node : Node
  pub image : Image d b log words
  pub holds : HoldsNode d b log place node

-- the edit is of this form
abbrev pub IsOf : Edit → Form → Type 0
IsOf edit form.Merge = IsMerge edit
IsOf edit form.Split = IsSplit edit
IsOf edit form.Turn = IsTurn edit
