-- Inner: no clause of `run` is made of it.
-- Which crate answers an edit.
use Rattle.op_model.specs.declared.request.Edit.{Edit}
use Rattle.edit_merge.specs.Plans.{IsMerge}
use Rattle.edit_split.specs.Marks.{IsSplit}
use Rattle.undo_redo.specs.Turns.{IsTurn}
use Rattle.log_calls.specs.declared.edits.Form.{Form}
use Rattle.log_calls.specs.declared.edits.Form.TheVariants as form

-- the edit is of this form
abbrev pub IsOf : Edit → Form → Type 0
IsOf edit form.Merge = IsMerge edit
IsOf edit form.Split = IsSplit edit
IsOf edit form.Turn = IsTurn edit
