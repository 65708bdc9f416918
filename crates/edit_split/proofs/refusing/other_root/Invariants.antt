use Rattle.std.proofs.Common.{◌≡◌, List, drop}
use Rattle.op_model.specs.declared.base.Dataset.{Dataset}
use Rattle.op_model.specs.declared.base.Base.{Base}
use Rattle.op_model.specs.declared.entry.Entry.{Entry}
use Rattle.record_rows.specs.Readings.{ParentImage}
use Rattle.root_masks.specs.Plans.{AreKnown}
use Rattle.edit_split.specs.Marks.{refuse_other}
use Rattle.edit_split.proofs.refusing.other_root.Given as goal

abbrev pub invariant-loop-at : goal.invariant-loop-at
invariant-loop-at g l = record {
  same : l.w ≡ l.fn.w;
  left :
      (d : Dataset) (b : Base) (log : List Entry) → ParentImage d b log (g.W.Words.words l.fn.w) → AreKnown b l.marks
      → refuse_other d b log l.fn.first l.marks ≡ refuse_other d b log l.fn.first (drop l.at l.marks);
}
