use Rattle.std.proofs.Common.{◌≡◌, List, drop}
use Rattle.op_model.specs.declared.base.Dataset.{Dataset}
use Rattle.op_model.specs.declared.base.Base.{Base}
use Rattle.op_model.specs.declared.entry.Entry.{Entry}
use Rattle.op_model.specs.Refusals.{refuse_unknown}
use Rattle.record_rows.specs.Readings.{ParentImage}
use Rattle.edit_split.proofs.refusing.unknown_in.Given as goal

abbrev pub invariant-loop-at : goal.invariant-loop-at
invariant-loop-at g l = record {
  same : l.w ≡ l.fn.w;
  left : (d : Dataset) (b : Base) (log : List Entry) → ParentImage d b log (g.W.Words.words l.fn.w) → refuse_unknown d b l.marks ≡ refuse_unknown d b (drop l.at l.marks);
}
