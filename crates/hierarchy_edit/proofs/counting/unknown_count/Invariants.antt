use Rattle.std.proofs.Common.{◌≡◌, ◌≤◌, List, take}
use Rattle.op_model.specs.declared.base.Dataset.{Dataset}
use Rattle.op_model.specs.declared.base.Base.{Base}
use Rattle.op_model.specs.declared.entry.Entry.{Entry}
use Rattle.op_model.specs.Records.{unknown_count}
use Rattle.record_rows.specs.Readings.{Image}
use Rattle.hierarchy_edit.proofs.counting.unknown_count.Given as goal

abbrev pub invariant-loop-change : goal.invariant-loop-change
invariant-loop-change g l = record {
  same : l.w ≡ l.fn.w;
  few : l.count ≤ l.change-index;
  is : (d : Dataset) (b : Base) (log : List Entry) → Image d b log (g.W.Words.words l.fn.w) → l.count ≡ unknown_count d b log (take l.change-index l.changed);
}
