use Rattle.std.proofs.Common.{◌≡◌, ◌≤◌, ◌-◌, List}
use Rattle.op_model.specs.declared.base.Dataset.{Dataset}
use Rattle.op_model.specs.declared.base.Base.{Base}
use Rattle.op_model.specs.declared.entry.Entry.{Entry}
use Rattle.record_rows.specs.Rows.{Node}
use Rattle.record_rows.specs.Readings.{ParentImage, HoldsNode}
use Rattle.parent_rows.proofs.Leaps.{InRun}
use Rattle.parent_rows.proofs.runs.leap.Given as goal

abbrev pub invariant-loop-middle : goal.invariant-loop-middle
invariant-loop-middle g l =
    (l.w ≡ l.fn.w)
    × ((d : Dataset) (b : Base) (log : List Entry) (n : Node) → ParentImage d b log (g.W.Words.words l.fn.w) → HoldsNode d b log l.fn.first n → n.id ≤ l.fn.id → InRun d b log n l.fn.first l.fn.id l.low l.high)

abbrev pub decreases-loop-middle : goal.decreases-loop-middle
decreases-loop-middle g l = l.high - l.low
