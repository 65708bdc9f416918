use Rattle.std.proofs.Common.{◌≡◌, List, length}
use Rattle.op_model.specs.declared.base.Dataset.{Dataset}
use Rattle.op_model.specs.declared.base.Base.{Base}
use Rattle.op_model.specs.declared.entry.Entry.{Entry}
use Rattle.record_rows.specs.Rows.{Row}
use Rattle.record_rows.specs.Readings.{Holds, ParentImage}
use Rattle.row_tests.specs.Logs.{IsUntold}
use Rattle.row_tests.proofs.emptying.clear.Given as goal

abbrev pub invariant-loop-k : goal.invariant-loop-k
invariant-loop-k l =
    ((d : Dataset) (b : Base) (log : List Entry) (row : Row) → ParentImage d b log l.fn.w.words → Holds d b log l.fn.place row → IsUntold row → ParentImage d b log l.w.words)
    × (length l.w.words ≡ length l.fn.w.words)
