use Rattle.std.proofs.Common.{◌≡◌, ℕ, List, length}
use Rattle.op_model.specs.declared.base.Dataset.{Dataset}
use Rattle.op_model.specs.declared.base.Base.{Base}
use Rattle.op_model.specs.declared.entry.Changed.{Changed}
use Rattle.op_model.specs.declared.entry.Entry.{Entry}
use Rattle.record_rows.specs.Readings.{Image, HoldsChange}
use Rattle.record_rows.proofs.WalkLemmas.{steps_left}
use Rattle.undo_redo.proofs.LastChanges.{IsAt}
use Rattle.undo_redo.proofs.pair_changes.last_of_pair.Given as goal

abbrev pub invariant-loop-next : goal.invariant-loop-next
invariant-loop-next g l = record {
  same : l.w ≡ l.fn.w;
  walked : (d : Dataset) (b : Base) (log : List Entry) (entry : ℕ) (c : Changed) → Image d b log (g.W.Words.words l.fn.w) → HoldsChange d b log l.fn.change entry c → IsAt d b log c.pair l.last l.next;
}

abbrev pub decreases-loop-next : goal.decreases-loop-next
decreases-loop-next g l = steps_left (length (g.W.Words.words l.fn.w)) l.next
