use Rattle.std.proofs.Common.{◌≡◌, ℕ, List, take}
use Rattle.op_model.specs.declared.base.Dataset.{Dataset}
use Rattle.op_model.specs.declared.base.Base.{Base}
use Rattle.op_model.specs.declared.entry.Entry.{Entry}
use Rattle.record_rows.specs.Readings.{ParentImage}
use Rattle.touched_paths.specs.Climbing.{AreTops}
use Rattle.touched_part.proofs.Gathering.{AreLeaves}
use Rattle.touched_part.proofs.leaves.leaves_of.Given as goal

abbrev pub invariant-loop-place : goal.invariant-loop-place
invariant-loop-place g l = record {
  same : l.w ≡ l.fn.w;
  leaves :
      (d : Dataset) (b : Base) (log : List Entry) (us : List ℕ) → ParentImage d b log (g.W.Words.words l.fn.w) → AreTops d b log us l.tops
      → AreLeaves d b log (take l.place l.tops) l.list.items;
}
