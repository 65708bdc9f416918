use Rattle.std.proofs.Common.{◌≡◌, ℕ, List, take}
use Rattle.op_model.specs.declared.base.Dataset.{Dataset}
use Rattle.op_model.specs.declared.base.Base.{Base}
use Rattle.op_model.specs.declared.entry.Entry.{Entry}
use Rattle.record_rows.specs.Readings.{ParentImage}
use Rattle.touched_paths.specs.Climbing.{AreTops, Covers}
use Rattle.touched_paths.proofs.Passing.{Named}
use Rattle.touched_paths.proofs.paths.root_ids.Given as goal

abbrev pub invariant-loop-place : goal.invariant-loop-place
invariant-loop-place g l = record {
  same : l.w ≡ l.fn.w;
  named :
      (d : Dataset) (b : Base) (log : List Entry) (us : List ℕ) → ParentImage d b log (g.W.Words.words l.fn.w) → AreTops d b log us l.tops
      → Covers (take l.place l.tops) (Named d b log) l.list.items;
}
