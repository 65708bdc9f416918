use Rattle.std.proofs.Common.{◌≡◌, ◌||◌, ℕ, List, drop, map}
use Rattle.op_model.specs.declared.base.Dataset.{Dataset}
use Rattle.op_model.specs.declared.base.Base.{Base}
use Rattle.op_model.specs.declared.entry.Entry.{Entry}
use Rattle.graph_model.specs.Lists.{has}
use Rattle.op_model.specs.Edges.{named_ends}
use Rattle.op_model.specs.Labels.{root}
use Rattle.record_rows.specs.Readings.{ParentImage}
use Rattle.op_model.specs.Locks.{lock_of}
use Rattle.root_masks.specs.Masks.{has_bit}
use Rattle.root_masks.specs.Plans.{AreKnown}
use Rattle.edit_merge.proofs.planning.mask_of.Given as goal

abbrev pub invariant-loop-done : goal.invariant-loop-done
invariant-loop-done g l = record {
  same : l.w ≡ l.fn.w;
  left :
      (d : Dataset) (b : Base) (log : List Entry) → ParentImage d b log (g.W.Words.words l.fn.w) → AreKnown b (named_ends l.pairs) → (n : ℕ)
      → (has_bit l.mask n || has (map (lock_of d.layout) (map (root d b log) (named_ends (drop l.done l.pairs)))) n) ≡ has (map (lock_of d.layout) (map (root d b log) (named_ends l.pairs))) n;
}
