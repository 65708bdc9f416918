use Rattle.std.proofs.Common.{◌≡◌, List, drop}
use Rattle.op_model.specs.declared.base.Dataset.{Dataset}
use Rattle.op_model.specs.declared.base.Base.{Base}
use Rattle.op_model.specs.declared.entry.Entry.{Entry}
use Rattle.op_model.specs.Edges.{named_ends}
use Rattle.record_rows.specs.Readings.{ParentImage}
use Rattle.root_masks.specs.Plans.{AreKnown}
use Rattle.edit_merge.specs.Plans.{first_joined}
use Rattle.edit_merge.proofs.refusing.joined_pair.Given as goal

abbrev pub invariant-loop-done : goal.invariant-loop-done
invariant-loop-done g l = record {
  same : l.w ≡ l.fn.w;
  left :
      (d : Dataset) (b : Base) (log : List Entry) → ParentImage d b log (g.W.Words.words l.fn.w) → AreKnown b (named_ends l.pairs)
      → first_joined d b log l.pairs ≡ first_joined d b log (drop l.done l.pairs);
}
