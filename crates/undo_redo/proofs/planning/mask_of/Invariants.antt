use Rattle.std.proofs.Common.{◌≡◌, ℕ, List, map, length}
use Rattle.op_model.specs.declared.base.Dataset.{Dataset}
use Rattle.op_model.specs.declared.base.Base.{Base}
use Rattle.op_model.specs.declared.entry.Changed.{Changed}
use Rattle.op_model.specs.declared.entry.Entry.{Entry}
use Rattle.graph_model.specs.Lists.{has}
use Rattle.op_model.specs.Labels.{root}
use Rattle.op_model.specs.Operations.{ends}
use Rattle.record_rows.specs.Chains.{change_in}
use Rattle.record_rows.specs.Readings.{Image}
use Rattle.record_rows.proofs.WalkLemmas.{steps_left}
use Rattle.log_rows.proofs.ChangeWords.{change_told}
use Rattle.log_rows.proofs.ChainWalk.{AllAlong}
use Rattle.op_model.specs.Locks.{lock_of}
use Rattle.root_masks.specs.Masks.{has_bit}
use Rattle.undo_redo.proofs.planning.mask_of.Given as goal

abbrev pub invariant-loop-next : goal.invariant-loop-next
invariant-loop-next g l = record {
  same : l.w ≡ l.fn.w;
  walked :
      (found : List Changed) × AllAlong (g.W.Words.words l.fn.w) (change_in l.fn.n) (change_told l.fn.n) found l.next
      × ((d : Dataset) (b : Base) (log : List Entry) → Image d b log (g.W.Words.words l.fn.w) → (k : ℕ) → has_bit l.mask k ≡ has (map (lock_of d.layout) (map (root d b log) (ends found))) k);
}

abbrev pub decreases-loop-next : goal.decreases-loop-next
decreases-loop-next g l = steps_left (length (g.W.Words.words l.fn.w)) l.next
