use Rattle.std.proofs.Common.{◌≡◌, List, None, length}
use Rattle.op_model.specs.declared.base.Dataset.{Dataset}
use Rattle.op_model.specs.declared.base.Base.{Base}
use Rattle.op_model.specs.declared.entry.Changed.{Changed}
use Rattle.op_model.specs.declared.entry.Entry.{Entry}
use Rattle.op_model.specs.Labels.{edges}
use Rattle.record_rows.specs.Chains.{change_in}
use Rattle.record_rows.specs.Readings.{Image}
use Rattle.record_rows.proofs.WalkLemmas.{steps_left}
use Rattle.log_rows.proofs.ChangeWords.{change_told}
use Rattle.log_rows.proofs.ChainWalk.{AllAlong}
use Rattle.std.specs.List.{find}
use Rattle.undo_redo.specs.Turns.{is_overtaken}
use Rattle.undo_redo.proofs.overtaking.overtaken_by.Given as goal

abbrev pub invariant-loop-next : goal.invariant-loop-next
invariant-loop-next g l = record {
  same : l.w ≡ l.fn.w;
  walked :
      (found : List Changed) × AllAlong (g.W.Words.words l.fn.w) (change_in l.fn.n) (change_told l.fn.n) found l.next
      × ((d : Dataset) (b : Base) (log : List Entry) → Image d b log (g.W.Words.words l.fn.w) → find (is_overtaken (edges d b log)) found ≡ None);
}

abbrev pub decreases-loop-next : goal.decreases-loop-next
decreases-loop-next g l = steps_left (length (g.W.Words.words l.fn.w)) l.next
