use Rattle.std.proofs.Common.{◌≡◌, length}
use Rattle.record_rows.proofs.WalkLemmas.{steps_left}
use Rattle.log_rows.proofs.TurnWalks.{AllTurned}
use Rattle.log_rows.proofs.turning.last_from.Given as goal

abbrev pub invariant-loop-at : goal.invariant-loop-at
invariant-loop-at g l = (l.w ≡ l.initial.w) × AllTurned (g.W.Words.words l.initial.w) l.fn.op l.fn.first l.found l.at

abbrev pub decreases-loop-at : goal.decreases-loop-at
decreases-loop-at g l = steps_left (length (g.W.Words.words l.initial.w)) l.at
