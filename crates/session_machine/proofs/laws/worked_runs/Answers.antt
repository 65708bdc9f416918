-- Every run computes.
use Rattle.std.proofs.Common.{refl}
use Rattle.op_model.proofs.Opened.{definitions}
use Rattle.op_model.specs.Locks.{lock_of, locks_of}
use Rattle.op_model.specs.Stamps.{stamp}
use Rattle.session_machine.specs.Machine.{holds_all}
use Rattle.session_machine.specs.Play.{first_able, stale, cost, client_work, total, work, finishing, play}
use Rattle.session_machine.proofs.laws.worked_runs.Goals as goal

pub returns : goal.returns
unfolding definitions lock_of locks_of holds_all stamp first_able stale cost client_work total work finishing play
returns c = record { one_after_the_other = refl; first_reply = refl; ended = refl; in_turn = refl; replies = refl; all_ended = refl; free = refl }
