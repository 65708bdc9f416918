use Rattle.session_machine.proofs.StepLemmas.{run_locked, start_locked}
use Rattle.session_machine.specs.Machine.{start}
use Rattle.session_machine.proofs.laws.runs_keep_locks.Goals as goal

pub returns : goal.returns
returns c = λ d b at clients events. run_locked d b events (start d b at clients) (start_locked d b at clients)
