use Rattle.session_machine.proofs.StepLemmas.{run_locked, start_locked}
use Rattle.session_machine.proofs.StuckLemmas.{some_able}
use Rattle.session_machine.specs.Machine.{run, start}
use Rattle.session_machine.proofs.laws.none_is_stuck.Goals as goal

pub returns : goal.returns
returns c = λ d b at clients events. some_able (run d b events (start d b at clients)) (run_locked d b events (start d b at clients) (start_locked d b at clients))
