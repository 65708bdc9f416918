use Rattle.op_model.proofs.RetiresLemmas.{retires}
use Rattle.session_machine.proofs.StepLemmas.{run_locked, start_locked}
use Rattle.session_machine.proofs.RunLemmas.{run_log, start_log}
use Rattle.session_machine.proofs.EventLemmas.{le_self}
use Rattle.session_machine.proofs.FinishLemmas.{finish}
use Rattle.session_machine.specs.Machine.{run, start}
use Rattle.session_machine.specs.Play.{work}
use Rattle.session_machine.proofs.laws.finish_ends.Goals as goal

pub returns : goal.returns
returns c = λ d b valid base at first clients events allowed choose then.
    finish d b valid.layout (retires d b valid base) choose (work (run d b events (start d b at clients))) (run d b events (start d b at clients)) (le_self (work (run d b events (start d b at clients))))
    (run_locked d b events (start d b at clients) (start_locked d b at clients))
    (run_log d b valid.layout (retires d b valid base) events (start d b at clients) (start_locked d b at clients) allowed (start_log d b at clients first)) then
