use Rattle.op_model.proofs.RetiresLemmas.{retires}
use Rattle.session_machine.proofs.StepLemmas.{start_locked}
use Rattle.session_machine.proofs.RunLemmas.{start_log}
use Rattle.session_machine.proofs.HeldLemmas.{run_holds, start_holds}
use Rattle.session_machine.specs.Machine.{start}
use Rattle.session_machine.proofs.laws.locks_are_held.Goals as goal

pub returns : goal.returns
returns c = λ d b valid base at first clients events allowed.
    run_holds d b valid.layout (retires d b valid base) events (start d b at clients) (start_locked d b at clients) allowed (start_log d b at clients first) (start_holds d b clients)
