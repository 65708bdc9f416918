use Rattle.op_model.proofs.RetiresLemmas.{retires}
use Rattle.session_machine.proofs.StepLemmas.{run_locked, start_locked}
use Rattle.session_machine.proofs.RunLemmas.{run_log, start_log}
use Rattle.session_machine.specs.Machine.{run, start}
use Rattle.flow_laws.proofs.Playing.{plays}
use Rattle.flow_laws.proofs.laws.plays_exist.Goals as goal

pub returns : goal.returns
returns c = λ d b valid base at first clients events allowed.
    plays d b base valid.layout (retires d b valid base) (run d b events (start d b at clients))
    (run_locked d b events (start d b at clients) (start_locked d b at clients))
    (run_log d b valid.layout (retires d b valid base) events (start d b at clients) (start_locked d b at clients) allowed (start_log d b at clients first))
