use Rattle.op_model.proofs.RetiresLemmas.{retires}
use Rattle.session_machine.proofs.StepLemmas.{run_locked, start_locked}
use Rattle.session_machine.proofs.RunLemmas.{run_log, start_log}
use Rattle.session_machine.proofs.FinishLemmas.{able_falls}
use Rattle.session_machine.specs.Machine.{run, start}
use Rattle.session_machine.proofs.laws.work_falls.Goals as goal

pub returns : goal.returns
returns c = λ d b valid base at first clients events allowed x k s q able.
    able_falls d b x k (run d b events (start d b at clients)) s
    (run_locked d b events (start d b at clients) (start_locked d b at clients))
    (run_log d b valid.layout (retires d b valid base) events (start d b at clients) (start_locked d b at clients) allowed (start_log d b at clients first)) q able
