use Rattle.op_model.proofs.RetiresLemmas.{retires}
use Rattle.session_machine.proofs.StepLemmas.{start_locked}
use Rattle.session_machine.proofs.RunLemmas.{run_log, start_log}
use Rattle.session_machine.specs.Machine.{start}
use Rattle.flow_laws.proofs.Showing.{choice_exists}
use Rattle.flow_laws.proofs.laws.choices_exist.Goals as goal

pub returns : goal.returns
returns c = λ d b valid base at first clients events allowed.
    choice_exists d b base _
    (run_log d b valid.layout (retires d b valid base) events (start d b at clients) (start_locked d b at clients) allowed (start_log d b at clients first))
