use Rattle.std.proofs.Common.{suc, subst}
use Rattle.op_model.proofs.RetiresLemmas.{retires}
use Rattle.session_machine.proofs.StepLemmas.{start_locked}
use Rattle.session_machine.proofs.RunLemmas.{run_log, start_log}
use Rattle.session_machine.proofs.AgainLemmas.{forced}
use Rattle.session_machine.specs.Machine.{run, start}
use Rattle.session_machine.specs.Invariant.{ClientHistory}
use Rattle.session_machine.proofs.laws.again_is_forced.Goals as goal

pub returns : goal.returns
returns c = λ d b valid base at first clients events allowed k s edit q p h.
    let o = run_log d b valid.layout (retires d b valid base) events (start d b at clients) (start_locked d b at clients) allowed (start_log d b at clients first) in
    forced d b valid.layout (run d b events (start d b at clients)).shared.log (suc k) s edit o.legal
    (subst (ClientHistory d b (run d b events (start d b at clients)).shared.log (suc k) s) p (o.clients k s q)) h
