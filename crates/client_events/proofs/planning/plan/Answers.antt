use Rattle.client_events.proofs.PlanLemmas.{plans_ok}
use Rattle.client_events.proofs.planning.plan.Goals as goal

pub returns-in-Ok-clause-is : goal.returns-in-Ok-clause-is
returns-in-Ok-clause-is g c = λ d b sh s client line stands seen bits legal history.
    let p = c.in-Ok.ensures.is d b sh.log stands in
    plans_ok d b sh s client line c.args.seen c.args.edit seen bits legal history c.in-Ok.plan p.0 p.1 p.2 p.3
