use Rattle.std.proofs.Common.{◌∙◌, ap, refl}
use Rattle.session_machine.specs.Machine.{is_able, is_ended}
use Rattle.core_steps.proofs.SteppingLemmas.{lines_left}
use Rattle.core_steps.proofs.stepping.step_at.Goals as goal

pub returns-in-Blocked-clause-is : goal.returns-in-Blocked-clause-is
returns-in-Blocked-clause-is g c = λ d b sh s k.
    let x = c.in-Blocked.ensures sh s c.args.client c.args.me.now.taken k.table (lines_left k) k.client.rest.faulty in
    (ap (is_able sh s) k.client.phase ∙ x.0, ap (is_ended s) k.client.phase ∙ x.1, x.2, refl, refl, refl, refl)

pub returns-in-Ended-clause-is : goal.returns-in-Ended-clause-is
returns-in-Ended-clause-is g c = λ d b sh s k.
    let x = c.in-Ended.ensures sh s c.args.client c.args.me.now.taken k.table (lines_left k) k.client.rest.faulty in
    (ap (is_able sh s) k.client.phase ∙ x.0, ap (is_ended s) k.client.phase ∙ x.1, refl, refl, refl, refl)
