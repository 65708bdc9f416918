use Rattle.std.proofs.Common.{ap}
use Rattle.shared_rows.specs.Known.{Known}
use Rattle.edit_desk.proofs.TurnFacts.{late-appends}
use Rattle.edit_desk.proofs.turning.append.Goals as goal

pub returns-in-Err-clause-appends : goal.returns-in-Err-clause-appends
returns-in-Err-clause-appends g c =
    let plan = c.args.plan.now in
    late-appends c.args.pass.now.view c.remake_at.new.pass.view plan.edit c.args.stamp.line plan.changed c.in-Err.refusal c.requires.plan.1 (ap (λ (k : Known). k.view) c.remake_at.ensures.same) c.in-Err.ensures.refused
