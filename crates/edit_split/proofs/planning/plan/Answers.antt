use Rattle.edit_split.proofs.Uncut.{plan_or_unplanned}
use Rattle.edit_split.proofs.planning.plan.Goals as goal

pub returns-in-Ok-clause-is : goal.returns-in-Ok-clause-is
returns-in-Ok-clause-is g c d b log i = plan_or_unplanned d b log c.args.edit c.in-Ok.shown c.plan_of.result c.requires.kind (c.in-Ok.ensures.is d b log i) c.plan_of.ensures
