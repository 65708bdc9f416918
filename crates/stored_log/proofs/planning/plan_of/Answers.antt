use Rattle.edit_answers.proofs.Answering.{plans_are}
use Rattle.stored_log.proofs.planning.plan_of.Goals as goal

pub returns-clause-is : goal.returns-clause-is
returns-clause-is g c d b log image = plans_are d b log c.args.edit c.plan.result (c.plan.ensures.is d b log image)
