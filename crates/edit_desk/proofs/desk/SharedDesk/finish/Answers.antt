use Rattle.edit_desk.proofs.Going.{edits-left}
use Rattle.edit_desk.proofs.desk.SharedDesk.finish.Goals as goal

pub returns-clause-edits : goal.returns-clause-edits
returns-clause-edits g c =
    edits-left c.args.pass.now.view c.plan_and_commit-reply.new.pass.view c.unlock.new.pass.view c.args.edit c.args.line c.plan_and_commit-reply.result c.plan_and_commit-reply.ensures.edits c.unlock.ensures.none
