use Rattle.edit_answers.proofs.Answering.{locks_are}
use Rattle.stored_log.proofs.planning.locks_of.Goals as goal

pub returns-clause-is : goal.returns-clause-is
returns-clause-is g c d b log image = locks_are d b log c.args.edit.now c.locks.result (c.locks.ensures.is d b log image)
