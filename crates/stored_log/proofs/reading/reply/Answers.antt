use Rattle.stored_log.proofs.ReadFacts.{answered}
use Rattle.stored_log.proofs.reading.reply.Goals as goal

pub returns-clause-is : goal.returns-clause-is
returns-clause-is g c d b log image = answered d b log c.args.read.now c.answer.result (c.answer.ensures.is d b log image)
