use Rattle.log_calls.proofs.ReadFacts.{image_for}
use Rattle.log_calls.proofs.reads.answer.Goals as goal

pub answer-requires : goal.answer-requires
answer-requires g c =
    let (d, b, log, image) = c.requires.image in
    record { image = (d, b, log, image_for c.args.read.now d b log (g.W.Words.words c.args.w.now) image) }

pub returns-clause-is : goal.returns-clause-is
returns-clause-is g c d b log image = c.answer.ensures.is d b log (image_for c.args.read.now d b log (g.W.Words.words c.args.w.now) image)
