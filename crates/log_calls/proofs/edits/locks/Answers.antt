use Rattle.record_rows.proofs.ImageFacts.{parent_image}
use Rattle.log_calls.proofs.SplitFacts.{locks_same}
use Rattle.log_calls.proofs.edits.locks.Goals as goal

pub locks-requires-clause-image : goal.locks-requires-clause-image
locks-requires-clause-image g c =
    let (d, b, log, image) = c.requires.image in
    (d, b, log, parent_image d b log (g.W.Words.words c.args.w.now) image)

pub locks-requires-in-Split-clause-image : goal.locks-requires-in-Split-clause-image
locks-requires-in-Split-clause-image g c =
    let (d, b, log, image) = c.requires.image in
    (d, b, log, parent_image d b log (g.W.Words.words c.args.w.now) image)

pub returns-in-Merge-clause-is : goal.returns-in-Merge-clause-is
returns-in-Merge-clause-is g c d b log image = c.locks.ensures.is d b log (parent_image d b log (g.W.Words.words c.args.w.now) image)

pub returns-in-Split-clause-is : goal.returns-in-Split-clause-is
returns-in-Split-clause-is g c d b log image =
    locks_same d b log c.args.edit.now c.locks-in-Split.result (c.locks-in-Split.ensures.is d b log (parent_image d b log (g.W.Words.words c.args.w.now) image))
