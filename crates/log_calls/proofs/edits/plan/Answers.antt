use Rattle.record_rows.proofs.ImageFacts.{parent_image}
use Rattle.log_calls.proofs.SplitFacts.{plan_same}
use Rattle.log_calls.proofs.edits.plan.Goals as goal

pub plan-requires-clause-image : goal.plan-requires-clause-image
plan-requires-clause-image g c =
    let (d, b, log, image) = c.requires.image in
    (d, b, log, parent_image d b log (g.W.Words.words c.args.w.now) image)

pub returns-in-Merge-clause-is : goal.returns-in-Merge-clause-is
returns-in-Merge-clause-is g c d b log image = c.plan.ensures.is d b log (parent_image d b log (g.W.Words.words c.args.w.now) image)

pub returns-in-Split-clause-is : goal.returns-in-Split-clause-is
returns-in-Split-clause-is g c d b log image =
    plan_same d b log c.args.edit c.plan-in-Split.result (c.plan-in-Split.ensures.is d b log image)
