use Rattle.record_rows.proofs.ImageFacts.{parent_image}
use Rattle.stored_log.proofs.serving.StoredLogRows.length.Goals as goal

pub length-requires : goal.length-requires
length-requires c =
    let (d, b, log, rows) = c.requires in
    record { image = (d, b, log, parent_image d b log c.args.self.now.words.words rows.image) }

pub returns-clause-is : goal.returns-clause-is
returns-clause-is c d b log rows = c.length.ensures.is d b log (parent_image d b log c.args.self.now.words.words rows.image)
