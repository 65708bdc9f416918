-- The image of a log serves each read.
use Rattle.std.proofs.Common.{ℕ, List}
use Rattle.op_model.specs.declared.base.Dataset.{Dataset}
use Rattle.op_model.specs.declared.base.Base.{Base}
use Rattle.op_model.specs.declared.entry.Entry.{Entry}
use Rattle.op_model.specs.declared.request.Read.{Read}
use Rattle.op_model.specs.declared.request.Read.TheVariants as read
use Rattle.record_rows.specs.Readings.{Image}
use Rattle.record_rows.proofs.ImageFacts.{parent_image}
use Rattle.timestamp_reader.specs.Replies.{ImageFor}

pub image_for : (q : Read) (d : Dataset) (b : Base) (log : List Entry) (words : List ℕ) → Image d b log words → ImageFor q d b log words
image_for (read.Root v at) d b log words i = parent_image d b log words i
image_for (read.Path v at) d b log words i = parent_image d b log words i
image_for (read.Leaves root at) d b log words i = parent_image d b log words i
image_for (read.Changes root at) d b log words i = i
