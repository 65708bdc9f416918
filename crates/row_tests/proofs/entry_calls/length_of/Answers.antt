use Rattle.op_model.specs.Samples.{base, data_a}
use Rattle.record_rows.proofs.ImageFacts.{parent_image}
use Rattle.row_tests.proofs.entry_calls.length_of.Goals as goal

pub length-requires : goal.length-requires
length-requires c = let s = c.requires.sample in record { image = (data_a, base, s.log, parent_image data_a base s.log _ s.image) }
