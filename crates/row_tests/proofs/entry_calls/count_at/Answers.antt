use Rattle.op_model.specs.Samples.{base, data_a}
use Rattle.record_rows.proofs.ImageFacts.{parent_image}
use Rattle.row_tests.proofs.entry_calls.count_at.Goals as goal

pub prefix_at-requires : goal.prefix_at-requires
prefix_at-requires c = let s = c.requires.sample in record { image = (data_a, base, s.log, parent_image data_a base s.log _ s.image) }
