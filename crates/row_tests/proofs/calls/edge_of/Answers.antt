use Rattle.op_model.specs.Samples.{base, data_a}
use Rattle.row_tests.proofs.calls.edge_of.Goals as goal

pub find_edge-requires : goal.find_edge-requires
find_edge-requires c = let s = c.requires.sample in record { image = (data_a, base, s.log, s.image) }
