use Rattle.row_append.proofs.EndLaws.{has_none, supervoxels_begin, chunks_begin, nodes_begin}
use Rattle.row_append.proofs.laws.chains_begin.Goals as goal

pub returns : goal.returns
returns c = record { none = has_none; supervoxels = supervoxels_begin; chunks = chunks_begin; nodes = nodes_begin }
