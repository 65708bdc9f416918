use Rattle.chunk_geometry.proofs.LayerLemmas.{top_chunk}
use Rattle.chunk_geometry.proofs.laws.top_has_one_chunk.Goals as goal

pub returns : goal.returns
returns c = top_chunk
