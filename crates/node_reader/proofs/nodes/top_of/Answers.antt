use Rattle.std.proofs.Common.{◌∙◌, ap, arith}
use Rattle.chunk_geometry.specs.Chunks.{top_layer}
use Rattle.op_model.specs.Chunks.{top}
use Rattle.record_rows.proofs.ImageFacts.{header, within}
use Rattle.record_rows.proofs.ToldLaws.{headers_state}
use Rattle.node_reader.proofs.nodes.top_of.Goals as goal

pub fixed-word-requires-clause-within : goal.fixed-word-requires-clause-within
fixed-word-requires-clause-within g c =
    let r = c.requires.image in
    let w = within r.0 r.1 r.2 _ r.3 0 _ (header r.0 r.1 r.2 _ r.3) in
    omega (arith, w)

pub grid_of-requires : goal.grid_of-requires
grid_of-requires g c =
    let r = c.requires.image in
    record { stated = (r.0, r.3.dataset, c.fixed-word.ensures.is ∙ (headers_state r.0 r.1 _ r.2 r.3.parents).1) }

pub returns-clause-is : goal.returns-clause-is
unfolding top
returns-clause-is g c d b log i =
    c.top_layer.ensures.is ∙ ap top_layer (c.grid_of.ensures.is d i.dataset (c.fixed-word.ensures.is ∙ (headers_state d b _ log i.parents).1))
