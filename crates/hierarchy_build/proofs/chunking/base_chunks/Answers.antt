use Rattle.std.proofs.Common.{◌∙◌, ap}
use Rattle.std.proofs.lemmas.List.{take_all}
use Rattle.hierarchy_build.specs.Chunked.{all_chunks}
use Rattle.hierarchy_build.proofs.LayerChunks.{chunks_are}
use Rattle.hierarchy_build.proofs.chunking.base_chunks.Goals as goal

pub returns : goal.returns
returns c =
    let l = c.loop-layer in
    l.invariant ∙ (ap all_chunks (take_all l.layer-index c.args.layers.now c.loop-layer-test.false) ∙ chunks_are c.args.dataset.now c.args.base.now c.requires.dataset c.requires.base 0 c.args.layers.now c.requires.count (c.requires.layers 0))
