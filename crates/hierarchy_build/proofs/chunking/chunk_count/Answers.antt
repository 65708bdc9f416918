use Rattle.std.proofs.Common.{length, ap, sym, ◌∙◌, arith}
use Rattle.hierarchy_build.specs.Chunked.{chunks_behind}
use Rattle.hierarchy_build.proofs.LayerChunks.{chunks_are, chunks_few}
use Rattle.hierarchy_build.proofs.PlacedNodes.{chunks_left, chunks_gone}
use Rattle.hierarchy_build.proofs.chunking.chunk_count.Goals as goal

pub overflow_add-count : goal.overflow_add-count
overflow_add-count c =
    let d = c.args.dataset.now in
    let b = c.args.base.now in
    let whole = ap length (chunks_are d b c.requires.dataset c.requires.base 0 c.args.layers.now c.requires.count (c.requires.layers 0)) in
    let few = chunks_few d b c.requires.dataset c.requires.base in
    let left = chunks_left c.args.layers.now c.loop-layer.layer-index c.layer-item.result c.loop-layer-test.true c.layer-item.is in
    let same = ap (λ ms. length (chunks_behind 0 ms)) c.deref.ensures.value in
    let n = c.chunks_in-count.ensures in
    let i = c.loop-layer.invariant in
    omega (arith, whole, few, left, same, n, i)

pub returns : goal.returns
returns c =
    let l = c.loop-layer in
    sym (chunks_gone l.count c.args.layers.now l.layer-index c.loop-layer-test.false)
    ∙ (l.invariant ∙ ap length (chunks_are c.args.dataset.now c.args.base.now c.requires.dataset c.requires.base 0 c.args.layers.now c.requires.count (c.requires.layers 0)))
