use Rattle.std.proofs.Common.{◌≤◌, ◌<◌, ◌^◌, arith, sym, subst}
use Rattle.op_model.specs.Chunks.{top}
use Rattle.op_model.proofs.ChunkLemmas.{packs, chunk_small, top_low}
use Rattle.op_model.proofs.chunks.chunk.Goals as goal

pub chunk_at-cell-requires-clause-layer : goal.chunk_at-cell-requires-clause-layer
unfolding top
chunk_at-cell-requires-clause-layer c = (omega arith, c.requires.layer.1)

pub unreachable-requires : goal.unreachable-requires
unreachable-requires c =
    let low : c.args.layer < 2 ^ 8 = let h = top_low c.args.dataset.now in omega (arith, c.requires.layer.1, h) in
    let e = packs c.args.dataset.now c.requires.dataset.layout c.args.layer low c.args.sv
    c.unpack-parts.result c.chunk_at-cell.result c.pack.result c.unpack-parts.ensures c.chunk_at-cell.ensures c.pack.ensures in
    let f = c.in-Err.is in cc

pub returns-clause-is : goal.returns-clause-is
returns-clause-is c =
    let low : c.args.layer < 2 ^ 8 = let h = top_low c.args.dataset.now in omega (arith, c.requires.layer.1, h) in
    let e = packs c.args.dataset.now c.requires.dataset.layout c.args.layer low c.args.sv
    c.unpack-parts.result c.chunk_at-cell.result c.pack.result c.unpack-parts.ensures c.chunk_at-cell.ensures c.pack.ensures in
    let f = c.in-Ok.is in cc

pub returns-clause-small : goal.returns-clause-small
returns-clause-small c =
    let low : c.args.layer ≤ 18 = let h = top_low c.args.dataset.now in omega (arith, c.requires.layer.1, h) in
    subst (λ n. n < 2 ^ 62) (sym (returns-clause-is c)) (chunk_small c.args.dataset.now c.requires.dataset.layout c.args.layer low c.args.sv)
