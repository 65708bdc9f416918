use Rattle.std.proofs.Common.{arith}
use Rattle.parent_rows.proofs.ChainWalks.{image_kept}
use Rattle.parent_rows.proofs.Sought.{header_within, counted_low, chunks_counted_sorted, chunk_counted, counts_kept, word_kept}
use Rattle.parent_rows.proofs.finding.chunk.Goals as goal

pub counts-supervoxels-requires : goal.counts-supervoxels-requires
counts-supervoxels-requires g c = let r = c.requires.image in record { header = header_within r.0 r.1 r.2 _ r.3 }

pub overflow_add-supervoxels : goal.overflow_add-supervoxels
overflow_add-supervoxels g c =
    let r = c.requires.image in
    let e = c.counts-supervoxels.ensures.supervoxels in
    let l = counted_low r.0 r.1 r.2 _ r.3 in
    omega arith

pub find_sorted-requires : goal.find_sorted-requires
find_sorted-requires g c =
    let r = c.requires.image in
    let k = c.counts-supervoxels in
    record {
      sorted = chunks_counted_sorted r.0 r.1 r.2 _ (image_kept g.W.Words.words r.0 r.1 r.2 k.ensures.same r.3) (counts_kept g.W.Words.words k.ensures.same k.ensures.supervoxels) (word_kept g.W.Words.words k.ensures.same k.ensures.chunks);
    }

pub returns-clause-found : goal.returns-clause-found
returns-clause-found g c = λ d b log i.
    let k = c.counts-supervoxels in
    chunk_counted d b log _ (image_kept g.W.Words.words d b log k.ensures.same i) (counts_kept g.W.Words.words k.ensures.same k.ensures.supervoxels) (word_kept g.W.Words.words k.ensures.same k.ensures.chunks) c.id.view_is c.find_sorted.ensures.found
