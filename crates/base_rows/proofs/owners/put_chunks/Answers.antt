use Rattle.std.proofs.Common.{arith, ◌∷◌, ◌++◌, [], map, take, sym, ◌∙◌, ap, append_assoc}
use Rattle.record_rows.specs.Rows.{HeaderRow, SupervoxelRow, ChunkRow}
use Rattle.record_rows.specs.Words.{words_of}
use Rattle.row_append.specs.Ends.{NodesIn}
use Rattle.base_rows.proofs.Passing.{headed, map_more, no_members_yet}
use Rattle.base_rows.proofs.owners.put_chunks.Goals as goal

pub loop-id-preserved : goal.loop-id-preserved
loop-id-preserved c =
    let i = c.loop-id.invariant in
    let p = c.push_chunk.ensures in
    let l = i.1 in
    let r = i.2 in
    let m = p.length in
    let s = p.room in (
      λ d s n ids e.
          let svs = map SupervoxelRow ids in
          let before = map ChunkRow (take c.loop-id.id-index c.args.chunks.now) in
          p.words (HeaderRow d s n ∷ svs ++ before) (headed d s n (svs ++ before)) (i.0 d s n ids e) (no_members_yet d s n (NodesIn c.id-item.result) ids _)
          ∙ (ap (λ rows. words_of (HeaderRow d s n ∷ rows)) (append_assoc svs before (ChunkRow c.id-item.result ∷ []))
          ∙ ap (λ rows. words_of (HeaderRow d s n ∷ svs ++ rows)) (sym (map_more ChunkRow c.args.chunks.now c.loop-id.id-index c.id-item.result c.loop-id-test.true c.id-item.is))),
      omega (arith, l, m),
      omega (arith, r, s),
    )
