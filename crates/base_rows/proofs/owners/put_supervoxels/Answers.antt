use Rattle.std.proofs.Common.{arith, ◌∷◌, map, take, sym, ◌∙◌, ap}
use Rattle.record_rows.specs.Rows.{HeaderRow, SupervoxelRow}
use Rattle.record_rows.specs.Words.{words_of}
use Rattle.row_append.specs.Ends.{EdgesOf, VersionsOf}
use Rattle.base_rows.proofs.Passing.{headed, map_more, no_members}
use Rattle.base_rows.proofs.owners.put_supervoxels.Goals as goal

pub loop-id-preserved : goal.loop-id-preserved
loop-id-preserved c =
    let i = c.loop-id.invariant in
    let p = c.push_supervoxel.ensures in
    let l = i.1 in
    let r = i.2 in
    let m = p.length in
    let s = p.room in (
      λ d s n e.
          let before = map SupervoxelRow (take c.loop-id.id-index c.args.ids.now) in
          p.words (HeaderRow d s n ∷ before) (headed d s n before) (i.0 d s n e) (no_members d s n (EdgesOf c.id-item.result) _) (no_members d s n (VersionsOf c.id-item.result) _)
          ∙ ap (λ rows. words_of (HeaderRow d s n ∷ rows)) (sym (map_more SupervoxelRow c.args.ids.now c.loop-id.id-index c.id-item.result c.loop-id-test.true c.id-item.is)),
      omega (arith, l, m),
      omega (arith, r, s),
    )
