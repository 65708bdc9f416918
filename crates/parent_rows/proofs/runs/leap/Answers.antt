use Rattle.std.proofs.Common.{◌∙◌}
use Rattle.parent_rows.proofs.ChainWalks.{image_kept}
use Rattle.parent_rows.proofs.Told.{id_found, node_id}
use Rattle.parent_rows.proofs.Leaps.{run_first, run_within, run_on}
use Rattle.parent_rows.proofs.runs.leap.Goals as goal

pub id_of-here-requires : goal.id_of-here-requires
id_of-here-requires g c =
    let r = c.requires.node in
    let i = image_kept g.W.Words.words r.0 r.1 r.2 (c.layout-ids.ensures.same ∙ c.first_child.ensures.same) r.4 in
    record { within = (node_id r.0 r.1 r.2 _ i c.args.first r.3 r.5).0 }

pub loop-middle-init : goal.loop-middle-init
loop-middle-init g c = (
  c.id_of-here.ensures.same ∙ (c.layout-ids.ensures.same ∙ c.first_child.ensures.same),
  λ d b log n i h l. run_first d b log _ i n c.args.first c.args.id c.in-Some.end h l (c.first_child.ensures.is d b log n i h) c.in-Some.is,
)

pub is_of-requires : goal.is_of-requires
is_of-requires g c =
    let r = c.requires.node in
    let inv = c.loop-middle.invariant in
    let run = inv.1 r.0 r.1 r.2 r.3 r.4 r.5 r.6 in
    let m = c.in-Some-middle_of.ensures in
    let row = run_within r.0 r.1 r.2 _ r.4 r.3 c.args.first c.args.id c.loop-middle.low c.loop-middle.high c.in-Some-middle_of.middle r.5 run m.0 m.1 in
    record { «record» = (r.0, r.1, r.2, row.0, image_kept g.W.Words.words r.0 r.1 r.2 inv.0 r.4, row.1) }

pub loop-middle-preserved-then-is_of : goal.loop-middle-preserved-then-is_of
loop-middle-preserved-then-is_of g c = (
  c.is_of.ensures.same ∙ c.loop-middle.invariant.0,
  λ d b log n i h l.
      let inv = c.loop-middle.invariant in
      let run = inv.1 d b log n i h l in
      let m = c.in-Some-middle_of.ensures in
      let row = run_within d b log _ i n c.args.first c.args.id c.loop-middle.low c.loop-middle.high c.in-Some-middle_of.middle h run m.0 m.1 in
      let i1 = image_kept g.W.Words.words d b log c.first_child.ensures.same i in
      let i2 = image_kept g.W.Words.words d b log c.layout-ids.ensures.same i1 in
      let ids = c.layout-ids.ensures.is d b log i1 in
      let here = c.id_of-here.ensures.is ∙ id_found d b log _ i2 c.args.first n h in
      let found = c.is_of.ensures.is d b log row.0 (image_kept g.W.Words.words d b log inv.0 i) row.1 ids c.if-is_of.true in
      run_on d b log _ i n c.args.first c.args.id c.loop-middle.low c.loop-middle.high c.in-Some-middle_of.middle h run m.0 m.1 c.chunk_by-chunk.result ids here c.chunk_by-chunk.ensures found,
)
