use Rattle.std.proofs.Common.{◌∙◌, sym}
use Rattle.record_rows.specs.LogRows.{rows_of}
use Rattle.record_rows.proofs.ImageFacts.{within}
use Rattle.parent_rows.proofs.ChainWalks.{image_kept}
use Rattle.node_reader.proofs.Climbs.{id_at_told}
use Rattle.united_layers.proofs.Gathering.{leaf_head, node_head}
use Rattle.united_layers.proofs.reading.child_least.Goals as goal

pub id_of-requires : goal.id_of-requires
id_of-requires g c =
    let r = c.requires.link in
    let i = image_kept g.W.Words.words r.0 r.1 r.2 (c.is_supervoxel.ensures.same ∙ c.child_place-spot.ensures.same) r.4 in
    let at = c.child_place-spot.ensures.at r.0 r.1 r.2 r.3 r.4 r.5 in
    record { within = within r.0 r.1 r.2 _ i c.child_place-spot.result at.0 at.1 }

pub node-requires : goal.node-requires
node-requires g c =
    let r = c.requires.link in
    let k = image_kept g.W.Words.words r.0 r.1 r.2 c.child_place-spot.ensures.same r.4 in
    let i = image_kept g.W.Words.words r.0 r.1 r.2 (c.is_supervoxel.ensures.same ∙ c.child_place-spot.ensures.same) r.4 in
    let n = c.is_supervoxel.ensures.no r.0 r.1 r.2 r.3.child k (c.child_place-spot.ensures.at r.0 r.1 r.2 r.3 r.4 r.5) c.if-is_supervoxel.false in
    record { node = (r.0, r.1, r.2, n.0, i, n.1) }

pub returns-then-is_supervoxel-clause-is : goal.returns-then-is_supervoxel-clause-is
returns-then-is_supervoxel-clause-is g c d b log l i h =
    let k = image_kept g.W.Words.words d b log c.child_place-spot.ensures.same i in
    let j = image_kept g.W.Words.words d b log (c.is_supervoxel.ensures.same ∙ c.child_place-spot.ensures.same) i in
    let at = c.child_place-spot.ensures.at d b log l i h in
    let sv = c.is_supervoxel.ensures.yes d b log l.child k at c.if-is_supervoxel.true in
    let id = c.id_of.ensures.is ∙ id_at_told d b log _ j c.child_place-spot.result l.child at in
    id ∙ sym (leaf_head (rows_of d b log) c.child_place-spot.result l.child l.child (c.child_place-spot.ensures.is d b log l i h) sv)

pub returns-else-is_supervoxel-clause-is : goal.returns-else-is_supervoxel-clause-is
returns-else-is_supervoxel-clause-is g c d b log l i h =
    let k = image_kept g.W.Words.words d b log c.child_place-spot.ensures.same i in
    let j = image_kept g.W.Words.words d b log (c.is_supervoxel.ensures.same ∙ c.child_place-spot.ensures.same) i in
    let n = c.is_supervoxel.ensures.no d b log l.child k (c.child_place-spot.ensures.at d b log l i h) c.if-is_supervoxel.false in
    (c.node.ensures.is d b log n.0 j n.1).1 ∙ sym (node_head (rows_of d b log) c.child_place-spot.result l.child n.0 (c.child_place-spot.ensures.is d b log l i h) n.1)
