use Rattle.std.proofs.Common.{◌∙◌, ◌++◌, ◌∷◌, [], ap}
use Rattle.std.proofs.lemmas.Result.{on_ok_weaker}
use Rattle.record_rows.specs.LogRows.{rows_of}
use Rattle.parent_rows.proofs.ChainWalks.{image_kept}
use Rattle.node_reader.proofs.LeafWalks.{leaf_put, node_put, nodes_put, weight_put}
use Rattle.node_reader.proofs.Climbs.{id_at_told}
use Rattle.record_rows.proofs.ImageFacts.{within}
use Rattle.node_reader.proofs.node_leaves.put_child.Goals as goal

pub id_of-requires : goal.id_of-requires
id_of-requires g c =
    let r = c.requires.link in
    let i = image_kept g.W.Words.words r.0 r.1 r.2 (c.is_supervoxel.ensures.same ∙ c.child_place-spot.ensures.same) r.4 in
    let at = c.child_place-spot.ensures.at r.0 r.1 r.2 r.3 r.4 r.5 in
    record { within = within r.0 r.1 r.2 _ i c.child_place-spot.result at.0 at.1 }

pub returns-then-is_supervoxel-clause-leaves : goal.returns-then-is_supervoxel-clause-leaves
returns-then-is_supervoxel-clause-leaves g c d b log l i h =
    let k = image_kept g.W.Words.words d b log c.child_place-spot.ensures.same i in
    let at = c.child_place-spot.ensures.at d b log l i h in
    let sv = c.is_supervoxel.ensures.yes d b log l.child k at c.if-is_supervoxel.true in
    let id = c.id_of.ensures.is ∙ id_at_told d b log _ (image_kept g.W.Words.words d b log (c.is_supervoxel.ensures.same ∙ c.child_place-spot.ensures.same) i) c.child_place-spot.result l.child at in
    on_ok_weaker c.put_id.result (λ e. leaf_put (rows_of d b log) c.args.list.now.items c.args.waiting.now.items c.child_place-spot.result l.child l.child (c.child_place-spot.ensures.is d b log l i h) sv (e ∙ ap (λ x. c.args.list.now.items ++ x ∷ []) id)) c.put_id.ensures

pub returns-else-is_supervoxel-clause-nodes : goal.returns-else-is_supervoxel-clause-nodes
returns-else-is_supervoxel-clause-nodes g c d b log l i h a =
    let k = image_kept g.W.Words.words d b log c.child_place-spot.ensures.same i in
    let n = c.is_supervoxel.ensures.no d b log l.child k (c.child_place-spot.ensures.at d b log l i h) c.if-is_supervoxel.false in
    on_ok_weaker c.put_spot.result (λ e. nodes_put d b log c.args.waiting.now.items c.child_place-spot.result n.0 n.1 a e) c.put_spot.ensures

pub returns-else-is_supervoxel-clause-leaves : goal.returns-else-is_supervoxel-clause-leaves
returns-else-is_supervoxel-clause-leaves g c d b log l i h =
    on_ok_weaker c.put_spot.result (λ e. node_put (rows_of d b log) c.args.list.now.items c.args.waiting.now.items c.child_place-spot.result l.child (c.child_place-spot.ensures.is d b log l i h) e) c.put_spot.ensures

pub returns-else-is_supervoxel-clause-more : goal.returns-else-is_supervoxel-clause-more
returns-else-is_supervoxel-clause-more g c d b log l i h =
    on_ok_weaker c.put_spot.result (λ e. weight_put (g.W.Words.words c.args.w.now) c.args.waiting.now.items c.child_place-spot.result l.child (id_at_told d b log (g.W.Words.words c.args.w.now) i c.child_place-spot.result l.child (c.child_place-spot.ensures.at d b log l i h)) e) c.put_spot.ensures
