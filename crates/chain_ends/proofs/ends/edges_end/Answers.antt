use Rattle.std.proofs.Common.{◌∙◌, sym}
use Rattle.record_rows.specs.Rows.{EdgeRow}
use Rattle.record_rows.proofs.ImageFacts.{parent_image}
use Rattle.edge_rows.proofs.ChainFacts.{image_kept, lesser_is, reach}
use Rattle.edge_rows.proofs.EdgeMeaning.{edge_facts}
use Rattle.chain_ends.proofs.EndFacts.{edge_here, edges_greater, edges_lesser, edges_none, supervoxel_at_spot, supervoxel_here}
use Rattle.chain_ends.proofs.ends.edges_end.Goals as goal

pub find-requires : goal.find-requires
find-requires g c = let r = c.requires.supervoxel in record { image = (r.0, r.1, r.2, parent_image r.0 r.1 r.2 _ r.3) }

pub returns-in_default-clause-end : goal.returns-in_default-clause-end
returns-in_default-clause-end g c = λ d b log i h.
    let z = supervoxel_here d b log _ (parent_image d b log _ i) c.args.id h (c.find.ensures.found d b log (parent_image d b log _ i)) in
    absurd (c.in_default.not-Some z.0 z.1)

pub last_edge-requires : goal.last_edge-requires
last_edge-requires g c =
    let r = c.requires.supervoxel in
    let p = parent_image r.0 r.1 r.2 _ r.3 in
    record {
      supervoxel = (
        r.0,
        r.1,
        r.2,
        c.args.id,
        image_kept g.W.Words.words r.0 r.1 r.2 c.find.ensures.same r.3,
        supervoxel_at_spot r.0 r.1 r.2 _ p c.args.id c.in-Some.spot r.4 (c.find.ensures.found r.0 r.1 r.2 p) c.in-Some.is,
      );
    }

pub returns-in_default-last_edge-clause-end : goal.returns-in_default-last_edge-clause-end
returns-in_default-last_edge-clause-end g c = λ d b log i h.
    let p = parent_image d b log _ i in
    let k = supervoxel_at_spot d b log _ p c.args.id c.in-Some.spot h (c.find.ensures.found d b log p) c.in-Some.is in
    edges_none d b log i.base c.args.id c.in-Some.spot (c.last_edge.ensures.is d b log c.args.id (image_kept g.W.Words.words d b log c.find.ensures.same i) k) c.in_default-last_edge.not-Some k

pub fixed-requires-clause-within : goal.fixed-requires-clause-within
fixed-requires-clause-within g c =
    let r = c.requires.supervoxel in
    let p = parent_image r.0 r.1 r.2 _ r.3 in
    let k = supervoxel_at_spot r.0 r.1 r.2 _ p c.args.id c.in-Some.spot r.4 (c.find.ensures.found r.0 r.1 r.2 p) c.in-Some.is in
    let x = edge_here r.0 r.1 r.2 c.args.id c.in-Some-last_edge.edge (c.last_edge.ensures.is r.0 r.1 r.2 c.args.id (image_kept g.W.Words.words r.0 r.1 r.2 c.find.ensures.same r.3) k) c.in-Some-last_edge.is in
    reach r.0 r.1 r.2 _ (image_kept g.W.Words.words r.0 r.1 r.2 (c.last_edge.ensures.same ∙ c.find.ensures.same) r.3) c.in-Some-last_edge.edge (EdgeRow x.0 x.1) x.2

pub returns-then-fixed-id-clause-end : goal.returns-then-fixed-id-clause-end
returns-then-fixed-id-clause-end g c = λ d b log i h.
    let p = parent_image d b log _ i in
    let k = supervoxel_at_spot d b log _ p c.args.id c.in-Some.spot h (c.find.ensures.found d b log p) c.in-Some.is in
    let is = c.last_edge.ensures.is d b log c.args.id (image_kept g.W.Words.words d b log c.find.ensures.same i) k in
    let x = edge_here d b log c.args.id c.in-Some-last_edge.edge is c.in-Some-last_edge.is in
    let j = image_kept g.W.Words.words d b log (c.last_edge.ensures.same ∙ c.find.ensures.same) i in
    let known = edge_facts d b log i.dataset i.base i.legal c.in-Some-last_edge.edge x.0 x.1 x.2 in
    edges_lesser d b log c.args.id c.in-Some-last_edge.edge x.0 x.1 is c.in-Some-last_edge.is x.2 known.2.2
    (sym (c.fixed.ensures.is ∙ lesser_is d b log _ j c.in-Some-last_edge.edge x.0 x.1 x.2) ∙ (c.if-fixed-id.true ∙ c.id.view_is))

pub returns-else-fixed-id-clause-end : goal.returns-else-fixed-id-clause-end
returns-else-fixed-id-clause-end g c = λ d b log i h.
    let p = parent_image d b log _ i in
    let k = supervoxel_at_spot d b log _ p c.args.id c.in-Some.spot h (c.find.ensures.found d b log p) c.in-Some.is in
    let is = c.last_edge.ensures.is d b log c.args.id (image_kept g.W.Words.words d b log c.find.ensures.same i) k in
    let x = edge_here d b log c.args.id c.in-Some-last_edge.edge is c.in-Some-last_edge.is in
    let j = image_kept g.W.Words.words d b log (c.last_edge.ensures.same ∙ c.find.ensures.same) i in
    let known = edge_facts d b log i.dataset i.base i.legal c.in-Some-last_edge.edge x.0 x.1 x.2 in
    edges_greater d b log c.args.id c.in-Some-last_edge.edge x.0 x.1 is c.in-Some-last_edge.is x.2 known.2.2
    (λ q. c.if-fixed-id.false ((c.fixed.ensures.is ∙ lesser_is d b log _ j c.in-Some-last_edge.edge x.0 x.1 x.2) ∙ (q ∙ sym c.id.view_is)))
