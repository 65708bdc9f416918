use Rattle.std.proofs.Common.{◌≡◌, ◌∙◌, ◌-◌, ◌≤◌, sym, ap, subst}
use Rattle.node_ids.specs.Ids.{parts_of}
use Rattle.record_rows.specs.LogRows.{rows_of}
use Rattle.record_rows.specs.Readings.{first_place}
use Rattle.record_rows.specs.Walks.{is_supervoxel, is_chunk}
use Rattle.parent_rows.specs.Steps.{is_node_of}
use Rattle.record_rows.proofs.BaseRows.{supervoxels_sorted, supervoxel_found}
use Rattle.parent_rows.proofs.ChainWalks.{image_kept}
use Rattle.parent_rows.proofs.Sought.{header_within, supervoxel_sought, node_sought, no_chunk, chunk_place, segment_low}
use Rattle.parent_rows.proofs.finding.find.Goals as goal

pub supervoxel-requires-clause-header : goal.supervoxel-requires-clause-header
supervoxel-requires-clause-header g c = let r = c.requires.image in header_within r.0 r.1 r.2 _ (image_kept g.W.Words.words r.0 r.1 r.2 c.layout.ensures.same r.3)

pub supervoxel-requires-clause-sorted : goal.supervoxel-requires-clause-sorted
supervoxel-requires-clause-sorted g c = let r = c.requires.image in supervoxels_sorted r.0 r.1 r.2 _ (image_kept g.W.Words.words r.0 r.1 r.2 c.layout.ensures.same r.3)

pub chunk_of-requires : goal.chunk_of-requires
chunk_of-requires g c = subst (λ p. p.segment ≤ c.args.id) (sym c.unpack-parts.ensures) (segment_low c.layout.result c.args.id)

pub returns-in_default-clause-found : goal.returns-in_default-clause-found
returns-in_default-clause-found g c = λ d b log i.
    let parts = c.unpack-parts.ensures ∙ ap (λ f. parts_of f c.args.id) (c.layout.ensures.is d b log i) in
    let low : (parts_of d.layout c.args.id).layer ≡ 1 → ⊥ = λ e. c.if-parts-eq1.false (ap (λ p. p.layer) parts ∙ e) in
    no_chunk d b log _ i c.args.id low
    (c.chunk.ensures.found d b log (image_kept g.W.Words.words d b log c.layout.ensures.same i) ∙ ap (λ k. first_place (is_chunk k) (rows_of d b log)) (c.chunk_of.ensures ∙ ap (λ p. c.args.id - p.segment) parts))
    c.in_default.not-Some

pub node_of-requires : goal.node_of-requires
node_of-requires g c =
    let r = c.requires.image in
    let i = image_kept g.W.Words.words r.0 r.1 r.2 c.layout.ensures.same r.3 in
    record { chunk = (r.0, r.1, r.2, _, image_kept g.W.Words.words r.0 r.1 r.2 c.chunk.ensures.same i, chunk_place r.0 r.1 r.2 _ i c.chunk_of.result c.in-Some.spot (c.chunk.ensures.found r.0 r.1 r.2 i) c.in-Some.is) }

pub returns-then-parts-eq1-clause-found : goal.returns-then-parts-eq1-clause-found
returns-then-parts-eq1-clause-found g c = λ d b log i.
    let parts = c.unpack-parts.ensures ∙ ap (λ f. parts_of f c.args.id) (c.layout.ensures.is d b log i) in
    let low = sym (ap (λ p. p.layer) parts) ∙ c.if-parts-eq1.true in
    supervoxel_found d b log _ (image_kept g.W.Words.words d b log c.layout.ensures.same i) _ c.supervoxel.result c.supervoxel.ensures.found
    ∙ (ap (λ k. first_place (is_supervoxel k) (rows_of d b log)) c.id.view_is ∙ supervoxel_sought d b log _ i c.args.id low)

pub returns-in-Some-clause-found : goal.returns-in-Some-clause-found
returns-in-Some-clause-found g c = λ d b log i.
    let parts = c.unpack-parts.ensures ∙ ap (λ f. parts_of f c.args.id) (c.layout.ensures.is d b log i) in
    let low : (parts_of d.layout c.args.id).layer ≡ 1 → ⊥ = λ e. c.if-parts-eq1.false (ap (λ p. p.layer) parts ∙ e) in
    let j = image_kept g.W.Words.words d b log c.layout.ensures.same i in
    let h = chunk_place d b log _ j c.chunk_of.result c.in-Some.spot (c.chunk.ensures.found d b log j) c.in-Some.is in
    c.node_of.ensures.is d b log c.chunk_of.result (image_kept g.W.Words.words d b log c.chunk.ensures.same j) h
    ∙ (ap (λ k. first_place (is_node_of c.chunk_of.result k) (rows_of d b log)) c.id-else-parts-eq1.view_is
    ∙ (ap (λ k. first_place (is_node_of k c.args.id) (rows_of d b log)) (c.chunk_of.ensures ∙ ap (λ p. c.args.id - p.segment) parts) ∙ node_sought d b log _ i c.args.id low))
