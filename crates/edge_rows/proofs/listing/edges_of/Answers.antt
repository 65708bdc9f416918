use Rattle.std.proofs.Common.{◌≡◌, ◌∙◌, ◌+◌, ◌*◌, ◌<◌, ◌≤◌, true, sym, ap, subst, length}
use Rattle.std.specs.Prelude.{IsPermutation}
use Rattle.op_model.specs.Labels.{edges}
use Rattle.op_model.specs.Transcript.{log_at}
use Rattle.record_rows.specs.Rows.{SupervoxelRow, EdgeRow}
use Rattle.record_rows.specs.Chains.{edge_at}
use Rattle.record_rows.specs.LogRows.{rows_of}
use Rattle.record_rows.specs.Readings.{Image, next_place}
use Rattle.record_rows.proofs.WalkLemmas.{steps_left, next_behind}
use Rattle.record_rows.proofs.ImageFacts.{parent_image, header}
use Rattle.edge_rows.proofs.ChainFacts.{reach, supervoxel_is}
use Rattle.edge_rows.proofs.EdgeMeaning.{sorted_told}
use Rattle.edge_rows.proofs.Walks.{fall, headed_edge, edge_here}
use Rattle.edge_rows.proofs.Listed.{Listed, listed_first, listed_next, listed_end}
use Rattle.edge_rows.proofs.listing.edges_of.Goals as goal

pub fixed-requires-clause-within : goal.fixed-requires-clause-within
fixed-requires-clause-within g c = let (d, b, log, v, i, h) = c.requires.supervoxel in reach d b log _ i c.args.sv (SupervoxelRow v) h

pub first_edge-at-requires : goal.first_edge-at-requires
first_edge-at-requires g c =
    let (d, b, log, v, i, h) = c.requires.supervoxel in
    record { supervoxel = (d, b, log, v, subst (λ w. Image d b log (g.W.Words.words w)) (sym c.fixed.ensures.same) i, h) }

pub loop-at-init : goal.loop-at-init
loop-at-init g c = record {
  same = c.first_edge-at.ensures.same ∙ c.fixed.ensures.same;
  left = λ d b log v i h.
      let j = subst (λ w. Image d b log (g.W.Words.words w)) (sym c.fixed.ensures.same) i in
      let rows = rows_of d b log in
      let es = edges d b (log_at d b log c.args.prefix) in (
        c.fixed.ensures.is ∙ supervoxel_is d b log _ i c.args.sv v h,
        subst (λ fs. Listed rows es v c.args.prefix fs c.first_edge-at.result) (sym c.new-list.ensures.items)
            (listed_first rows es v c.args.prefix _ c.first_edge-at.result (header d b log _ (parent_image d b log _ i)) (headed_edge v d _ _) (c.first_edge-at.ensures.is d b log v j h)),
      );
}

pub keep_edge-requires : goal.keep_edge-requires
keep_edge-requires g c =
    let (d, b, log, v, i, h) = c.requires.supervoxel in
    let (made, e, k, t) = edge_here d b log v c.loop-at.at c.in-Some.edge c.in-Some.is (c.loop-at.invariant.left d b log v i h).1.0 in
    record { edge = (d, b, log, made, e, subst (λ w. Image d b log (g.W.Words.words w)) (sym c.loop-at.invariant.same) i, k) }

pub next_edge-at-requires : goal.next_edge-at-requires
next_edge-at-requires g c =
    let (d, b, log, v, i, h) = c.requires.supervoxel in
    let (made, e, k, t) = edge_here d b log v c.loop-at.at c.in-Some.edge c.in-Some.is (c.loop-at.invariant.left d b log v i h).1.0 in
    record { edge = (d, b, log, made, e, subst (λ w. Image d b log (g.W.Words.words w)) (sym (c.keep_edge.ensures.same ∙ c.loop-at.invariant.same)) i, k) }

pub loop-at-smaller : goal.loop-at-smaller
loop-at-smaller g c =
    let (d, b, log, v, i, h) = c.requires.supervoxel in
    let (q, listed) = c.loop-at.invariant.left d b log v i h in
    let (made, e, k, t) = edge_here d b log v c.loop-at.at c.in-Some.edge c.in-Some.is listed.0 in
    let same = c.keep_edge.ensures.same in
    let j = subst (λ w. Image d b log (g.W.Words.words w)) (sym (same ∙ c.loop-at.invariant.same)) i in
    let n = length (g.W.Words.words c.loop-at.w) in
    subst (λ w. steps_left (length (g.W.Words.words w)) c.next_edge-at.result < steps_left n c.loop-at.at) (sym (c.next_edge-at.ensures.same ∙ same))
    (subst (λ o. steps_left n o < steps_left n c.loop-at.at) (sym (c.next_edge-at.ensures.is d b log made e j k (subst (λ x. edge_at x (EdgeRow made e) ≡ true) (sym q) t)))
    (fall n c.in-Some.edge c.loop-at.at _ c.in-Some.is (subst (λ w. 8 * c.in-Some.edge + 8 ≤ length (g.W.Words.words w)) same (reach d b log _ j c.in-Some.edge (EdgeRow made e) k)) (next_behind _ (rows_of d b log) c.in-Some.edge)))

pub loop-at-preserved : goal.loop-at-preserved
loop-at-preserved g c = record {
  same = c.next_edge-at.ensures.same ∙ c.keep_edge.ensures.same ∙ c.loop-at.invariant.same;
  left = λ d b log v i h.
      let (q, listed) = c.loop-at.invariant.left d b log v i h in
      let (made, e, k, t) = edge_here d b log v c.loop-at.at c.in-Some.edge c.in-Some.is listed.0 in
      let before = subst (λ w. Image d b log (g.W.Words.words w)) (sym c.loop-at.invariant.same) i in
      let behind = subst (λ w. Image d b log (g.W.Words.words w)) (sym (c.keep_edge.ensures.same ∙ c.loop-at.invariant.same)) i in
      let next = c.next_edge-at.ensures.is d b log made e behind k (subst (λ x. edge_at x (EdgeRow made e) ≡ true) (sym q) t) ∙ ap (λ x. next_place (edge_at x) (rows_of d b log) c.in-Some.edge) q in (
        q,
        listed_next (rows_of d b log) (edges d b (log_at d b log c.args.prefix)) v c.args.prefix c.loop-at.list.items c.keep_edge.new.list.items c.loop-at.at c.in-Some.edge made e _ c.in-Some.is listed k t
            (c.in_ok-keep_edge.ensures.kept d b log made e before k) next,
      );
}

pub returns-clause-edges : goal.returns-clause-edges
returns-clause-edges g c = λ d b log v i h.
    let es = edges d b (log_at d b log c.args.prefix) in
    let all = listed_end (rows_of d b log) es v c.args.prefix c.loop-at.list.items c.loop-at.at c.in_default.not-Some (c.loop-at.invariant.left d b log v i h).1 in
    sorted_told d b log v c.args.prefix c.requires.prefix i.legal c.ascending.result (subst (λ xs. IsPermutation xs c.ascending.result) all c.ascending.ensures.same) c.ascending.ensures.sorted
