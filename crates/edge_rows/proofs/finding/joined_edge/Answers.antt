use Rattle.std.proofs.Common.{◌≡◌, ◌∙◌, ◌+◌, ◌*◌, ◌<◌, ◌≤◌, None, true, false, sym, subst, length, rules}
use Rattle.record_rows.specs.Rows.{EdgeRow}
use Rattle.record_rows.specs.Chains.{edge_at, is_edge}
use Rattle.record_rows.specs.LogRows.{rows_of}
use Rattle.record_rows.proofs.WalkLemmas.{steps_left, next_behind}
use Rattle.record_rows.proofs.ImageFacts.{parent_image, header}
use Rattle.edge_rows.proofs.ChainFacts.{image_kept, reach}
use Rattle.edge_rows.proofs.Walks.{fall, headed_edge, edge_here, edge_apart, edge_apart_other, is_edge_told, found_here, unknown_end, unknown_other}
use Rattle.edge_rows.proofs.Narrow.{sought_first, sought_here, sought_next, sought_end}
use Rattle.edge_rows.proofs.finding.joined_edge.Goals as goal

pub returns-in_err-lesser-clause-found : goal.returns-in_err-lesser-clause-found
returns-in_err-lesser-clause-found g c = λ d b log i.
    let none : c.from_residual.result ≡ None = search rules in
    none ∙ unknown_end d b log _ i c.args.pair c.in_err-lesser.ensures.found

pub returns-in_err-greater-clause-found : goal.returns-in_err-greater-clause-found
returns-in_err-greater-clause-found g c = λ d b log i.
    let none : c.from_residual-in_err-greater.result ≡ None = search rules in
    none ∙ unknown_other d b log _ (image_kept g.W.Words.words d b log c.supervoxel_of.ensures.same i) c.args.pair c.in_err-greater.ensures.found

pub first_edge-one-requires : goal.first_edge-one-requires
first_edge-one-requires g c =
    let (d, b, log, i) = c.requires.image in
    record { supervoxel = (d, b, log, c.args.pair.a, image_kept g.W.Words.words d b log (c.supervoxel_of-2.ensures.same ∙ c.supervoxel_of.ensures.same) i, found_here d b log _ i c.args.pair.a c.in_ok-lesser.lesser c.in_ok-lesser.ensures.found) }

pub first_edge-other-requires : goal.first_edge-other-requires
first_edge-other-requires g c =
    let (d, b, log, i) = c.requires.image in
    let j = image_kept g.W.Words.words d b log c.supervoxel_of.ensures.same i in
    record { supervoxel = (d, b, log, c.args.pair.b, image_kept g.W.Words.words d b log (c.first_edge-one.ensures.same ∙ c.supervoxel_of-2.ensures.same) j, found_here d b log _ j c.args.pair.b c.in_ok-greater.greater c.in_ok-greater.ensures.found) }

pub loop-one-init : goal.loop-one-init
loop-one-init g c = record {
  same = c.first_edge-other.ensures.same ∙ c.first_edge-one.ensures.same ∙ c.supervoxel_of-2.ensures.same ∙ c.supervoxel_of.ensures.same;
  one = λ d b log i.
      let j = image_kept g.W.Words.words d b log (c.supervoxel_of-2.ensures.same ∙ c.supervoxel_of.ensures.same) i in
      sought_first (edge_at c.args.pair.a) (is_edge c.args.pair) (edge_apart c.args.pair) (rows_of d b log) _ c.first_edge-one.result (header d b log _ (parent_image d b log _ i)) (headed_edge c.args.pair.a d _ _)
      (c.first_edge-one.ensures.is d b log c.args.pair.a j (found_here d b log _ i c.args.pair.a c.in_ok-lesser.lesser c.in_ok-lesser.ensures.found));
  other = λ d b log i.
      let k = image_kept g.W.Words.words d b log c.supervoxel_of.ensures.same i in
      let j = image_kept g.W.Words.words d b log (c.first_edge-one.ensures.same ∙ c.supervoxel_of-2.ensures.same) k in
      sought_first (edge_at c.args.pair.b) (is_edge c.args.pair) (edge_apart_other c.args.pair) (rows_of d b log) _ c.first_edge-other.result (header d b log _ (parent_image d b log _ i)) (headed_edge c.args.pair.b d _ _)
      (c.first_edge-other.ensures.is d b log c.args.pair.b j (found_here d b log _ k c.args.pair.b c.in_ok-greater.greater c.in_ok-greater.ensures.found));
}

pub returns-in_default-other-clause-found : goal.returns-in_default-other-clause-found
returns-in_default-other-clause-found g c = λ d b log i.
    sought_end (edge_at c.args.pair.b) (is_edge c.args.pair) (edge_apart_other c.args.pair) (rows_of d b log) c.loop-one.other c.in_default-other.not-Some (c.loop-one.invariant.other d b log i)

pub is_of-requires : goal.is_of-requires
is_of-requires g c =
    let (d, b, log, i) = c.requires.image in
    let inv = c.loop-one.invariant in
    let (made, e, k, t) = edge_here d b log c.args.pair.a c.loop-one.one c.in-Some.edge c.in-Some.is (inv.one d b log i).0 in
    record { edge = (d, b, log, made, e, image_kept g.W.Words.words d b log inv.same i, k) }

pub returns-then-is_of-clause-found : goal.returns-then-is_of-clause-found
returns-then-is_of-clause-found g c = λ d b log i.
    let inv = c.loop-one.invariant in
    let sought = inv.one d b log i in
    let (made, e, k, t) = edge_here d b log c.args.pair.a c.loop-one.one c.in-Some.edge c.in-Some.is sought.0 in
    let told = c.is_of.ensures.is d b log made e (image_kept g.W.Words.words d b log inv.same i) k in
    sought_here (edge_at c.args.pair.a) (is_edge c.args.pair) (edge_apart c.args.pair) (rows_of d b log) c.loop-one.one c.in-Some.edge (EdgeRow made e) c.in-Some.is sought k (is_edge_told c.args.pair made e true (sym told ∙ c.if-is_of.true))

pub is_of-requires-in-Some : goal.is_of-requires-in-Some
is_of-requires-in-Some g c =
    let (d, b, log, i) = c.requires.image in
    let inv = c.loop-one.invariant in
    let (made, e, k, t) = edge_here d b log c.args.pair.b c.loop-one.other c.in-Some-other.turn c.in-Some-other.is (inv.other d b log i).0 in
    record { edge = (d, b, log, made, e, image_kept g.W.Words.words d b log (c.is_of.ensures.same ∙ inv.same) i, k) }

pub returns-then-is_of-2-clause-found : goal.returns-then-is_of-2-clause-found
returns-then-is_of-2-clause-found g c = λ d b log i.
    let inv = c.loop-one.invariant in
    let sought = inv.other d b log i in
    let (made, e, k, t) = edge_here d b log c.args.pair.b c.loop-one.other c.in-Some-other.turn c.in-Some-other.is sought.0 in
    let told = c.is_of-in-Some.ensures.is d b log made e (image_kept g.W.Words.words d b log (c.is_of.ensures.same ∙ inv.same) i) k in
    sought_here (edge_at c.args.pair.b) (is_edge c.args.pair) (edge_apart_other c.args.pair) (rows_of d b log) c.loop-one.other c.in-Some-other.turn (EdgeRow made e) c.in-Some-other.is sought k (is_edge_told c.args.pair made e true (sym told ∙ c.if-is_of-2.true))

pub next_edge-one-requires : goal.next_edge-one-requires
next_edge-one-requires g c =
    let (d, b, log, i) = c.requires.image in
    let inv = c.loop-one.invariant in
    let (made, e, k, t) = edge_here d b log c.args.pair.a c.loop-one.one c.in-Some.edge c.in-Some.is (inv.one d b log i).0 in
    record { edge = (d, b, log, made, e, image_kept g.W.Words.words d b log (c.is_of-in-Some.ensures.same ∙ c.is_of.ensures.same ∙ inv.same) i, k) }

pub next_edge-other-requires : goal.next_edge-other-requires
next_edge-other-requires g c =
    let (d, b, log, i) = c.requires.image in
    let inv = c.loop-one.invariant in
    let (made, e, k, t) = edge_here d b log c.args.pair.b c.loop-one.other c.in-Some-other.turn c.in-Some-other.is (inv.other d b log i).0 in
    record { edge = (d, b, log, made, e, image_kept g.W.Words.words d b log (c.next_edge-one.ensures.same ∙ c.is_of-in-Some.ensures.same ∙ c.is_of.ensures.same ∙ inv.same) i, k) }

pub loop-one-smaller : goal.loop-one-smaller
loop-one-smaller g c =
    let (d, b, log, i) = c.requires.image in
    let inv = c.loop-one.invariant in
    let (made, e, k, t) = edge_here d b log c.args.pair.a c.loop-one.one c.in-Some.edge c.in-Some.is (inv.one d b log i).0 in
    let same = c.is_of-in-Some.ensures.same ∙ c.is_of.ensures.same in
    let j = image_kept g.W.Words.words d b log (same ∙ inv.same) i in
    let n = length (g.W.Words.words c.loop-one.w) in
    subst (λ w. steps_left (length (g.W.Words.words w)) c.next_edge-one.result < steps_left n c.loop-one.one) (sym (c.next_edge-other.ensures.same ∙ c.next_edge-one.ensures.same ∙ same))
    (subst (λ o. steps_left n o < steps_left n c.loop-one.one) (sym (c.next_edge-one.ensures.is d b log made e j k t))
    (fall n c.in-Some.edge c.loop-one.one _ c.in-Some.is (subst (λ w. 8 * c.in-Some.edge + 8 ≤ length (g.W.Words.words w)) same (reach d b log _ j c.in-Some.edge (EdgeRow made e) k)) (next_behind _ (rows_of d b log) c.in-Some.edge)))

pub loop-one-preserved : goal.loop-one-preserved
loop-one-preserved g c =
    let inv = c.loop-one.invariant in
    record {
      same = c.next_edge-other.ensures.same ∙ c.next_edge-one.ensures.same ∙ c.is_of-in-Some.ensures.same ∙ c.is_of.ensures.same ∙ inv.same;
      one = λ d b log i.
          let sought = inv.one d b log i in
          let (made, e, k, t) = edge_here d b log c.args.pair.a c.loop-one.one c.in-Some.edge c.in-Some.is sought.0 in
          let told = c.is_of.ensures.is d b log made e (image_kept g.W.Words.words d b log inv.same i) k in
          let behind = image_kept g.W.Words.words d b log (c.is_of-in-Some.ensures.same ∙ c.is_of.ensures.same ∙ inv.same) i in
          sought_next (edge_at c.args.pair.a) (is_edge c.args.pair) (edge_apart c.args.pair) (rows_of d b log) c.loop-one.one c.in-Some.edge (EdgeRow made e) _ c.in-Some.is sought k (is_edge_told c.args.pair made e false (sym told ∙ c.if-is_of.false)) (c.next_edge-one.ensures.is d b log made e behind k t);
      other = λ d b log i.
          let sought = inv.other d b log i in
          let (made, e, k, t) = edge_here d b log c.args.pair.b c.loop-one.other c.in-Some-other.turn c.in-Some-other.is sought.0 in
          let told = c.is_of-in-Some.ensures.is d b log made e (image_kept g.W.Words.words d b log (c.is_of.ensures.same ∙ inv.same) i) k in
          let behind = image_kept g.W.Words.words d b log (c.next_edge-one.ensures.same ∙ c.is_of-in-Some.ensures.same ∙ c.is_of.ensures.same ∙ inv.same) i in
          sought_next (edge_at c.args.pair.b) (is_edge c.args.pair) (edge_apart_other c.args.pair) (rows_of d b log) c.loop-one.other c.in-Some-other.turn (EdgeRow made e) _ c.in-Some-other.is sought k (is_edge_told c.args.pair made e false (sym told ∙ c.if-is_of-2.false)) (c.next_edge-other.ensures.is d b log made e behind k t);
    }

pub returns-clause-found : goal.returns-clause-found
returns-clause-found g c = λ d b log i. sought_end (edge_at c.args.pair.a) (is_edge c.args.pair) (edge_apart c.args.pair) (rows_of d b log) c.loop-one.one c.in_default.not-Some (c.loop-one.invariant.one d b log i)
