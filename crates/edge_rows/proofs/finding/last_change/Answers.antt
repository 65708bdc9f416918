use Rattle.std.proofs.Common.{◌∙◌, ◌<◌, sym, ap, subst, length}
use Rattle.record_rows.specs.Rows.{ChangeRow}
use Rattle.record_rows.specs.Chains.{change_of}
use Rattle.record_rows.specs.LogRows.{rows_of}
use Rattle.record_rows.specs.Readings.{Image, next_place}
use Rattle.record_rows.proofs.WalkLemmas.{steps_left, next_behind}
use Rattle.record_rows.proofs.ImageFacts.{parent_image, header}
use Rattle.edge_rows.proofs.ChainFacts.{reach}
use Rattle.edge_rows.proofs.Walks.{fall, walked_first, walked_next, walked_end, headed_change, change_here}
use Rattle.edge_rows.proofs.finding.last_change.Goals as goal

pub loop-at-init : goal.loop-at-init
loop-at-init g c = record {
  same = c.first_change-at.ensures.same;
  left = λ d b log made e i h. walked_first (change_of e.pair) (rows_of d b log) _ _ (header d b log _ (parent_image d b log _ i)) (headed_change e.pair d _ _) (c.first_change-at.ensures.is d b log made e i h);
}

pub next_change-at-requires : goal.next_change-at-requires
next_change-at-requires g c =
    let (d, b, log, made, e, i, h) = c.requires.edge in
    let (entry, x, k, q) = change_here d b log e.pair c.loop-at.at c.in-Some.change c.in-Some.is (c.loop-at.invariant.left d b log made e i h).0 in
    record { change = (d, b, log, entry, x, subst (λ w. Image d b log (g.W.Words.words w)) (sym c.loop-at.invariant.same) i, k) }

pub loop-at-smaller : goal.loop-at-smaller
loop-at-smaller g c =
    let (d, b, log, made, e, i, h) = c.requires.edge in
    let (entry, x, k, q) = change_here d b log e.pair c.loop-at.at c.in-Some.change c.in-Some.is (c.loop-at.invariant.left d b log made e i h).0 in
    let j = subst (λ w. Image d b log (g.W.Words.words w)) (sym c.loop-at.invariant.same) i in
    let n = length (g.W.Words.words c.loop-at.w) in
    subst (λ w. steps_left (length (g.W.Words.words w)) c.next_change-at.result < steps_left n c.loop-at.at) (sym c.next_change-at.ensures.same)
    (subst (λ o. steps_left n o < steps_left n c.loop-at.at) (sym (c.next_change-at.ensures.is d b log entry x j k))
    (fall n c.in-Some.change c.loop-at.at _ c.in-Some.is (reach d b log _ j c.in-Some.change (ChangeRow entry x) k) (next_behind (change_of x.pair) (rows_of d b log) c.in-Some.change)))

pub loop-at-preserved : goal.loop-at-preserved
loop-at-preserved g c = record {
  same = c.next_change-at.ensures.same ∙ c.loop-at.invariant.same;
  left = λ d b log made e i h.
      let w = c.loop-at.invariant.left d b log made e i h in
      let (entry, x, k, q) = change_here d b log e.pair c.loop-at.at c.in-Some.change c.in-Some.is w.0 in
      let j = subst (λ w. Image d b log (g.W.Words.words w)) (sym c.loop-at.invariant.same) i in
      walked_next (change_of e.pair) (rows_of d b log) c.loop-at.found c.loop-at.at c.in-Some.change _ c.in-Some.is w
      (c.next_change-at.ensures.is d b log entry x j k ∙ ap (λ y. next_place (change_of y) (rows_of d b log) c.in-Some.change) q);
}

pub returns-clause-is : goal.returns-clause-is
returns-clause-is g c = λ d b log made e i h. walked_end (change_of e.pair) (rows_of d b log) c.loop-at.found c.loop-at.at c.in_default.not-Some (c.loop-at.invariant.left d b log made e i h)
