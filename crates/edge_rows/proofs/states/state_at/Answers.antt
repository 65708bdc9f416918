use Rattle.std.proofs.Common.{◌≡◌, ◌∙◌, ◌+◌, ◌*◌, ◌<◌, ◌≤◌, Bool, Some, sym, ap, subst, length}
use Rattle.std.specs.List.{filter_map, last_or}
use Rattle.op_model.specs.Labels.{edges}
use Rattle.op_model.specs.Transcript.{log_at}
use Rattle.record_rows.specs.Rows.{ChangeRow}
use Rattle.record_rows.specs.Chains.{change_of}
use Rattle.record_rows.specs.LogRows.{rows_of}
use Rattle.record_rows.specs.Readings.{Image, next_place}
use Rattle.record_rows.specs.Walks.{is_active}
use Rattle.record_rows.proofs.WalkLemmas.{steps_left, next_behind}
use Rattle.record_rows.proofs.ImageFacts.{parent_image, header}
use Rattle.edge_rows.proofs.ChainFacts.{reach}
use Rattle.edge_rows.proofs.Walks.{fall, headed_change, change_here}
use Rattle.edge_rows.proofs.EdgeMeaning.{state_below, state_told}
use Rattle.edge_rows.proofs.EdgeOrder.{changes_ordered}
use Rattle.edge_rows.proofs.StateWalks.{Told, told_first, told_below, told_stop, told_end}
use Rattle.edge_rows.proofs.states.state_at.Goals as goal

pub first_change-at-requires : goal.first_change-at-requires
first_change-at-requires g c =
    let (d, b, log, made, e, i, h) = c.requires.edge in
    record { edge = (d, b, log, made, e, subst (λ w. Image d b log (g.W.Words.words w)) (sym c.first_state-active.ensures.same) i, h) }

pub loop-at-init : goal.loop-at-init
loop-at-init g c = record {
  same = c.first_change-at.ensures.same ∙ c.first_state-active.ensures.same;
  left = λ d b log made e i h.
      let j = subst (λ w. Image d b log (g.W.Words.words w)) (sym c.first_state-active.ensures.same) i in
      told_first (rows_of d b log) e.pair c.args.prefix (is_active (edges d b (log_at d b log c.args.prefix)) e.pair) _ c.first_state-active.result c.first_change-at.result
      (header d b log _ (parent_image d b log _ i)) (headed_change e.pair d _ _) (c.first_change-at.ensures.is d b log made e j h)
      (subst (λ (t : Bool). last_or (Some t) (filter_map (state_below e.pair c.args.prefix) (rows_of d b log)) ≡ Some (is_active (edges d b (log_at d b log c.args.prefix)) e.pair)) (sym (c.first_state-active.ensures.is d b log made e i h)) (state_told d b log c.args.prefix i.dataset i.base i.legal c.args.edge made e h));
}

pub changed_by-requires : goal.changed_by-requires
changed_by-requires g c =
    let (d, b, log, made, e, i, h) = c.requires.edge in
    let (entry, x, k, q) = change_here d b log e.pair c.loop-at.at c.in-Some.change c.in-Some.is (c.loop-at.invariant.left d b log made e i h).0 in
    record { change = (d, b, log, entry, x, subst (λ w. Image d b log (g.W.Words.words w)) (sym c.loop-at.invariant.same) i, k) }

pub returns-then-changed_by-prefix-clause-is : goal.returns-then-changed_by-prefix-clause-is
returns-then-changed_by-prefix-clause-is g c = λ d b log made e i h.
    let told = c.loop-at.invariant.left d b log made e i h in
    let (entry, x, k, q) = change_here d b log e.pair c.loop-at.at c.in-Some.change c.in-Some.is told.0 in
    let by = c.changed_by.ensures.is d b log entry x (subst (λ w. Image d b log (g.W.Words.words w)) (sym c.loop-at.invariant.same) i) k in
    told_stop (rows_of d b log) e.pair c.args.prefix _ c.loop-at.active c.loop-at.at c.in-Some.change entry c.in-Some.is told (subst (λ n. c.args.prefix ≤ n) by c.if-changed_by-prefix.true)
    (λ j n y l z. changes_ordered d b log i.legal c.in-Some.change j entry n x y l k z)

pub changed_state-active-requires : goal.changed_state-active-requires
changed_state-active-requires g c =
    let (d, b, log, made, e, i, h) = c.requires.edge in
    let (entry, x, k, q) = change_here d b log e.pair c.loop-at.at c.in-Some.change c.in-Some.is (c.loop-at.invariant.left d b log made e i h).0 in
    record { change = (d, b, log, entry, x, subst (λ w. Image d b log (g.W.Words.words w)) (sym (c.changed_by.ensures.same ∙ c.loop-at.invariant.same)) i, k) }

pub next_change-at-requires : goal.next_change-at-requires
next_change-at-requires g c =
    let (d, b, log, made, e, i, h) = c.requires.edge in
    let (entry, x, k, q) = change_here d b log e.pair c.loop-at.at c.in-Some.change c.in-Some.is (c.loop-at.invariant.left d b log made e i h).0 in
    let same = c.changed_state-active.ensures.same ∙ c.changed_by.ensures.same ∙ c.loop-at.invariant.same in
    record { change = (d, b, log, entry, x, subst (λ w. Image d b log (g.W.Words.words w)) (sym same) i, k) }

pub loop-at-smaller : goal.loop-at-smaller
loop-at-smaller g c =
    let (d, b, log, made, e, i, h) = c.requires.edge in
    let (entry, x, k, q) = change_here d b log e.pair c.loop-at.at c.in-Some.change c.in-Some.is (c.loop-at.invariant.left d b log made e i h).0 in
    let same = c.changed_state-active.ensures.same ∙ c.changed_by.ensures.same in
    let j = subst (λ w. Image d b log (g.W.Words.words w)) (sym (same ∙ c.loop-at.invariant.same)) i in
    let n = length (g.W.Words.words c.loop-at.w) in
    subst (λ w. steps_left (length (g.W.Words.words w)) c.next_change-at.result < steps_left n c.loop-at.at) (sym (c.next_change-at.ensures.same ∙ same))
    (subst (λ o. steps_left n o < steps_left n c.loop-at.at) (sym (c.next_change-at.ensures.is d b log entry x j k))
    (fall n c.in-Some.change c.loop-at.at _ c.in-Some.is (subst (λ w. 8 * c.in-Some.change + 8 ≤ length (g.W.Words.words w)) same (reach d b log _ j c.in-Some.change (ChangeRow entry x) k)) (next_behind (change_of x.pair) (rows_of d b log) c.in-Some.change)))

pub loop-at-preserved : goal.loop-at-preserved
loop-at-preserved g c = record {
  same = c.next_change-at.ensures.same ∙ c.changed_state-active.ensures.same ∙ c.changed_by.ensures.same ∙ c.loop-at.invariant.same;
  left = λ d b log made e i h.
      let told = c.loop-at.invariant.left d b log made e i h in
      let (entry, x, k, q) = change_here d b log e.pair c.loop-at.at c.in-Some.change c.in-Some.is told.0 in
      let before = subst (λ w. Image d b log (g.W.Words.words w)) (sym c.loop-at.invariant.same) i in
      let here = subst (λ w. Image d b log (g.W.Words.words w)) (sym (c.changed_by.ensures.same ∙ c.loop-at.invariant.same)) i in
      let behind = subst (λ w. Image d b log (g.W.Words.words w)) (sym (c.changed_state-active.ensures.same ∙ c.changed_by.ensures.same ∙ c.loop-at.invariant.same)) i in
      let by = c.changed_by.ensures.is d b log entry x before k in
      let next = c.next_change-at.ensures.is d b log entry x behind k ∙ ap (λ y. next_place (change_of y) (rows_of d b log) c.in-Some.change) q in
      let rows = rows_of d b log in
      let answer = is_active (edges d b (log_at d b log c.args.prefix)) e.pair in
      subst (λ t. Told rows e.pair c.args.prefix answer t c.next_change-at.result) (sym (c.changed_state-active.ensures.is d b log entry x here k))
      (told_below rows e.pair c.args.prefix answer c.loop-at.active c.loop-at.at c.in-Some.change entry x _ c.in-Some.is told k q (subst (λ n. n < c.args.prefix) by c.if-changed_by-prefix.false) next);
}

pub returns-clause-is : goal.returns-clause-is
returns-clause-is g c = λ d b log made e i h. told_end (rows_of d b log) e.pair c.args.prefix _ c.loop-at.active c.loop-at.at c.in_default.not-Some (c.loop-at.invariant.left d b log made e i h)
