use Rattle.std.proofs.Common.{◌<◌, ◌∙◌, refl, sym, ap, subst, length}
use Rattle.record_rows.specs.Chains.{change_of}
use Rattle.record_rows.specs.LogRows.{rows_of}
use Rattle.record_rows.specs.Readings.{Image, next_place}
use Rattle.record_rows.proofs.WalkLemmas.{steps_left}
use Rattle.undo_redo.proofs.LastChanges.{walk_ends, walk_falls, walk_here, walk_on}
use Rattle.undo_redo.proofs.pair_changes.last_of_pair.Goals as goal

pub loop-next-init : goal.loop-next-init
loop-next-init g c = record { same = refl; walked = λ d b log entry x i h. (entry, x, h, refl) }

pub later_change-next-requires : goal.later_change-next-requires
later_change-next-requires g c =
    let (d, b, log, entry, x, i, h) = c.requires.change in
    let here = walk_here d b log x.pair c.loop-next.last c.loop-next.next c.in-Some.place (c.loop-next.invariant.walked d b log entry x i h) c.in-Some.is in
    record { change = (d, b, log, here.0, here.1, subst (λ w. Image d b log (g.W.Words.words w)) (sym c.loop-next.invariant.same) i, here.2) }

pub loop-next-smaller : goal.loop-next-smaller
loop-next-smaller g c =
    let (d, b, log, entry, x, i, h) = c.requires.change in
    let here = walk_here d b log x.pair c.loop-next.last c.loop-next.next c.in-Some.place (c.loop-next.invariant.walked d b log entry x i h) c.in-Some.is in
    let to = c.later_change-next.ensures.is d b log here.0 here.1 (subst (λ w. Image d b log (g.W.Words.words w)) (sym c.loop-next.invariant.same) i) here.2 ∙ ap (λ q. next_place (change_of q) (rows_of d b log) c.in-Some.place) here.3 in
    subst (λ o. steps_left (length (g.W.Words.words c.args.w.now)) c.later_change-next.result < steps_left (length (g.W.Words.words c.args.w.now)) o) (sym c.in-Some.is)
    (walk_falls d b log x.pair _ i c.in-Some.place here c.later_change-next.result to)

pub loop-next-preserved : goal.loop-next-preserved
loop-next-preserved g c = record {
  same = c.later_change-next.ensures.same ∙ c.loop-next.invariant.same;
  walked = λ d b log entry x i h.
      let here = walk_here d b log x.pair c.loop-next.last c.loop-next.next c.in-Some.place (c.loop-next.invariant.walked d b log entry x i h) c.in-Some.is in
      walk_on d b log x.pair c.in-Some.place c.later_change-next.result here
      (c.later_change-next.ensures.is d b log here.0 here.1 (subst (λ w. Image d b log (g.W.Words.words w)) (sym c.loop-next.invariant.same) i) here.2 ∙ ap (λ q. next_place (change_of q) (rows_of d b log) c.in-Some.place) here.3);
}

pub returns-clause-is : goal.returns-clause-is
returns-clause-is g c = λ d b log entry x i h. walk_ends d b log x.pair c.loop-next.last c.loop-next.next (c.loop-next.invariant.walked d b log entry x i h) c.in_default.is
