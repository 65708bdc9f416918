use Rattle.std.proofs.Common.{◌≡◌, ℕ, zero, suc, ◌-◌, ◌<◌, false, set, count_by, arith, map, length, ◌∙◌, refl, ap, length-set}
use Rattle.flow_net.specs.Net.{wire_of}
use Rattle.min_cut.specs.Tree.{level_of, level_in}
use Rattle.min_cut.specs.Steps.{IsStep, step_at}
use Rattle.min_cut.specs.declared.blocking.Step.{Step}
use Rattle.min_cut.proofs.Climbing.{climbs_level, climbs_on, climbs_back, alive_at, alive_on, alive_back, alive_less, marked_below, one_less, falls_back}
use Rattle.min_cut.proofs.blocking.find_walk.Goals as goal

pub next_from-requires-clause-level : goal.next_from-requires-clause-level
next_from-requires-clause-level c = climbs_level (map wire_of c.args.links.now) c.args.amounts.now (level_of c.args.visits.now) c.loop-at.steps c.args.source c.loop-at.depth c.loop-at.at c.loop-at.invariant.climbs

pub next_from-requires-clause-low : goal.next_from-requires-clause-low
next_from-requires-clause-low c = let l = c.loop-at.invariant.low in let s = c.requires.size in omega arith

pub loop-at-preserved-in-Some : goal.loop-at-preserved-in-Some
loop-at-preserved-in-Some c =
    let i = c.loop-at.invariant in
    let ws = map wire_of c.args.links.now in
    let n = c.in-Some.ensures in
    let (visit, e, up) = n.seen in
    let x : Step = record { link = c.in-Some.next.link; from = c.loop-at.at; room = c.in-Some.next.room } in
    let at = climbs_level ws c.args.amounts.now (level_of c.args.visits.now) c.loop-at.steps c.args.source c.loop-at.depth c.loop-at.at i.climbs in
    let to : level_of c.args.visits.now c.in-Some.next.to ≡ visit.level = ap level_in e in
    let d : c.loop-at.depth < length c.loop-at.steps = let l = i.low in let s = i.steps in omega arith in
    let low = c.requires.short c.in-Some.next.to visit e in
    let step : IsStep ws c.args.amounts.now (level_of c.args.visits.now) x c.in-Some.next.to = record { carries = n.carries; some = n.some; narrow = n.narrow; up = omega arith } in
    record {
      climbs = climbs_on ws c.args.amounts.now (level_of c.args.visits.now) c.loop-at.steps c.args.source c.loop-at.depth c.loop-at.at c.in-Some.next.to x d refl step i.climbs;
      living = alive_on c.loop-at.alive c.loop-at.steps c.loop-at.depth c.loop-at.at c.in-Some.next.to x d refl n.living i.living;
      below = n.below;
      alive = i.alive;
      cursors = c.next_from.auto.cursors ∙ i.cursors;
      steps = rw length-set i.steps;
      low = omega arith;
    }

positive : (d : ℕ) → (d ≡ 0 → ⊥) → 0 < d
positive zero h = absurd (h refl)
positive (suc d) h = omega arith

pub loop-at-preserved : goal.loop-at-preserved
loop-at-preserved c =
    let i = c.loop-at.invariant in
    let ws = map wire_of c.args.links.now in
    let level = level_of c.args.visits.now in
    let p = positive c.loop-at.depth c.if-depth-eq0.false in
    let back = climbs_back ws c.args.amounts.now level c.loop-at.steps c.args.source c.loop-at.depth c.loop-at.at p i.climbs in
    let at = climbs_level ws c.args.amounts.now level c.loop-at.steps c.args.source c.loop-at.depth c.loop-at.at i.climbs in
    let living = alive_back c.loop-at.alive c.loop-at.steps c.loop-at.depth c.loop-at.at p i.living in
    let from = (step_at c.loop-at.steps (c.loop-at.depth - 1)).from in
    let b = marked_below c.loop-at.alive from (alive_at c.loop-at.alive c.loop-at.steps (c.loop-at.depth - 1) from living) in
    record {
      climbs = back.1;
      living = alive_less ws c.args.amounts.now level c.loop-at.steps c.args.source c.loop-at.at c.loop-at.alive (c.loop-at.depth - 1) from back.1 (omega arith) living;
      below = let e = i.alive in omega arith;
      alive = rw length-set i.alive;
      cursors = c.next_from.auto.cursors ∙ i.cursors;
      steps = i.steps;
      low = let l = i.low in omega arith;
    }

pub loop-at-smaller : goal.loop-at-smaller
loop-at-smaller c =
    let i = c.loop-at.invariant in
    let m = alive_at c.loop-at.alive c.loop-at.steps c.loop-at.depth c.loop-at.at i.living in
    falls_back (length c.args.visits.now) (count_by (λ s. s) c.loop-at.alive) (count_by (λ s. s) (set c.loop-at.alive c.loop-at.at false)) c.loop-at.depth
    (one_less c.loop-at.alive c.loop-at.at (marked_below c.loop-at.alive c.loop-at.at m) m) (positive c.loop-at.depth c.if-depth-eq0.false) (let l = i.low in omega arith)
