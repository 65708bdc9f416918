use Rattle.std.proofs.Common.{◌+◌, ◌-◌, ◌*◌, ◌<◌, ◌≤◌, cond, Bool, ℕ, length, map, arith, ◌∙◌, sym, refl, subst}
use Rattle.std.proofs.lemmas.Bool.{false≢true}
use Rattle.flow_net.specs.Net.{wire_of}
use Rattle.graph_model.specs.Cuts.{weight, is_affinity}
use Rattle.min_cut.specs.Queue.{marked}
use Rattle.min_cut.specs.Flowing.{Flowing}
use Rattle.min_cut.proofs.Flowing.{flowing_zero, flow_of, augmented, marks_apart, sent_below, width_fits, last_of, value_is}
use Rattle.min_cut.proofs.phases.run_phases.Goals as goal

pub loop-going-init : goal.loop-going-init
loop-going-init c = record {
  len = refl;
  amounts = c.requires.amounts;
  room = c.requires.room;
  alive = c.requires.alive;
  cursors = c.requires.cursors;
  steps = c.requires.steps;
  flowing = flowing_zero (length c.args.visits.now) (map wire_of c.args.links.now) c.args.sources.now (marked c.args.is_sink.now) c.args.amounts.now c.requires.zero;
  last = λ h. absurd (false≢true (sym h));
}

pub augment-source-requires-clause-bound : goal.augment-source-requires-clause-bound
augment-source-requires-clause-bound c =
    let apart = marks_apart (map wire_of c.args.links.now) c.args.sources.now c.args.sinks.now c.args.is_sink.now c.requires.marked c.requires.sides c.requires.separable in
    let s = sent_below (length c.args.visits.now) (map wire_of c.args.links.now) c.args.sources.now (marked c.args.is_sink.now) c.loop-going.amounts c.loop-going.sent c.loop-going.invariant.flowing c.requires.ends apart in
    let b = c.total_room-most.ensures in omega arith

pub augment-source-requires-clause-width : goal.augment-source-requires-clause-width
augment-source-requires-clause-width c =
    (width_fits (map wire_of c.args.links.now) c.args.sources.now c.loop-going.amounts c.explore.new.visits c.in-Some.sink c.width_of-width.result c.explore.ensures.tree c.width_of-width.ensures).1

pub overflow_add-sent : goal.overflow_add-sent
overflow_add-sent c =
    let on = augmented (length c.args.visits.now) (map wire_of c.args.links.now) c.args.sources.now (marked c.args.is_sink.now) c.loop-going.amounts c.augment-source.new.amounts c.loop-going.sent c.width_of-width.result c.augment-source.result c.in-Some.sink c.explore.new.visits
    c.loop-going.invariant.flowing (marks_apart (map wire_of c.args.links.now) c.args.sources.now c.args.sinks.now c.args.is_sink.now c.requires.marked c.requires.sides c.requires.separable) c.requires.ends c.explore.ensures.tree
    c.augment-source.ensures.pushed c.augment-source.ensures.seen c.augment-source.ensures.first c.in-Some.ensures.some.0 in
    let below = on.1 in
    let b = c.total_room-most.ensures in
    record { fits = omega arith }

pub block-sent-requires-clause-apart : goal.block-sent-requires-clause-apart
block-sent-requires-clause-apart c = marks_apart (map wire_of c.args.links.now) c.args.sources.now c.args.sinks.now c.args.is_sink.now c.requires.marked c.requires.sides c.requires.separable

pub block-sent-requires-clause-flowing : goal.block-sent-requires-clause-flowing
block-sent-requires-clause-flowing c =
    let on = augmented (length c.args.visits.now) (map wire_of c.args.links.now) c.args.sources.now (marked c.args.is_sink.now) c.loop-going.amounts c.augment-source.new.amounts c.loop-going.sent c.width_of-width.result c.augment-source.result c.in-Some.sink c.explore.new.visits
    c.loop-going.invariant.flowing (marks_apart (map wire_of c.args.links.now) c.args.sources.now c.args.sinks.now c.args.is_sink.now c.requires.marked c.requires.sides c.requires.separable) c.requires.ends c.explore.ensures.tree
    c.augment-source.ensures.pushed c.augment-source.ensures.seen c.augment-source.ensures.first c.in-Some.ensures.some.0 in
    subst (λ n. Flowing n (map wire_of c.args.links.now) c.args.sources.now (marked c.args.is_sink.now) c.augment-source.new.amounts (c.loop-going.sent + c.width_of-width.result)) (sym (c.explore.auto.visits ∙ c.loop-going.invariant.len)) on.0

-- a phase that sends something makes the measure less
falls : (most sent width now : ℕ) (going : Bool) → 0 < width → sent + width ≤ now → now ≤ most → (most - now) * 2 + cond going 1 0 < (most - sent) * 2 + cond going 1 0
falls most sent width now going p l m = omega arith

pub loop-going-smaller-in-Some : goal.loop-going-smaller-in-Some
loop-going-smaller-in-Some c =
    let ws = map wire_of c.args.links.now in
    let apart = marks_apart ws c.args.sources.now c.args.sinks.now c.args.is_sink.now c.requires.marked c.requires.sides c.requires.separable in
    let f = subst (λ n. Flowing n (map wire_of c.args.links.now) c.args.sources.now (marked c.args.is_sink.now) c.block-sent.new.amounts c.block-sent.result) (c.explore.auto.visits ∙ c.loop-going.invariant.len) c.block-sent.ensures.flowing in
    falls (weight ws (is_affinity ws)) c.loop-going.sent c.width_of-width.result c.block-sent.result c.loop-going.going
    (width_fits ws c.args.sources.now c.loop-going.amounts c.explore.new.visits c.in-Some.sink c.width_of-width.result c.explore.ensures.tree c.width_of-width.ensures).0
    c.block-sent.ensures.more
    (sent_below (length c.args.visits.now) ws c.args.sources.now (marked c.args.is_sink.now) c.block-sent.new.amounts c.block-sent.result f c.requires.ends apart)

pub loop-going-preserved-in-Some : goal.loop-going-preserved-in-Some
loop-going-preserved-in-Some c =
    let i = c.loop-going.invariant in
    record {
      len = c.explore.auto.visits ∙ i.len;
      amounts = c.block-sent.auto.amounts ∙ (c.augment-source.auto.amounts ∙ i.amounts);
      room = c.explore.auto.queue ∙ i.room;
      alive = c.block-sent.auto.alive ∙ i.alive;
      cursors = c.block-sent.auto.cursors ∙ i.cursors;
      steps = c.block-sent.auto.steps ∙ i.steps;
      flowing = subst (λ n. Flowing n (map wire_of c.args.links.now) c.args.sources.now (marked c.args.is_sink.now) c.block-sent.new.amounts c.block-sent.result) (c.explore.auto.visits ∙ c.loop-going.invariant.len) c.block-sent.ensures.flowing;
      last = λ h. absurd (false≢true (sym h ∙ c.loop-going-test.true));
    }

pub loop-going-preserved : goal.loop-going-preserved
loop-going-preserved c =
    let i = c.loop-going.invariant in
    record {
      len = c.explore.auto.visits ∙ i.len;
      amounts = i.amounts;
      room = c.explore.auto.queue ∙ i.room;
      alive = i.alive;
      cursors = i.cursors;
      steps = i.steps;
      flowing = i.flowing;
      last = λ _. last_of (map wire_of c.args.links.now) c.args.sources.now c.args.sinks.now c.loop-going.amounts c.explore.new.visits c.explore.ensures.tree c.in-None.ensures.closed
          (λ v h. c.in-None.ensures.none v (c.requires.marked v ∙ h));
    }

pub returns : goal.returns
returns c =
    let i = c.loop-going.invariant in
    record {
      flow = rw i.len (flow_of (length c.args.visits.now) (map wire_of c.args.links.now) c.args.sources.now c.args.sinks.now (marked c.args.is_sink.now) c.loop-going.amounts c.loop-going.sent c.requires.marked i.flowing);
      last = i.last c.loop-going-test.false;
      value = value_is (map wire_of c.args.links.now) c.loop-going.amounts c.args.sources.now c.loop-going.sent i.flowing.value;
    }
