use Rattle.std.proofs.Common.{length, map, arith, ◌∙◌, sym, refl}
use Rattle.std.proofs.lemmas.Bool.{false≢true}
use Rattle.flow_net.specs.Net.{wire_of}
use Rattle.graph_model.specs.Lists.{has}
use Rattle.graph_model.specs.Cuts.{weight, is_affinity}
use Rattle.min_cut.proofs.Flowing.{flowing_zero, flow_of, augmented, apart_of, sent_below, measure_falls, width_fits, last_of, value_is}
use Rattle.min_cut.proofs.walk.greatest_flow.Goals as goal

pub loop-going-init : goal.loop-going-init
loop-going-init c = record {
  len = refl;
  amounts = c.requires.amounts;
  flowing = flowing_zero (length c.args.visits.now) (map wire_of c.args.links.now) c.args.sources.now (has c.args.sinks.now) c.args.amounts.now c.requires.zero;
  last = λ h. absurd (false≢true (sym h));
}

pub augment-source-requires-clause-bound : goal.augment-source-requires-clause-bound
augment-source-requires-clause-bound c =
    let apart = apart_of (map wire_of c.args.links.now) c.args.sources.now c.args.sinks.now c.requires.sides c.requires.separable in
    let s = sent_below (length c.args.visits.now) (map wire_of c.args.links.now) c.args.sources.now (has c.args.sinks.now) c.loop-going.amounts c.loop-going.sent c.loop-going.invariant.flowing c.requires.ends apart in
    let b = c.total_room-most.ensures in omega arith

pub augment-source-requires-clause-width : goal.augment-source-requires-clause-width
augment-source-requires-clause-width c =
    (width_fits (map wire_of c.args.links.now) c.args.sources.now c.loop-going.amounts c.explore.new.visits c.in-Some.sink c.width_of-width.result c.explore.ensures.tree c.width_of-width.ensures).1

pub overflow_add-sent : goal.overflow_add-sent
overflow_add-sent c =
    let on = augmented (length c.args.visits.now) (map wire_of c.args.links.now) c.args.sources.now (has c.args.sinks.now) c.loop-going.amounts c.augment-source.new.amounts c.loop-going.sent c.width_of-width.result c.augment-source.result c.in-Some.sink c.explore.new.visits
    c.loop-going.invariant.flowing (apart_of (map wire_of c.args.links.now) c.args.sources.now c.args.sinks.now c.requires.sides c.requires.separable) c.requires.ends c.explore.ensures.tree
    c.augment-source.ensures.pushed c.augment-source.ensures.seen c.augment-source.ensures.first c.in-Some.ensures.some.0 in
    let below = on.1 in
    let b = c.total_room-most.ensures in record { fits = omega arith }

pub loop-going-smaller-in-Some : goal.loop-going-smaller-in-Some
loop-going-smaller-in-Some c =
    let ws = map wire_of c.args.links.now in
    let on = augmented (length c.args.visits.now) (map wire_of c.args.links.now) c.args.sources.now (has c.args.sinks.now) c.loop-going.amounts c.augment-source.new.amounts c.loop-going.sent c.width_of-width.result c.augment-source.result c.in-Some.sink c.explore.new.visits
    c.loop-going.invariant.flowing (apart_of (map wire_of c.args.links.now) c.args.sources.now c.args.sinks.now c.requires.sides c.requires.separable) c.requires.ends c.explore.ensures.tree
    c.augment-source.ensures.pushed c.augment-source.ensures.seen c.augment-source.ensures.first c.in-Some.ensures.some.0 in
    measure_falls (weight ws (is_affinity ws)) c.loop-going.sent c.width_of-width.result c.loop-going.going
    (width_fits ws c.args.sources.now c.loop-going.amounts c.explore.new.visits c.in-Some.sink c.width_of-width.result c.explore.ensures.tree c.width_of-width.ensures).0 on.1

pub loop-going-preserved-in-Some : goal.loop-going-preserved-in-Some
loop-going-preserved-in-Some c =
    let on = augmented (length c.args.visits.now) (map wire_of c.args.links.now) c.args.sources.now (has c.args.sinks.now) c.loop-going.amounts c.augment-source.new.amounts c.loop-going.sent c.width_of-width.result c.augment-source.result c.in-Some.sink c.explore.new.visits
    c.loop-going.invariant.flowing (apart_of (map wire_of c.args.links.now) c.args.sources.now c.args.sinks.now c.requires.sides c.requires.separable) c.requires.ends c.explore.ensures.tree
    c.augment-source.ensures.pushed c.augment-source.ensures.seen c.augment-source.ensures.first c.in-Some.ensures.some.0 in
    record {
      len = c.explore.auto.visits ∙ c.loop-going.invariant.len;
      amounts = c.augment-source.auto.amounts ∙ c.loop-going.invariant.amounts;
      flowing = on.0;
      last = λ h. absurd (false≢true (sym h ∙ c.loop-going-test.true));
    }

pub loop-going-preserved : goal.loop-going-preserved
loop-going-preserved c = record {
  len = c.explore.auto.visits ∙ c.loop-going.invariant.len;
  amounts = c.loop-going.invariant.amounts;
  flowing = c.loop-going.invariant.flowing;
  last = λ _. last_of (map wire_of c.args.links.now) c.args.sources.now c.args.sinks.now c.loop-going.amounts c.explore.new.visits c.explore.ensures.tree c.explore.ensures.closed c.in-None.ensures.none;
}

pub returns : goal.returns
returns c =
    let i = c.loop-going.invariant in
    record {
      flow = rw i.len (flow_of (length c.args.visits.now) (map wire_of c.args.links.now) c.args.sources.now c.args.sinks.now (has c.args.sinks.now) c.loop-going.amounts c.loop-going.sent (λ v. refl) i.flowing);
      last = i.last c.loop-going-test.false;
      value = value_is (map wire_of c.args.links.now) c.loop-going.amounts c.args.sources.now c.loop-going.sent i.flowing.value;
    }
