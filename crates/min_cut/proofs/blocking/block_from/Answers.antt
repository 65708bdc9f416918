use Rattle.std.proofs.Common.{ℕ, ◌+◌, ◌-◌, ◌<◌, ◌≤◌, map, length, ◌∙◌, arith}
use Rattle.flow_net.specs.Net.{wire_of}
use Rattle.graph_model.specs.Cuts.{weight, is_affinity}
use Rattle.min_cut.specs.Tree.{level_of}
use Rattle.min_cut.specs.Queue.{marked}
use Rattle.min_cut.proofs.Climbing.{sent_on}
use Rattle.min_cut.proofs.Flowing.{sent_below}
use Rattle.min_cut.proofs.blocking.block_from.Goals as goal

falls : (most sent width : ℕ) → sent + width ≤ most → 0 < width → most - (sent + width) < most - sent
falls most sent width l p = omega arith

pub send-requires-clause-bound : goal.send-requires-clause-bound
send-requires-clause-bound c =
    let s = sent_below (length c.args.visits.now) (map wire_of c.args.links.now) c.args.sources.now (marked c.args.is_sink.now) c.loop-found.amounts c.loop-found.sent c.loop-found.invariant.flowing c.requires.ends c.requires.apart in
    let b = c.requires.bound in
    omega arith

pub overflow_add-sent : goal.overflow_add-sent
overflow_add-sent c =
    let o = sent_on (length c.args.visits.now) (map wire_of c.args.links.now) c.args.sources.now (marked c.args.is_sink.now) c.loop-found.amounts c.send.new.amounts c.loop-found.sent c.narrowest-width.result
    (level_of c.args.visits.now) c.find_walk.new.steps c.args.j c.in-Some.found.source c.in-Some.found.depth c.in-Some.found.sink
    c.loop-found.invariant.flowing c.requires.apart c.requires.ends c.requires.place c.in-Some.ensures.walk c.in-Some.ensures.sink c.send.ensures.moves c.send.ensures.fits c.narrowest-width.ensures.some in
    let below = o.1 in
    let b = c.requires.bound in
    record { fits = omega arith }

pub loop-found-smaller : goal.loop-found-smaller
loop-found-smaller c =
    let o = sent_on (length c.args.visits.now) (map wire_of c.args.links.now) c.args.sources.now (marked c.args.is_sink.now) c.loop-found.amounts c.send.new.amounts c.loop-found.sent c.narrowest-width.result
    (level_of c.args.visits.now) c.find_walk.new.steps c.args.j c.in-Some.found.source c.in-Some.found.depth c.in-Some.found.sink
    c.loop-found.invariant.flowing c.requires.apart c.requires.ends c.requires.place c.in-Some.ensures.walk c.in-Some.ensures.sink c.send.ensures.moves c.send.ensures.fits c.narrowest-width.ensures.some in
    falls (weight (map wire_of c.args.links.now) (is_affinity (map wire_of c.args.links.now))) c.loop-found.sent c.narrowest-width.result o.1 o.2

pub loop-found-preserved : goal.loop-found-preserved
loop-found-preserved c =
    let o = sent_on (length c.args.visits.now) (map wire_of c.args.links.now) c.args.sources.now (marked c.args.is_sink.now) c.loop-found.amounts c.send.new.amounts c.loop-found.sent c.narrowest-width.result
    (level_of c.args.visits.now) c.find_walk.new.steps c.args.j c.in-Some.found.source c.in-Some.found.depth c.in-Some.found.sink
    c.loop-found.invariant.flowing c.requires.apart c.requires.ends c.requires.place c.in-Some.ensures.walk c.in-Some.ensures.sink c.send.ensures.moves c.send.ensures.fits c.narrowest-width.ensures.some in
    let i = c.loop-found.invariant in
    record {
      flowing = o.0;
      more = let m = i.more in omega arith;
      amounts = c.send.auto.amounts ∙ i.amounts;
      alive = c.find_walk.auto.alive ∙ i.alive;
      cursors = c.find_walk.auto.cursors ∙ i.cursors;
      steps = c.find_walk.auto.steps ∙ i.steps;
    }
