use Rattle.std.proofs.Common.{◌≡◌, true, arith, map, length, is_some, ◌∙◌, ap, subst, sym, zero-le, refl}
use Rattle.flow_net.specs.Net.{wire_of}
use Rattle.min_cut.specs.Tree.{visit_at}
use Rattle.min_cut.specs.Queue.{marked}
use Rattle.min_cut.proofs.Levels.{explored_start, visited_le}
use Rattle.min_cut.proofs.Queued.{queue_seen, queue_low, queue_short, queue_below, done_more, done_all}
use Rattle.min_cut.proofs.breadth.explore.Goals as goal

pub loop-head-init : goal.loop-head-init
loop-head-init c = record {
  len = refl;
  room = c.begin-tail.auto.queue ∙ (c.requires.room ∙ sym c.begin-tail.auto.visits);
  tree = (explored_start (map wire_of c.args.links.now) c.args.sources.now c.args.amounts.now c.begin-tail.new.visits c.begin-tail.ensures.only c.begin-tail.ensures.each).tree;
  holds = c.begin-tail.ensures.queue;
  order = zero-le;
  past = (zero-le, zero-le);
  none = λ i l. absurd (omega arith);
  done = record { each = λ i l. absurd (omega arith) };
}

pub past_sinks-requires-clause-below : goal.past_sinks-requires-clause-below
past_sinks-requires-clause-below c i l =
    let b = queue_below c.loop-head.visits c.loop-head.queue c.loop-head.tail i c.loop-head.invariant.holds l in
    let e : length c.loop-head.visits ≡ length c.args.visits.now = c.loop-head.invariant.len ∙ c.begin-tail.auto.visits in
    let m = c.requires.marks in
    omega arith

pub level_at-level-requires-clause-at : goal.level_at-level-requires-clause-at
level_at-level-requires-clause-at c = queue_below c.loop-head.visits c.loop-head.queue c.loop-head.tail c.loop-head.head c.loop-head.invariant.holds c.loop-head-test.true

pub level_at-level-requires-clause-visited : goal.level_at-level-requires-clause-visited
level_at-level-requires-clause-visited c = queue_seen c.loop-head.visits c.loop-head.queue c.loop-head.tail c.loop-head.head c.loop-head.invariant.holds c.loop-head-test.true

pub expand_from-tail-requires-clause-level : goal.expand_from-tail-requires-clause-level
expand_from-tail-requires-clause-level c =
    queue_low c.loop-head.visits c.loop-head.queue c.loop-head.tail c.loop-head.head c.level_at-level.result c.loop-head.invariant.holds c.loop-head-test.true c.level_at-level.ensures.at

pub loop-head-preserved : goal.loop-head-preserved
loop-head-preserved c =
    let i = c.loop-head.invariant in
    let q = c.expand_from-tail.ensures.queues in
    let m = q.more in
    let t = c.loop-head-test.true in
    record {
      len = c.expand_from-tail.auto.visits ∙ i.len;
      room = c.expand_from-tail.auto.queue ∙ (i.room ∙ sym c.expand_from-tail.auto.visits);
      tree = q.grew.tree c.args.sources.now i.tree;
      holds = q.holds;
      order = omega arith;
      past = (let (a, b) = c.in-Ok.ensures.order in omega arith, let (a, b) = c.in-Ok.ensures.order in omega arith);
      none = λ j l. ap (marked c.args.is_sink.now) (q.kept j (let (a, b) = c.in-Ok.ensures.order in omega arith)) ∙ c.in-Ok.ensures.plain j l;
      done = done_more (length c.args.visits.now) (map wire_of c.args.links.now) c.args.amounts.now c.args.starts.now c.args.arcs.now c.args.is_sink.now c.loop-head.visits c.expand_from-tail.new.visits
          c.loop-head.queue c.expand_from-tail.new.queue c.loop-head.head c.loop-head.tail c.expand_from-tail.result c.level_at-level.result
          c.requires.arcs t q (c.in-Ok.ensures.plain c.loop-head.head c.in-Ok.ensures.order.0) c.expand_from-tail.ensures.closed i.done;
    }

pub loop-head-smaller : goal.loop-head-smaller
loop-head-smaller c =
    let n = c.loop-head.invariant.holds.count in
    let v = visited_le c.loop-head.visits in
    let e = c.loop-head.invariant.len in
    let t = c.loop-head-test.true in
    omega arith

pub returns-in-Err-clause-short : goal.returns-in-Err-clause-short
returns-in-Err-clause-short c = queue_short c.loop-head.visits c.loop-head.queue c.loop-head.tail c.loop-head.invariant.holds

pub returns-in-Err-clause-some : goal.returns-in-Err-clause-some
returns-in-Err-clause-some c =
    let (m, i, l, e) = c.in-Err.ensures.sink in
    (m, subst (λ v. is_some (visit_at c.loop-head.visits v) ≡ true) e (queue_seen c.loop-head.visits c.loop-head.queue c.loop-head.tail i c.loop-head.invariant.holds l))

pub returns : goal.returns
returns c =
    let i = c.loop-head.invariant in
    let d = done_all (map wire_of c.args.links.now) c.args.amounts.now c.args.is_sink.now c.loop-head.visits c.loop-head.queue c.loop-head.head c.loop-head.tail i.holds c.loop-head-test.false i.done in
    record {
      tree = i.tree;
      short = queue_short c.loop-head.visits c.loop-head.queue c.loop-head.tail i.holds;
      some = tt;
      none = d.1;
      closed = d.0;
    }
