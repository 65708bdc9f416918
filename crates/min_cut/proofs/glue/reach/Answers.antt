use Rattle.std.proofs.Common.{◌≡◌, arith, map, length, ◌∙◌, sym, zero-le, refl, true, is_some, Option, Some, None, List, ℕ}
use Rattle.std.proofs.lemmas.List.{length-map}
use Rattle.std.proofs.lemmas.Bool.{false≢true}
use Rattle.flow_net.specs.Net.{wire_of}
use Rattle.graph_model.specs.Lists.{has}
use Rattle.min_cut.specs.declared.search.Visit.{Visit}
use Rattle.min_cut.specs.Tree.{visit_at}
use Rattle.min_cut.proofs.Levels.{visited_le}
use Rattle.min_cut.proofs.Queued.{queue_seen, queue_below}
use Rattle.min_cut.proofs.Reaching.{spread_more, spread_all}
use Rattle.min_cut.proofs.glue.reach.Goals as goal

source_of : (sources : List ℕ) (visits : List (Option Visit)) → ((v : ℕ) (visit : Visit) → visit_at visits v ≡ Some visit → (has sources v ≡ true) × (visit ≡ record { level = 0; link = 0; width = 8589934592 })) →
    (v : ℕ) → is_some (visit_at visits v) ≡ true → has sources v ≡ true
source_of sources visits only v h = go (visit_at visits v) refl h
  where
    go : (o : Option Visit) → visit_at visits v ≡ o → is_some o ≡ true → has sources v ≡ true
    go None e h = absurd (false≢true h)
    go (Some visit) e h = (only v visit e).0

pub loop-head-init : goal.loop-head-init
loop-head-init c = record {
  len = refl;
  room = c.begin-tail.auto.queue ∙ (c.requires.room ∙ sym c.begin-tail.auto.visits);
  holds = c.begin-tail.ensures.queue;
  order = zero-le;
  each = c.begin-tail.ensures.each;
  sound = λ r f v h. rw length-map (f v (source_of c.args.sources.now c.begin-tail.new.visits c.begin-tail.ensures.only v h));
  spread = record { each = λ i w l. absurd (omega arith) };
}

pub reach_from-tail-requires-clause-below : goal.reach_from-tail-requires-clause-below
reach_from-tail-requires-clause-below c = queue_below c.loop-head.visits c.loop-head.queue c.loop-head.tail c.loop-head.head c.loop-head.invariant.holds c.loop-head-test.true

pub reach_from-tail-requires-clause-from : goal.reach_from-tail-requires-clause-from
reach_from-tail-requires-clause-from c = queue_seen c.loop-head.visits c.loop-head.queue c.loop-head.tail c.loop-head.head c.loop-head.invariant.holds c.loop-head-test.true

pub loop-head-preserved : goal.loop-head-preserved
loop-head-preserved c =
    let i = c.loop-head.invariant in
    let g = c.reach_from-tail.ensures.glues in
    let m = g.more in
    let t = c.loop-head-test.true in
    record {
      len = c.reach_from-tail.auto.visits ∙ i.len;
      room = c.reach_from-tail.auto.queue ∙ (i.room ∙ sym c.reach_from-tail.auto.visits);
      holds = g.holds;
      order = omega arith;
      each = λ v h. g.kept v (i.each v h);
      sound = λ r f. g.sound r (i.sound r f);
      spread = spread_more (length c.args.visits.now) (map wire_of c.args.links.now) c.args.starts.now c.args.arcs.now c.loop-head.visits c.reach_from-tail.new.visits
          c.loop-head.queue c.reach_from-tail.new.queue c.loop-head.head c.loop-head.tail c.reach_from-tail.result c.requires.arcs t g c.reach_from-tail.ensures.closed i.spread;
    }

pub loop-head-smaller : goal.loop-head-smaller
loop-head-smaller c =
    let n = c.loop-head.invariant.holds.count in
    let v = visited_le c.loop-head.visits in
    let e = c.loop-head.invariant.len in
    let t = c.loop-head-test.true in
    omega arith

pub returns : goal.returns
returns c =
    let i = c.loop-head.invariant in
    record {
      each = i.each;
      closed = spread_all (map wire_of c.args.links.now) c.loop-head.visits c.loop-head.queue c.loop-head.head c.loop-head.tail i.holds c.loop-head-test.false i.spread;
      sound = i.sound;
    }
