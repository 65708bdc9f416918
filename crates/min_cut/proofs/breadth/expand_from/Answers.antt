use Rattle.std.proofs.Common.{◌≤◌, map, length, get_or, refl, ◌∙◌, inl, inr, eq-or-lt_of_le, arith, subst, sym}
use Rattle.flow_net.specs.Net.{wire_of}
use Rattle.min_cut.specs.Tree.{ArcOver}
use Rattle.min_cut.proofs.Adjacent.{arc_below}
use Rattle.min_cut.proofs.Queued.{from_below, at_kept, some_kept, queues_none, queues_then}
use Rattle.min_cut.proofs.breadth.expand_from.Goals as goal

pub loop-i-init : goal.loop-i-init
loop-i-init c = record {
  len = refl;
  room = c.requires.room;
  queues = queues_none (map wire_of c.args.links.now) c.args.amounts.now c.args.visits.now c.args.queue.now c.args.before c.args.level c.requires.queue;
  closed = λ j w l m. absurd (omega arith);
}

pub visit_over-tail-requires-clause-at : goal.visit_over-tail-requires-clause-at
visit_over-tail-requires-clause-at c =
    (arc_below (length c.args.visits.now) c.args.links.now c.args.starts.now c.args.arcs.now c.args.from c.loop-i.i c.requires.arcs (from_below c.args.visits.now c.args.level c.args.from c.requires.from) c.loop-i-test.true).1

pub visit_over-tail-requires-clause-ends : goal.visit_over-tail-requires-clause-ends
visit_over-tail-requires-clause-ends c = rw c.loop-i.invariant.len c.requires.ends

pub visit_over-tail-requires-clause-from : goal.visit_over-tail-requires-clause-from
visit_over-tail-requires-clause-from c = at_kept c.args.visits.now c.loop-i.visits c.args.level c.args.from c.loop-i.invariant.queues.grew.kept c.requires.from

pub visit_over-tail-requires-clause-to : goal.visit_over-tail-requires-clause-to
visit_over-tail-requires-clause-to c =
    let b = from_below c.args.visits.now c.args.level c.args.from c.requires.from in
    let s = c.requires.leads.small c.loop-i.i (omega arith) in
    let e = c.loop-i.invariant.len in
    omega arith

pub visit_over-tail-requires-clause-leads : goal.visit_over-tail-requires-clause-leads
visit_over-tail-requires-clause-leads c w j =
    c.requires.leads.leads c.args.from c.loop-i.i w (from_below c.args.visits.now c.args.level c.args.from c.requires.from) c.loop-i.auto.i c.loop-i-test.true j

pub loop-i-preserved : goal.loop-i-preserved
loop-i-preserved c =
    let i = c.loop-i.invariant in
    let e = c.visit_over-tail.ensures in
    record {
      len = c.visit_over-tail.auto.visits ∙ i.len;
      room = c.visit_over-tail.auto.queue ∙ i.room;
      queues = queues_then (map wire_of c.args.links.now) c.args.amounts.now c.args.visits.now c.loop-i.visits c.visit_over-tail.new.visits c.args.queue.now c.loop-i.queue c.visit_over-tail.new.queue
          c.args.before c.loop-i.tail c.visit_over-tail.result c.args.level i.queues e.queues;
      closed = λ j w l m a. let b : j ≤ c.loop-i.i = omega arith in elim (eq-or-lt_of_le b) [
        | inl q ↦ e.closed w (subst (λ x. ArcOver (map wire_of c.args.links.now) c.args.amounts.now (get_or c.args.arcs.now x 0) c.args.from w) q a)
        | inr s ↦ some_kept c.loop-i.visits c.visit_over-tail.new.visits w e.queues.grew.kept (i.closed j w l s a)
      ];
    }

pub returns : goal.returns
returns c = record {
  queues = c.loop-i.invariant.queues;
  closed = λ k w (j, l, m, e) a. c.loop-i.invariant.closed j w l (let f = c.loop-i-test.false in omega arith)
      (subst (λ x. ArcOver (map wire_of c.args.links.now) c.args.amounts.now x c.args.from w) (sym e) a);
}
