use Rattle.std.proofs.Common.{◌≤◌, map, length, get_or, refl, ◌∙◌, inl, inr, eq-or-lt_of_le, arith, subst, sym}
use Rattle.flow_net.specs.Net.{wire_of}
use Rattle.min_cut.specs.Gluing.{GlueOver}
use Rattle.min_cut.proofs.Adjacent.{arc_below}
use Rattle.min_cut.proofs.Reaching.{glues_none, glues_then}
use Rattle.min_cut.proofs.glue.reach_from.Goals as goal

pub loop-i-init : goal.loop-i-init
loop-i-init c = record {
  len = refl;
  room = c.requires.room;
  glues = glues_none (map wire_of c.args.links.now) c.args.visits.now c.args.queue.now c.args.before c.requires.queue;
  closed = λ j w l m. absurd (omega arith);
}

pub reach_over-tail-requires-clause-at : goal.reach_over-tail-requires-clause-at
reach_over-tail-requires-clause-at c =
    (arc_below (length c.args.visits.now) c.args.links.now c.args.starts.now c.args.arcs.now c.args.from c.loop-i.i c.requires.arcs c.requires.below c.loop-i-test.true).1

pub reach_over-tail-requires-clause-ends : goal.reach_over-tail-requires-clause-ends
reach_over-tail-requires-clause-ends c = rw c.loop-i.invariant.len c.requires.ends

pub reach_over-tail-requires-clause-queue : goal.reach_over-tail-requires-clause-queue
reach_over-tail-requires-clause-queue c = c.loop-i.invariant.glues.holds

pub reach_over-tail-requires-clause-from : goal.reach_over-tail-requires-clause-from
reach_over-tail-requires-clause-from c = c.loop-i.invariant.glues.kept c.args.from c.requires.from

pub loop-i-preserved : goal.loop-i-preserved
loop-i-preserved c =
    let i = c.loop-i.invariant in
    let e = c.reach_over-tail.ensures in
    record {
      len = c.reach_over-tail.auto.visits ∙ i.len;
      room = c.reach_over-tail.auto.queue ∙ i.room;
      glues = glues_then (map wire_of c.args.links.now) c.args.visits.now c.loop-i.visits c.reach_over-tail.new.visits c.args.queue.now c.loop-i.queue c.reach_over-tail.new.queue
          c.args.before c.loop-i.tail c.reach_over-tail.result i.glues e.glues;
      closed = λ j w l m a. let b : j ≤ c.loop-i.i = omega arith in elim (eq-or-lt_of_le b) [
        | inl q ↦ e.closed w (subst (λ x. GlueOver (map wire_of c.args.links.now) (get_or c.args.arcs.now x 0) c.args.from w) q a)
        | inr s ↦ e.glues.kept w (i.closed j w l s a)
      ];
    }

pub returns : goal.returns
returns c = record {
  glues = c.loop-i.invariant.glues;
  closed = λ k w (j, l, m, e) a. c.loop-i.invariant.closed j w l (let f = c.loop-i-test.false in omega arith)
      (subst (λ x. GlueOver (map wire_of c.args.links.now) x c.args.from w) (sym e) a);
}
