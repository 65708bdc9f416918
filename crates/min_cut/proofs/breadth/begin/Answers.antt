use Rattle.std.proofs.Common.{◌≡◌, ◌+◌, arith, length, ◌∙◌, refl, sym, get_or, inl, inr, is_some, subst, List, Option}
use Rattle.std.proofs.lemmas.Bool.{cases_Bool}
use Rattle.min_cut.specs.declared.search.Visit.{Visit}
use Rattle.min_cut.specs.Tree.{visit_at}
use Rattle.min_cut.proofs.Levels.{StartedBelow, started_none, started_more, started_same, started_all}
use Rattle.min_cut.proofs.Queued.{queue_none, none_visited, all_none}
use Rattle.min_cut.proofs.breadth.begin.Goals as goal

pub loop-s-init : goal.loop-s-init
loop-s-init c = record {
  len = refl;
  room = c.requires.room ∙ sym c.loop-visit.auto.visits;
  begun = started_none c.args.sources.now c.loop-visit.visits (λ v l. c.loop-visit.invariant v (omega arith));
  holds = queue_none c.loop-visit.visits c.args.queue.now (all_none c.loop-visit.visits (λ v l. c.loop-visit.invariant v (omega arith)))
      (none_visited c.loop-visit.visits (λ v l. c.loop-visit.invariant v (omega arith)));
}

pub loop-s-preserved : goal.loop-s-preserved
loop-s-preserved c =
    let i = c.loop-s.invariant in
    let e = c.begin_at-tail.ensures in
    let y : Visit = record { level = 0; link = 0; width = 8589934592 } in
    record {
      len = c.begin_at-tail.auto.visits ∙ i.len;
      room = c.begin_at-tail.auto.queue ∙ (i.room ∙ sym c.begin_at-tail.auto.visits);
      begun = elim (cases_Bool (is_some (visit_at c.loop-s.visits (get_or c.args.sources.now c.loop-s.s-index 0)))) [
        | inl t ↦ subst (λ (vs : List (Option Visit)). StartedBelow c.args.sources.now vs (c.loop-s.s-index + 1)) (sym (e.same t)) (started_same c.args.sources.now c.loop-s.visits c.loop-s.s-index t i.begun)
        | inr f ↦ subst (λ (vs : List (Option Visit)). StartedBelow c.args.sources.now vs (c.loop-s.s-index + 1)) (sym (e.set f)) (started_more c.args.sources.now c.loop-s.visits c.loop-s.s-index c.loop-s-test.true
            (let e : length c.loop-s.visits ≡ length c.args.visits.now = c.loop-s.auto.visits ∙ c.loop-visit.auto.visits in rw e (c.requires.sources _ _ c.loop-s-test.true)) i.begun)
      ];
      holds = e.queue;
    }

pub returns : goal.returns
returns c = record {
  only = c.loop-s.invariant.begun.only;
  each = started_all c.args.sources.now c.loop-s.visits c.loop-s.s-index c.loop-s.invariant.begun c.loop-s-test.false;
  queue = c.loop-s.invariant.holds;
}
