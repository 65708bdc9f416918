use Rattle.std.proofs.Common.{◌≡◌, ◌<◌, true, map, length, is_some, sym, ◌∙◌, subst}
use Rattle.flow_net.specs.Net.{wire_of}
use Rattle.min_cut.specs.Tree.{visit_at}
use Rattle.min_cut.proofs.Levels.{took_grew}
use Rattle.min_cut.proofs.Queued.{from_below, queue_room, queues_took, queues_none, closed_took, closed_none, leads_over}
use Rattle.min_cut.proofs.breadth.visit_over.Goals as goal

pub returns-then-is_some-clause-queues : goal.returns-then-is_some-clause-queues
returns-then-is_some-clause-queues c = queues_none (map wire_of c.args.links.now) c.args.amounts.now c.args.visits.now c.args.queue.now c.args.tail c.args.level c.requires.queue

pub returns-then-is_some-clause-closed : goal.returns-then-is_some-clause-closed
returns-then-is_some-clause-closed c w a =
    let e = c.requires.leads w (leads_over (map wire_of c.args.links.now) c.args.amounts.now c.args.k c.args.from w a) in
    subst (λ v. is_some (visit_at c.args.visits.now v) ≡ true) (sym e) (sym c.is_some.ensures ∙ c.if-is_some.true)

to_below : (c : goal.Then-try_visit) → c.arc_from-arc.result.to < length c.args.visits.now
to_below c = c.arc_from-arc.ensures.below _ c.requires.ends (from_below c.args.visits.now c.args.level c.args.from c.requires.from)

pub bounds-queue-tail : goal.bounds-queue-tail
bounds-queue-tail c = queue_room c.args.visits.now c.args.queue.now c.args.tail c.arc_from-arc.result.to c.requires.queue (to_below c) (c.try_visit.ensures.yes c.if-try_visit.true).fresh c.requires.room

pub returns-then-try_visit-clause-queues : goal.returns-then-try_visit-clause-queues
returns-then-try_visit-clause-queues c =
    let t = c.try_visit.ensures.yes c.if-try_visit.true in
    queues_took (map wire_of c.args.links.now) c.args.amounts.now c.args.visits.now c.try_visit.new.visits c.args.queue.now c.args.tail c.args.level c.args.k c.args.from _ _
    (to_below c) t (c.arc_from-arc.ensures.leads t.some) c.requires.queue c.requires.room c.requires.level

pub returns-then-try_visit-clause-closed : goal.returns-then-try_visit-clause-closed
returns-then-try_visit-clause-closed c w a =
    let t = c.try_visit.ensures.yes c.if-try_visit.true in
    let ws = map wire_of c.args.links.now in
    closed_took ws c.args.amounts.now c.args.visits.now c.try_visit.new.visits c.args.level c.args.k c.args.from _ _ w (to_below c) t
    (took_grew ws c.args.amounts.now c.args.visits.now c.try_visit.new.visits c.args.level c.args.k c.args.from _ _ (to_below c) t (c.arc_from-arc.ensures.leads t.some))
    (c.arc_from-arc.ensures.only w a)

pub returns-clause-queues : goal.returns-clause-queues
returns-clause-queues c = rw (c.try_visit.ensures.no c.if-try_visit.false).same (queues_none (map wire_of c.args.links.now) c.args.amounts.now c.args.visits.now c.args.queue.now c.args.tail c.args.level c.requires.queue)

pub returns-clause-closed : goal.returns-clause-closed
returns-clause-closed c w a = closed_none c.args.visits.now c.try_visit.new.visits c.args.level c.args.from _ _ w (c.try_visit.ensures.no c.if-try_visit.false) c.requires.from (c.arc_from-arc.ensures.only w a)
