use Rattle.std.proofs.Common.{◌∙◌, ◌+◌, ◌*◌, min, refl, sym, ap, subst, false, arith}
use Rattle.client_events.specs.declared.phases.Phase.TheVariants as phase
use Rattle.client_events.specs.declared.phases.After.TheVariants as after
use Rattle.client_events.specs.declared.events.Act.TheVariants as act
use Rattle.pcg_base.specs.Causes.{Rose}
use Rattle.client_events.specs.Steps.{Known, act_of, act_of_put}
use Rattle.client_events.proofs.StepLemmas.{act_ready, carried, go_again, go_checking, go_committing, go_locking, go_pinning, go_planning, go_ready, go_releasing, go_replying, go_waiting, go_yielding, holds_of}
use Rattle.client_events.proofs.events.event.Goals as goal

pub overflow_cast-stamp : goal.overflow_cast-stamp
overflow_cast-stamp g c = let k = c.requires.known.4 in omega (arith, k.rest.within, c.requires.lines)

pub returns-in-Ready-clause-act : goal.returns-in-Ready-clause-act
returns-in-Ready-clause-act g c =
    let k = subst (Known g.R.Rows.asked (g.R.Rows.stands c.args.rows.now) (g.R.Rows.drafts c.args.rows.now) c.requires.known.0 c.requires.known.1 c.requires.known.2 c.requires.known.3 c.args.table.now c.args.me.now c.args.client) c.in-Ready.is c.requires.known.4 in
    act_ready g.R.Rows.asked c.requires.known.0 c.requires.known.1 c.requires.known.2 c.requires.known.3 c.args.client 0 c.args.me.now.seen _ c.take_line.result
    (c.take_line.ensures.is c.requires.known.0 c.requires.known.1 c.requires.known.2 c.requires.known.3 c.args.client 0 k.rows k.rest.seen)
    ∙ ap (λ p. act_of p c.take_line.result.taken c.take_line.result.phase) (sym c.in-Ready.is)

pub returns-in-Again-clause-is : goal.returns-in-Again-clause-is
returns-in-Again-clause-is g c = λ d b sh s.
    carried g.R.Rows.stands g.R.Rows.drafts g.R.Rows.asked g.O.Outlet.puts g.O.Outlet.misses (Rose (g.O.Outlet.faults c.args.outlet.now) (g.O.Outlet.faults c.args.outlet.now)) _ _ d b sh s c.args.table.now _ c.args.me.now c.args.client _ c.args.phase (phase.Again c.in-Again.edit) c.args.rows.now _ (c.args.rows.now) _ (record { phase = c.look.result.phase; seen = c.look.result.seen; taken = false; act = act.Look }) c.in-Again.is c.look.ensures.rows c.looked.ensures
    (λ k. go_again g.R.Rows.asked d b sh s c.args.table.now c.args.me.now c.args.client _ (g.R.Rows.stands c.args.rows.now) (g.R.Rows.drafts c.args.rows.now) g.O.Outlet.puts g.O.Outlet.misses (Rose (g.O.Outlet.faults c.args.outlet.now) (g.O.Outlet.faults c.args.outlet.now)) _ _ c.in-Again.edit c.look.result k refl (c.look.ensures.is d b sh s c.args.client c.args.me.now.taken k.rows))

pub returns-in-Pinning-clause-is : goal.returns-in-Pinning-clause-is
returns-in-Pinning-clause-is g c = λ d b sh s.
    carried g.R.Rows.stands g.R.Rows.drafts g.R.Rows.asked g.O.Outlet.puts g.O.Outlet.misses (Rose (g.O.Outlet.faults c.args.outlet.now) (g.O.Outlet.faults c.args.outlet.now)) _ _ d b sh s c.args.table.now _ c.args.me.now c.args.client _ c.args.phase (phase.Pinning c.in-Pinning.edit) c.args.rows.now _ (c.args.rows.now) _ (record { phase = c.pin.result.phase; seen = c.pin.result.seen; taken = false; act = act.Pin }) c.in-Pinning.is c.pin.ensures.rows c.looked-in-Pinning.ensures
    (λ k. go_pinning g.R.Rows.asked d b sh s c.args.table.now c.args.me.now c.args.client _ (g.R.Rows.stands c.args.rows.now) (g.R.Rows.drafts c.args.rows.now) g.O.Outlet.puts g.O.Outlet.misses (Rose (g.O.Outlet.faults c.args.outlet.now) (g.O.Outlet.faults c.args.outlet.now)) _ _ c.in-Pinning.edit c.pin.result k refl (c.pin.ensures.is d b sh s c.args.me.now.taken k.rows (holds_of k)))

pub returns-in-Planning-clause-is : goal.returns-in-Planning-clause-is
returns-in-Planning-clause-is g c = λ d b sh s.
    carried g.R.Rows.stands g.R.Rows.drafts g.R.Rows.asked g.O.Outlet.puts g.O.Outlet.misses (Rose (g.O.Outlet.faults c.args.outlet.now) (g.O.Outlet.faults c.args.outlet.now)) _ _ d b sh s c.args.table.now _ c.args.me.now c.args.client _ c.args.phase (phase.Planning c.in-Planning.edit) c.args.rows.now _ (c.args.rows.now) _ (record { phase = c.plan.result; seen = c.args.me.now.seen; taken = false; act = act.Plan }) c.in-Planning.is c.plan.ensures.rows c.stay-in-Planning.ensures
    (λ k. go_planning g.R.Rows.asked d b sh s c.args.table.now c.args.me.now c.args.client _ (g.R.Rows.stands c.args.rows.now) (g.R.Rows.drafts c.args.rows.now) g.O.Outlet.puts g.O.Outlet.misses (Rose (g.O.Outlet.faults c.args.outlet.now) (g.O.Outlet.faults c.args.outlet.now)) _ _ c.in-Planning.edit c.plan.result k refl (c.plan.ensures.is d b sh s c.args.client c.args.me.now.taken k.rows k.rest.seen k.dataset.layout k.legal k.history))

pub returns-in-Locking-clause-is : goal.returns-in-Locking-clause-is
returns-in-Locking-clause-is g c = λ d b sh s.
    carried g.R.Rows.stands g.R.Rows.drafts g.R.Rows.asked g.O.Outlet.puts g.O.Outlet.misses (Rose (g.O.Outlet.faults c.args.outlet.now) (g.O.Outlet.faults c.args.outlet.now)) _ _ d b sh s c.args.table.now _ c.args.me.now c.args.client _ c.args.phase (phase.Locking c.in-Locking.edit c.in-Locking.wanted c.in-Locking.next) c.args.rows.now _ (c.args.rows.now) _ (record { phase = c.lock.result; seen = c.args.me.now.seen; taken = false; act = act.Lock }) c.in-Locking.is refl c.stay.ensures
    (λ k. go_locking g.R.Rows.asked d b sh s c.args.table.now c.args.me.now c.args.client _ (g.R.Rows.stands c.args.rows.now) (g.R.Rows.drafts c.args.rows.now) g.O.Outlet.puts g.O.Outlet.misses (Rose (g.O.Outlet.faults c.args.outlet.now) (g.O.Outlet.faults c.args.outlet.now)) _ _ c.in-Locking.edit c.in-Locking.wanted c.in-Locking.next _ c.lock.result k refl c.lock.ensures.locks refl (c.lock.ensures.phase c.args.client c.args.me.now.taken))

pub returns-in-Waiting-clause-is : goal.returns-in-Waiting-clause-is
returns-in-Waiting-clause-is g c = λ d b sh s.
    carried g.R.Rows.stands g.R.Rows.drafts g.R.Rows.asked g.O.Outlet.puts g.O.Outlet.misses (Rose (g.O.Outlet.faults c.args.outlet.now) (g.O.Outlet.faults c.args.outlet.now)) _ _ d b sh s c.args.table.now _ c.args.me.now c.args.client _ c.args.phase (phase.Waiting c.in-Waiting.plan) c.args.rows.now _ (c.args.rows.now) _ (record { phase = phase.Checking c.in-Waiting.plan; seen = c.args.me.now.seen; taken = false; act = act.Turn }) c.in-Waiting.is refl c.stay-in-Waiting.ensures
    (λ k. go_waiting g.R.Rows.asked d b sh s c.args.table.now c.args.me.now c.args.client _ (g.R.Rows.stands c.args.rows.now) (g.R.Rows.drafts c.args.rows.now) g.O.Outlet.puts g.O.Outlet.misses (Rose (g.O.Outlet.faults c.args.outlet.now) (g.O.Outlet.faults c.args.outlet.now)) _ _ c.in-Waiting.plan _ k refl refl refl)

pub returns-in-Yielding-clause-is : goal.returns-in-Yielding-clause-is
returns-in-Yielding-clause-is g c = λ d b sh s.
    carried g.R.Rows.stands g.R.Rows.drafts g.R.Rows.asked g.O.Outlet.puts g.O.Outlet.misses (Rose (g.O.Outlet.faults c.args.outlet.now) (g.O.Outlet.faults c.args.outlet.now)) _ _ d b sh s c.args.table.now _ c.args.me.now c.args.client _ c.args.phase (phase.Yielding c.in-Yielding.reply) c.args.rows.now _ (c.args.rows.now) _ (record { phase = phase.Releasing (after.Answer c.in-Yielding.reply); seen = c.args.me.now.seen; taken = false; act = act.Yield }) c.in-Yielding.is refl c.stay-in-Yielding.ensures
    (λ k. go_yielding g.R.Rows.asked d b sh s c.args.table.now c.args.me.now c.args.client _ (g.R.Rows.stands c.args.rows.now) (g.R.Rows.drafts c.args.rows.now) g.O.Outlet.puts g.O.Outlet.misses (Rose (g.O.Outlet.faults c.args.outlet.now) (g.O.Outlet.faults c.args.outlet.now)) _ _ c.in-Yielding.reply _ k refl refl refl)

pub returns-in-Releasing-clause-is : goal.returns-in-Releasing-clause-is
returns-in-Releasing-clause-is g c = λ d b sh s.
    carried g.R.Rows.stands g.R.Rows.drafts g.R.Rows.asked g.O.Outlet.puts g.O.Outlet.misses (Rose (g.O.Outlet.faults c.args.outlet.now) (g.O.Outlet.faults c.args.outlet.now)) _ _ d b sh s c.args.table.now _ c.args.me.now c.args.client _ c.args.phase (phase.Releasing c.in-Releasing.after) c.args.rows.now _ (c.args.rows.now) _ (record { phase = c.release.result; seen = c.args.me.now.seen; taken = false; act = act.Release }) c.in-Releasing.is refl c.stay-in-Releasing.ensures
    (λ k. go_releasing g.R.Rows.asked d b sh s c.args.table.now c.args.me.now c.args.client _ (g.R.Rows.stands c.args.rows.now) (g.R.Rows.drafts c.args.rows.now) g.O.Outlet.puts g.O.Outlet.misses (Rose (g.O.Outlet.faults c.args.outlet.now) (g.O.Outlet.faults c.args.outlet.now)) _ _ c.in-Releasing.after _ c.release.result k refl c.release.ensures refl)

pub returns-in-Replying-clause-is : goal.returns-in-Replying-clause-is
returns-in-Replying-clause-is g c = λ d b sh s.
    carried g.R.Rows.stands g.R.Rows.drafts g.R.Rows.asked g.O.Outlet.puts g.O.Outlet.misses _ _ _ d b sh s c.args.table.now _ c.args.me.now c.args.client _ c.args.phase (phase.Replying c.in-Replying.reply) c.args.rows.now _ (c.args.rows.now) _ (record { phase = c.put_reply.result; seen = c.args.me.now.seen; taken = false; act = act_of_put c.put_reply.result }) c.in-Replying.is refl c.written.ensures
    (λ k. go_replying g.R.Rows.asked d b sh s c.args.table.now c.args.me.now c.args.client _ (g.R.Rows.stands c.args.rows.now) (g.R.Rows.drafts c.args.rows.now) g.O.Outlet.puts g.O.Outlet.misses _ _ _ c.in-Replying.reply c.put_reply.result k c.put_reply.ensures.written)

pub returns-in-Ready-clause-is : goal.returns-in-Ready-clause-is
returns-in-Ready-clause-is g c = λ d b sh s.
    carried g.R.Rows.stands g.R.Rows.drafts g.R.Rows.asked g.O.Outlet.puts g.O.Outlet.misses (Rose (g.O.Outlet.faults c.args.outlet.now) (g.O.Outlet.faults c.args.outlet.now)) _ _ d b sh s c.args.table.now _ c.args.me.now c.args.client _ c.args.phase (phase.Ready) c.args.rows.now _ (c.args.rows.now) _ (c.take_line.result) c.in-Ready.is c.take_line.ensures.rows refl
    (λ k. go_ready g.R.Rows.asked d b sh s c.args.table.now c.args.me.now c.args.client _ (g.R.Rows.stands c.args.rows.now) (g.R.Rows.drafts c.args.rows.now) g.O.Outlet.puts g.O.Outlet.misses (Rose (g.O.Outlet.faults c.args.outlet.now) (g.O.Outlet.faults c.args.outlet.now)) _ _ c.take_line.result k refl (λ u e. c.take_line.ensures.is d b sh u c.args.client (c.args.me.now.taken + 1) k.rows e))

pub returns-in-Checking-clause-is : goal.returns-in-Checking-clause-is
returns-in-Checking-clause-is g c = λ d b sh s.
    carried g.R.Rows.stands g.R.Rows.drafts g.R.Rows.asked g.O.Outlet.puts g.O.Outlet.misses (Rose (g.O.Outlet.faults c.args.outlet.now) (g.O.Outlet.faults c.args.outlet.now)) _ _ d b sh s c.args.table.now _ c.args.me.now c.args.client _ c.args.phase (phase.Checking c.in-Checking.plan) c.args.rows.now _ (c.check.new.rows) _ (record { phase = c.check.result.phase; seen = c.check.result.seen; taken = false; act = act.Check }) c.in-Checking.is refl c.looked-in-Checking.ensures
    (λ k.
    let old : g.R.Rows.stands c.length.new.self d b sh.log = subst (λ x. g.R.Rows.stands x d b sh.log) (sym c.length.ensures.same) k.rows in
    go_checking g.R.Rows.asked d b sh s c.args.table.now c.args.me.now c.args.client _ (g.R.Rows.stands c.args.rows.now) (g.R.Rows.stands c.check.new.rows) (g.R.Rows.drafts c.args.rows.now) (g.R.Rows.drafts c.check.new.rows) g.O.Outlet.puts g.O.Outlet.misses (Rose (g.O.Outlet.faults c.args.outlet.now) (g.O.Outlet.faults c.args.outlet.now)) _ _ c.in-Checking.plan _ c.check.result k refl (c.check.ensures.rows d b sh old) refl refl (c.time.ensures ∙ ap (λ n. min (c.args.clock.start + c.args.clock.step * n) 4611686018427387903) (c.length.ensures.is d b sh.log k.rows)) (c.check.ensures.is d b sh s old k.rest.line k.history.plan.0))

pub returns-in-Committing-clause-is : goal.returns-in-Committing-clause-is
returns-in-Committing-clause-is g c = λ d b sh s.
    carried g.R.Rows.stands g.R.Rows.drafts g.R.Rows.asked g.O.Outlet.puts g.O.Outlet.misses (Rose (g.O.Outlet.faults c.args.outlet.now) (g.O.Outlet.faults c.args.outlet.now)) _ _ d b sh s c.args.table.now _ c.args.me.now c.args.client _ c.args.phase (phase.Committing c.in-Committing.plan c.in-Committing.remade) c.args.rows.now _ (c.commit.new.rows) _ (record { phase = c.commit.result.phase; seen = c.commit.result.seen; taken = false; act = act.Commit }) c.in-Committing.is refl c.looked-in-Committing.ensures
    (λ k.
    let x = c.commit.ensures.is d b sh.log c.args.client c.args.me.now.taken k.draft in
    go_committing g.R.Rows.asked d b sh s c.args.table.now c.args.me.now c.args.client _ (g.R.Rows.stands c.args.rows.now) (g.R.Rows.stands c.commit.new.rows) (g.R.Rows.drafts c.args.rows.now) (g.R.Rows.drafts c.commit.new.rows) g.O.Outlet.puts g.O.Outlet.misses (Rose (g.O.Outlet.faults c.args.outlet.now) (g.O.Outlet.faults c.args.outlet.now)) _ _ c.in-Committing.plan c.in-Committing.remade c.commit.result k refl (c.commit.ensures.rows d b sh.log _ k.draft) x.0 x.1)
