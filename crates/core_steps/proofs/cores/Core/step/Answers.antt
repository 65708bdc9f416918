use Rattle.std.proofs.Common.{◌≡◌, ◌∙◌, ◌-◌, suc, ap, refl, sym, arith, Some}
use Rattle.std.specs.Prelude.{slice_get}
use Rattle.pcg_base.specs.Causes.{Rose}
use Rattle.core_steps.proofs.CoreLemmas.{get_there, placed_at, step_is}
use Rattle.core_steps.proofs.FaultLemmas.{fault_of}
use Rattle.core_steps.proofs.cores.Core.step.Goals as goal

pub step_at-requires-clause-placed : goal.step_at-requires-clause-placed
step_at-requires-clause-placed g c =
    let x = c.requires.sound in
    let e : suc (c.args.client - 1) ≡ c.args.client = omega (arith, c.requires.number) in
    let q : slice_get c.args.self.now.clients.items (c.args.client - 1) ≡ Some c.index_mut.result.now =
    get_there c.args.self.now.clients.items (c.args.client - 1) _ (omega (arith, c.requires.number, c.requires.known)) ∙ ap Some (sym c.index_mut.ensures.value) in (
      x.0,
      x.1,
      x.2.shared,
      (x.4.clients_are (c.args.client - 1) c.index_mut.result.now q).0,
      placed_at g.R.Rows.asked g.R.Rows.stands g.R.Rows.drafts x.0 x.1 c.args.self.now.rows c.args.self.now.table c.args.self.now.clients.items x.2 (c.args.client - 1) c.args.client c.index_mut.result.now e x.3 x.4 q,
    )

pub returns-clause-is : goal.returns-clause-is
returns-clause-is g c = λ d b w good o.
    let e : suc (c.args.client - 1) ≡ c.args.client = omega (arith, c.requires.number) in
    let q : slice_get c.args.self.now.clients.items (c.args.client - 1) ≡ Some c.index_mut.result.now =
    get_there c.args.self.now.clients.items (c.args.client - 1) _ (omega (arith, c.requires.number, c.requires.known)) ∙ ap Some (sym c.index_mut.ensures.value) in
    step_is g.R.Rows.asked g.R.Rows.stands g.R.Rows.drafts g.O.Outlet.puts g.O.Outlet.misses (Rose (g.O.Outlet.faults c.args.outlet.now) (g.O.Outlet.faults c.step_at.new.outlet)) c.args.outlet.now c.step_at.new.outlet
    c.args.self.now.rows c.step_at.new.rows d b c.args.self.now.table c.step_at.new.table c.args.self.now.clients.items w (c.args.client - 1) _ c.index_mut.result.now c.step_at.new.me c.args.client _ c.step_at.result e refl good o q
    c.step_at.ensures.rows c.step_at.ensures.lines
    (c.step_at.ensures.is d b w.shared (o.clients_are (c.args.client - 1) c.index_mut.result.now q).0
    (placed_at g.R.Rows.asked g.R.Rows.stands g.R.Rows.drafts d b c.args.self.now.rows c.args.self.now.table c.args.self.now.clients.items w (c.args.client - 1) c.args.client c.index_mut.result.now e good o q))

pub returns-clause-fault : goal.returns-clause-fault
returns-clause-fault g c = λ d b w good o fault.
    let e : suc (c.args.client - 1) ≡ c.args.client = omega (arith, c.requires.number) in
    let q : slice_get c.args.self.now.clients.items (c.args.client - 1) ≡ Some c.index_mut.result.now =
    get_there c.args.self.now.clients.items (c.args.client - 1) _ (omega (arith, c.requires.number, c.requires.known)) ∙ ap Some (sym c.index_mut.ensures.value) in
    fault_of g.R.Rows.asked g.R.Rows.stands g.R.Rows.drafts g.O.Outlet.puts g.O.Outlet.misses (Rose (g.O.Outlet.faults c.args.outlet.now) (g.O.Outlet.faults c.step_at.new.outlet)) c.args.outlet.now c.step_at.new.outlet c.args.self.now.rows c.step_at.new.rows d b c.args.self.now.table c.step_at.new.table
    c.args.self.now.clients.items _ w c.args.client _ c.step_at.result fault
    (step_is g.R.Rows.asked g.R.Rows.stands g.R.Rows.drafts g.O.Outlet.puts g.O.Outlet.misses (Rose (g.O.Outlet.faults c.args.outlet.now) (g.O.Outlet.faults c.step_at.new.outlet)) c.args.outlet.now c.step_at.new.outlet
    c.args.self.now.rows c.step_at.new.rows d b c.args.self.now.table c.step_at.new.table c.args.self.now.clients.items w (c.args.client - 1) _ c.index_mut.result.now c.step_at.new.me c.args.client _ c.step_at.result e refl good o q
    c.step_at.ensures.rows c.step_at.ensures.lines
    (c.step_at.ensures.is d b w.shared (o.clients_are (c.args.client - 1) c.index_mut.result.now q).0
    (placed_at g.R.Rows.asked g.R.Rows.stands g.R.Rows.drafts d b c.args.self.now.rows c.args.self.now.table c.args.self.now.clients.items w (c.args.client - 1) c.args.client c.index_mut.result.now e good o q)))
