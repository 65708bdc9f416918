use Rattle.std.proofs.Common.{◌≡◌, length, take}
use Rattle.op_model.specs.declared.base.Dataset.{Dataset}
use Rattle.op_model.specs.declared.base.Base.{Base}
use Rattle.session_machine.specs.Machine.{State}
use Rattle.core_steps.specs.Places.{CoreIs, IsGood, IsSound}
use Rattle.core_steps.specs.Runs.{Runs}
use Rattle.core_steps.proofs.cores.Core.run.Given as goal

-- what was done so far is a run of the first clients
abbrev pub invariant-loop-number : goal.invariant-loop-number
invariant-loop-number g l =
    IsSound g.R.Rows.asked (g.R.Rows.stands l.self.rows) (g.R.Rows.drafts l.self.rows) l.self.table l.self.clients.items
    × (l.self.clock ≡ l.fn.self.clock)
    × (length l.self.clients.items ≡ length l.fn.self.clients.items)
    × ((d : Dataset) (b : Base) (w : State) → IsGood d b w
    → CoreIs g.R.Rows.asked (g.R.Rows.stands l.fn.self.rows) (g.R.Rows.drafts l.fn.self.rows) d b l.fn.self.table l.fn.self.clients.items w
    → (v : State) × IsGood d b v × CoreIs g.R.Rows.asked (g.R.Rows.stands l.self.rows) (g.R.Rows.drafts l.self.rows) d b l.self.table l.self.clients.items v
    × Runs g.O.Outlet.faults g.O.Outlet.puts g.O.Outlet.misses d b l.fn.self.clock (take l.number-index l.numbers) w l.fn.outlet v l.outlet)
