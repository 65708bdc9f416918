use Rattle.std.proofs.Common.{◌≡◌, ◌≤◌, ◌+◌, ℕ, List, length}
use Rattle.op_model.specs.declared.base.Dataset.{Dataset}
use Rattle.op_model.specs.declared.base.Base.{Base}
use Rattle.session_machine.specs.Machine.{State}
use Rattle.session_machine.specs.Play.{work}
use Rattle.core_steps.specs.Places.{CoreIs, IsGood, IsSound}
use Rattle.core_steps.specs.Runs.{Finishes}
use Rattle.core_steps.proofs.cores.Core.finish.Given as goal

-- each step so far was one of the least client that could go on, and left less to do
abbrev pub invariant-loop-turn : goal.invariant-loop-turn
invariant-loop-turn g l =
    IsSound g.R.Rows.asked (g.R.Rows.stands l.self.rows) (g.R.Rows.drafts l.self.rows) l.self.table l.self.clients.items
    × (l.self.clock ≡ l.fn.self.clock)
    × (length l.self.clients.items ≡ length l.fn.self.clients.items)
    × ((d : Dataset) (b : Base) (w : State) → IsGood d b w
    → CoreIs g.R.Rows.asked (g.R.Rows.stands l.fn.self.rows) (g.R.Rows.drafts l.fn.self.rows) d b l.fn.self.table l.fn.self.clients.items w
    → (v : State) × IsGood d b v × CoreIs g.R.Rows.asked (g.R.Rows.stands l.self.rows) (g.R.Rows.drafts l.self.rows) d b l.self.table l.self.clients.items v
    × ((ns : List ℕ) × Finishes g.O.Outlet.faults g.O.Outlet.puts g.O.Outlet.misses d b l.fn.self.clock ns w l.fn.outlet v l.outlet) × (work v + l.turn ≤ work w))
