-- What a step and a start leave.
use Rattle.std.proofs.Common.{ℕ, ◌+◌, ◌-◌, ◌*◌, ◌^◌, min, length}
use Rattle.op_model.specs.declared.base.Dataset.{Dataset}
use Rattle.op_model.specs.declared.base.Base.{Base}
use Rattle.op_model.specs.declared.reply.Reply.{Reply}
use Rattle.session_machine.specs.Machine.{State}
use Rattle.core_steps.specs.declared.cores.Core.{Core}
use Rattle.core_steps.specs.declared.stepping.Step.{Step}
use Rattle.core_steps.specs.Places.{CoreIs, IsGood}
use Rattle.core_steps.specs.CoreSteps.{StepIs}
use Rattle.core_steps.proofs.RunLemmas.{turn_of}
use Rattle.pcg_base.specs.Causes.{Rose}
use Rattle.stored_log.specs.declared.logs.StoredLog.{StoredLog}
use Rattle.stored_log.specs.Stored.{Drafts, Stands, asked_line}
use Rattle.core_tests.specs.Running.{IsRunning}

-- a core goes on after a step
pub runs_on : {W : Type 0} (faults : W → ℕ) (puts misses : W → ℕ → Reply → W → Type 0) (old new : W) (core next : Core StoredLog) (n : ℕ) (r : Step) → IsRunning core
    → ((d : Dataset) (b : Base) (w : State) → IsGood d b w → CoreIs asked_line (Stands core.rows) (Drafts core.rows) d b core.table core.clients.items w
    → StepIs asked_line Stands Drafts puts misses (Rose (faults old) (faults new)) old new core.rows next.rows d b core.table next.table core.clients.items next.clients.items w n (min (core.clock.start + core.clock.step * length w.shared.log) (2 ^ 62 - 1)) r)
    → IsRunning next
runs_on faults puts misses old new core next n r i is =
    let s = i.sound in
    let t = turn_of faults puts misses s.0 s.1 core.clock asked_line Stands Drafts old new core.rows next.rows core.table next.table core.clients.items next.clients.items s.2 n r s.3 s.4 (is s.0 s.1 s.2 s.3 s.4) in
    record { sound = (s.0, s.1, t.0, t.1, t.2) }
