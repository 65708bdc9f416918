-- Runs of the core.
use Rattle.std.specs.Prelude.{◌≡◌, ◌⊎◌, ℕ, pred, ◌+◌, ◌*◌, ◌-◌, ◌^◌, min, true, false, List, [], ◌∷◌, length, slice_get, Some}
use Rattle.op_model.specs.declared.base.Dataset.{Dataset}
use Rattle.op_model.specs.declared.base.Base.{Base}
use Rattle.op_model.specs.declared.reply.Reply.{Reply}
use Rattle.session_machine.specs.Machine as machine
use Rattle.session_machine.specs.Play.{first_able}
use Rattle.pcg_base.specs.declared.clock.Ticks.{Ticks}
use Rattle.pcg_base.specs.Causes.{Rose}
use Rattle.core_steps.specs.CoreSteps.{Puts}

-- the clock's answer for the next entry of a log
abbrev pub time_at : Ticks → machine.State → ℕ
time_at ticks w = min (ticks.start + ticks.step * length w.shared.log) (2 ^ 62 - 1)

-- the client of this number steps, for choices that are allowed and a clock's answer; or it may not go on, and nothing happens
abbrev pub Turns : {W : Type 0} → (W → ℕ) → (W → ℕ → Reply → W → Type 0) → (W → ℕ → Reply → W → Type 0) → Dataset → Base → Ticks → ℕ → machine.State → W → machine.State → W → Type 0
Turns faults puts misses d b ticks n w old v new =
    (s : machine.ClientState) × (slice_get w.clients (pred n) ≡ Some s)
    × (((machine.is_able w.shared s s.phase ≡ true) × (c : machine.Choice) × (c.clock ≡ time_at ticks w) × machine.IsAllowedAt d b c w.shared (slice_get w.clients (pred n))
    × (v ≡ machine.step d b c (pred n) w) × Puts puts misses (Rose (faults old) (faults new)) old new n s.phase c.write_fails)
    ⊎ ((machine.is_able w.shared s s.phase ≡ false) × (v ≡ w) × (new ≡ old)))

-- the clients of these numbers step, one after the other
abbrev pub Runs : {W : Type 0} → (W → ℕ) → (W → ℕ → Reply → W → Type 0) → (W → ℕ → Reply → W → Type 0) → Dataset → Base → Ticks → List ℕ → machine.State → W → machine.State → W → Type 0
Runs faults puts misses d b ticks [] w old v new = (v ≡ w) × (new ≡ old)
Runs {W = W} faults puts misses d b ticks (n ∷ ns) w old v new =
    (u : machine.State) × (mid : W) × Turns faults puts misses d b ticks n w old u mid × Runs faults puts misses d b ticks ns u mid v new

-- so many steps of the least client that may go on
abbrev pub Finishes : {W : Type 0} → (W → ℕ) → (W → ℕ → Reply → W → Type 0) → (W → ℕ → Reply → W → Type 0) → Dataset → Base → Ticks → List ℕ → machine.State → W → machine.State → W → Type 0
Finishes faults puts misses d b ticks [] w old v new = (v ≡ w) × (new ≡ old)
Finishes {W = W} faults puts misses d b ticks (n ∷ ns) w old v new =
    (first_able w.shared w.clients ≡ Some (pred n))
    × (u : machine.State) × (mid : W) × Turns faults puts misses d b ticks n w old u mid × Finishes faults puts misses d b ticks ns u mid v new

-- events lead from one state of the machine to another, by choices that are allowed: all laws of its runs hold of the other
abbrev pub Leads : Dataset → Base → machine.State → machine.State → Type 0
Leads d b w v = (events : List (machine.Choice × ℕ)) × machine.IsRun d b events w × (machine.run d b events w ≡ v)
