-- Inner: no clause of `run` is made of it.
-- Steps of the core.
use Rattle.std.specs.Prelude.{◌≡◌, ◌<◌, ◌⊎◌, [], ℕ, pred, Bool, true, false, List, Option, None, slice_get, Some}
use Rattle.op_model.specs.declared.base.Dataset.{Dataset}
use Rattle.op_model.specs.declared.base.Base.{Base}
use Rattle.op_model.specs.declared.entry.Entry.{Entry}
use Rattle.op_model.specs.declared.reply.Reply.{Reply}
use Rattle.op_model.specs.Transcript.{Line}
use Rattle.session_machine.specs.Machine as machine
use Rattle.session_machine.specs.Play.{work}
use Rattle.client_events.specs.declared.clients.Client.{Client}
use Rattle.client_events.specs.declared.clients.Table.{Table}
use Rattle.core_steps.specs.declared.stepping.Step.{Step}
use Rattle.core_steps.specs.declared.stepping.Step.TheVariants as step
use Rattle.client_events.specs.Steps.{act_named}
use Rattle.core_steps.specs.Places.{CoreIs, IsGood}

-- what is put is the reply that the client has in hand; without one the outlet stays as it was
abbrev pub Puts : {W : Type 0} → (W → ℕ → Reply → W → Type 0) → (W → ℕ → Reply → W → Type 0) → Type 0 → W → W → ℕ → machine.Phase → Bool → Type 0
Puts puts misses rose old new i (machine.Replying r) true = misses old i r new × rose
Puts puts misses rose old new i (machine.Replying r) false = puts old i r new
Puts puts misses rose old new i p write_fails = new ≡ old

-- the lock that a client waits for; one that waits for the turn waits for none
abbrev pub lock_waited : machine.Phase → Option ℕ
lock_waited (machine.Locking edit n ns) = Some n
lock_waited p = None

-- the machine's step of the client, for choices that are allowed; or nothing, where it may not go on
abbrev pub StepIs : {V W : Type 0} → (List ℕ → Line) → (V → Dataset → Base → List Entry → Type 0) → (V → Dataset → Base → List Entry → Entry → Type 0)
    → (W → ℕ → Reply → W → Type 0) → (W → ℕ → Reply → W → Type 0) → Type 0 → W → W → V → V
    → Dataset → Base → Table → Table → List Client → List Client → machine.State → ℕ → ℕ → Step → Type 0
StepIs asked stands drafts puts misses rose old new rows rows2 d b t u clients others w i clock (step.Moved act) =
    (s : machine.ClientState) × (slice_get w.clients (pred i) ≡ Some s) × (machine.is_able w.shared s s.phase ≡ true)
    × (c : machine.Choice) × (c.clock ≡ clock) × machine.IsAllowedAt d b c w.shared (slice_get w.clients (pred i))
    × CoreIs asked (stands rows2) (drafts rows2) d b u others (machine.step d b c (pred i) w) × IsGood d b (machine.step d b c (pred i) w)
    × (work (machine.step d b c (pred i) w) < work w)
    × Puts puts misses rose old new i s.phase c.write_fails
    × (act ≡ act_named s.phase (machine.event d b c i w.shared s s.phase).1.phase)
StepIs asked stands drafts puts misses rose old new rows rows2 d b t u clients others w i clock (step.Blocked lock) =
    (s : machine.ClientState) × (slice_get w.clients (pred i) ≡ Some s) × (machine.is_able w.shared s s.phase ≡ false) × (machine.is_ended s s.phase ≡ false)
    × (rows2 ≡ rows) × (u ≡ t) × (others ≡ clients) × (new ≡ old) × (lock ≡ lock_waited s.phase)
StepIs asked stands drafts puts misses rose old new rows rows2 d b t u clients others w i clock step.Ended =
    (s : machine.ClientState) × (slice_get w.clients (pred i) ≡ Some s) × (machine.is_able w.shared s s.phase ≡ false) × (machine.is_ended s s.phase ≡ true)
    × (rows2 ≡ rows) × (u ≡ t) × (others ≡ clients) × (new ≡ old)

-- a fault comes only where the outlet's count rose, or where the client's stream ended in a fault, no line is left and none begins again
abbrev pub HasFault : Type 0 → machine.State → ℕ → Type 0
HasFault rose w i =
    rose ⊎ ((s : machine.ClientState) × (slice_get w.clients (pred i) ≡ Some s) × (s.phase ≡ machine.Ready) × (s.lines ≡ []) × (s.faulty ≡ true))
