-- Inner: no clause of `run` is made of it.
-- One step of one client: its next event, or none.
use Rattle.std.specs.Prelude.{◌≡◌, ℕ, true, false, List, length}
use Rattle.op_model.specs.declared.base.Dataset.{Dataset}
use Rattle.op_model.specs.declared.base.Base.{Base}
use Rattle.op_model.specs.declared.entry.Entry.{Entry}
use Rattle.op_model.specs.declared.reply.Reply.{Reply}
use Rattle.op_model.specs.Valid.{IsDataset}
use Rattle.op_model.specs.Legal.{Legal}
use Rattle.op_model.specs.Transcript.{Line}
use Rattle.session_machine.specs.Machine as machine
use Rattle.session_machine.specs.Invariant.{ClientLocks, ClientHistory}
use Rattle.client_events.specs.declared.clients.Client.{Client}
use Rattle.client_events.specs.declared.clients.Table.{Table}
use Rattle.core_steps.specs.declared.stepping.Step.{Step}
use Rattle.core_steps.specs.declared.stepping.Step.TheVariants as step
use Rattle.client_events.specs.Steps.{TableIs}
use Rattle.core_steps.specs.Ways.{lock_named}
use Rattle.client_events.specs.Acts.{Acts, ClientIs}

-- the code's client is this client of a state that a run can reach
pub record Placed (asked : List ℕ → Line) (stands : Dataset → Base → List Entry → Type 0) (drafts : Dataset → Base → List Entry → Entry → Type 0)
    (d : Dataset) (b : Base) (sh : machine.Shared) (s : machine.ClientState) (t : Table) (me : Client) (i : ℕ) : Type 0 where
  pub dataset : IsDataset d
  pub legal : Legal d b sh.log
  pub holds : ClientLocks sh i s s.phase
  pub history : ClientHistory d b sh.log i s s.phase
  pub table : TableIs t sh
  pub locks : length sh.locks ≡ 64
  pub rows : stands d b sh.log
  pub client : ClientIs asked drafts d b sh.log i me s

-- and of some such state
abbrev pub IsPlaced : (List ℕ → Line) → (Dataset → Base → List Entry → Type 0) → (Dataset → Base → List Entry → Entry → Type 0) → Table → Client → ℕ → Type 0
IsPlaced asked stands drafts t me i = (d : Dataset) × (b : Base) × (sh : machine.Shared) × (s : machine.ClientState) × Placed asked stands drafts d b sh s t me i

-- the client's next event, or nothing where it may not go on
abbrev pub StepAt : {V W : Type 0} → (List ℕ → Line) → (Dataset → Base → List Entry → Type 0) → (Dataset → Base → List Entry → Entry → Type 0)
    → (W → ℕ → Reply → W → Type 0) → (W → ℕ → Reply → W → Type 0) → Type 0 → W → W → V → V
    → Dataset → Base → machine.Shared → machine.ClientState → Table → Table → Client → Client → ℕ → ℕ → Step → Type 0
StepAt asked stands drafts puts misses rose old new rows rows2 d b sh s t u me you i clock (step.Moved act) =
    (machine.is_able sh s s.phase ≡ true) × Acts asked stands drafts puts misses rose old new d b sh s u me you i clock act
StepAt asked stands drafts puts misses rose old new rows rows2 d b sh s t u me you i clock (step.Blocked lock) =
    (machine.is_able sh s s.phase ≡ false) × (machine.is_ended s s.phase ≡ false) × (lock ≡ lock_named me.phase) × (rows2 ≡ rows) × (u ≡ t) × (you ≡ me) × (new ≡ old)
StepAt asked stands drafts puts misses rose old new rows rows2 d b sh s t u me you i clock step.Ended =
    (machine.is_able sh s s.phase ≡ false) × (machine.is_ended s s.phase ≡ true) × (rows2 ≡ rows) × (u ≡ t) × (you ≡ me) × (new ≡ old)
