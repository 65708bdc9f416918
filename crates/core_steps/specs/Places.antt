-- Inner: no clause of `run` is made of it.
-- The core in a state of the machine.
use Rattle.std.specs.Prelude.{◌≡◌, ℕ, List, ◌<◌, ◌-◌, ◌^◌, suc, length, slice_get, Some}
use Rattle.op_model.specs.declared.base.Dataset.{Dataset}
use Rattle.op_model.specs.declared.base.Base.{Base}
use Rattle.op_model.specs.declared.entry.Entry.{Entry}
use Rattle.op_model.specs.Valid.{IsDataset, IsBase}
use Rattle.op_model.specs.Transcript.{Line}
use Rattle.session_machine.specs.Machine as machine
use Rattle.session_machine.specs.Invariant.{LocksAgree, LogAgrees}
use Rattle.session_machine.specs.Play.{work}
use Rattle.client_events.specs.declared.clients.Client.{Client}
use Rattle.client_events.specs.declared.clients.Table.{Table}
use Rattle.client_events.specs.Steps.{TableIs}
use Rattle.client_events.specs.Acts.{ClientIs}

-- a state that a run can reach, from which it takes fewer steps than a loop may make
pub record IsGood (d : Dataset) (b : Base) (w : machine.State) : Type 0 where
  pub dataset : IsDataset d
  pub base : IsBase d b
  pub locks_agree : LocksAgree w
  pub log_agrees : LogAgrees d b w
  pub bounded : work w < 2 ^ 64 - 1

-- the clients and the table, over these rows, are in the machine's state
pub record CoreIs (asked : List ℕ → Line) (stands : Dataset → Base → List Entry → Type 0) (drafts : Dataset → Base → List Entry → Entry → Type 0)
    (d : Dataset) (b : Base) (t : Table) (clients : List Client) (w : machine.State) : Type 0 where
  pub table : TableIs t w.shared
  pub rows : stands d b w.shared.log
  pub count : length w.clients ≡ length clients
  pub clients_are : (k : ℕ) (me : Client) → slice_get clients k ≡ Some me → (s : machine.ClientState) × (slice_get w.clients k ≡ Some s) × ClientIs asked drafts d b w.shared.log (suc k) me s
  pub small : (k : ℕ) (me : Client) → slice_get clients k ≡ Some me → length me.lines.items < 2 ^ 32

-- the core is in some state that a run can reach
abbrev pub IsSound : (List ℕ → Line) → (Dataset → Base → List Entry → Type 0) → (Dataset → Base → List Entry → Entry → Type 0) → Table → List Client → Type 0
IsSound asked stands drafts t clients = (d : Dataset) × (b : Base) × (w : machine.State) × IsGood d b w × CoreIs asked stands drafts d b t clients w
