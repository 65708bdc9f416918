-- Inner: no clause of `run` is made of it.
-- One event of one client, in its place.
use Rattle.std.specs.Prelude.{◌≡◌, ℕ, List}
use Rattle.op_model.specs.declared.base.Dataset.{Dataset}
use Rattle.op_model.specs.declared.base.Base.{Base}
use Rattle.op_model.specs.declared.entry.Entry.{Entry}
use Rattle.op_model.specs.declared.reply.Reply.{Reply}
use Rattle.op_model.specs.Transcript.{Line}
use Rattle.session_machine.specs.Machine as machine
use Rattle.client_events.specs.declared.clients.Client.{Client}
use Rattle.client_events.specs.declared.clients.Table.{Table}
use Rattle.client_events.specs.declared.events.Act.{Act}
use Rattle.client_events.specs.Phases.{phase_of}
use Rattle.client_events.specs.Events.{Drafted}
use Rattle.client_events.specs.Steps.{Outs, RestIs, TableIs, act_named}

-- the code's client is this client of the machine
pub record ClientIs (asked : List ℕ → Line) (drafts : Dataset → Base → List Entry → Entry → Type 0) (d : Dataset) (b : Base) (log : List Entry) (i : ℕ) (me : Client) (s : machine.ClientState) : Type 0 where
  pub rest : RestIs asked me.lines.items me.taken me.fault me.seen s
  pub phase : s.phase ≡ phase_of i me.taken me.phase
  pub draft : Drafted drafts d b log i me.taken me.phase

-- the event is the machine's, for choices that are allowed
abbrev pub Acts : {W : Type 0} → (List ℕ → Line) → (Dataset → Base → List Entry → Type 0) → (Dataset → Base → List Entry → Entry → Type 0)
    → (W → ℕ → Reply → W → Type 0) → (W → ℕ → Reply → W → Type 0) → Type 0 → W → W
    → Dataset → Base → machine.Shared → machine.ClientState → Table → Client → Client → ℕ → ℕ → Act → Type 0
Acts asked stands drafts puts misses rose old new d b sh s t me you i clock x =
    (c : machine.Choice) × (c.clock ≡ clock) × machine.IsAllowed d b c sh s (phase_of i me.taken me.phase)
    × (let m = machine.event d b c i sh s (phase_of i me.taken me.phase) in
    TableIs t m.0 × stands d b m.0.log × ClientIs asked drafts d b m.0.log i you m.1)
    × Outs puts misses rose old new i me.phase c.write_fails
    × (x ≡ act_named (phase_of i me.taken me.phase) (machine.event d b c i sh s (phase_of i me.taken me.phase)).1.phase)
