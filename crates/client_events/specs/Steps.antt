-- Inner: no clause of `run` is made of it.
-- One event of one client, as the machine has it.
use Rattle.std.specs.Prelude.{◌≡◌, ℕ, ◌+◌, ◌≤◌, Bool, true, false, if◌then◌else◌, List, Option, Some, None, length, map, drop}
use Rattle.op_model.specs.declared.base.Dataset.{Dataset}
use Rattle.op_model.specs.declared.base.Base.{Base}
use Rattle.op_model.specs.declared.entry.Entry.{Entry}
use Rattle.op_model.specs.declared.reply.Reply.{Reply}
use Rattle.op_model.specs.Valid.{IsDataset}
use Rattle.op_model.specs.Legal.{Legal}
use Rattle.op_model.specs.Transcript.{Line}
use Rattle.session_machine.specs.Machine as machine
use Rattle.session_machine.specs.Invariant.{ClientLocks, ClientHistory}
use Rattle.client_events.specs.declared.lines.LineText.{LineText}
use Rattle.client_events.specs.declared.phases.Phase.{Phase}
use Rattle.client_events.specs.declared.phases.Phase.TheVariants as phase
use Rattle.client_events.specs.declared.clients.Client.{Client}
use Rattle.client_events.specs.declared.clients.Table.{Table}
use Rattle.client_events.specs.declared.events.Act.{Act}
use Rattle.client_events.specs.declared.events.Act.TheVariants as act
use Rattle.client_events.specs.declared.events.Stepped.{Stepped}
use Rattle.client_events.specs.Phases.{line_of, phase_of}
use Rattle.client_events.specs.Events.{Drafted, LineRead}

-- the table is the machine's
pub record TableIs (t : Table) (sh : machine.Shared) : Type 0 where
  pub locks : sh.locks ≡ t.locks
  pub turn : sh.turn ≡ t.turn

-- these lines, of which so many are taken, are those of the machine's client, as are fault and length seen
pub record RestIs (asked : List ℕ → Line) (all : List LineText) (taken : ℕ) (fault : Bool) (n : ℕ) (s : machine.ClientState) : Type 0 where
  pub lines : s.lines ≡ map (line_of asked) (drop taken all)
  pub line : length s.asked ≡ taken
  pub faulty : s.faulty ≡ fault
  pub seen : s.seen ≡ n
  pub within : taken ≤ length all

-- what is known before a client's event: it is this client of the machine, which may go on
pub record Known (asked : List ℕ → Line) (stands : Dataset → Base → List Entry → Type 0) (drafts : Dataset → Base → List Entry → Entry → Type 0)
    (d : Dataset) (b : Base) (sh : machine.Shared) (s : machine.ClientState) (t : Table) (me : Client) (i : ℕ) (p : Phase) : Type 0 where
  pub dataset : IsDataset d
  pub legal : Legal d b sh.log
  pub holds : ClientLocks sh i s (phase_of i me.taken p)
  pub history : ClientHistory d b sh.log i s (phase_of i me.taken p)
  pub table : TableIs t sh
  pub locks : length sh.locks ≡ 64
  pub rows : stands d b sh.log
  pub draft : Drafted drafts d b sh.log i me.taken p
  pub rest : RestIs asked me.lines.items me.taken me.fault me.seen s
  pub able : machine.is_able sh s (phase_of i me.taken p) ≡ true

-- and of some such state
abbrev pub IsKnown : (List ℕ → Line) → (Dataset → Base → List Entry → Type 0) → (Dataset → Base → List Entry → Entry → Type 0) → Table → Client → ℕ → Phase → Type 0
IsKnown asked stands drafts t me i p = (d : Dataset) × (b : Base) × (sh : machine.Shared) × (s : machine.ClientState) × Known asked stands drafts d b sh s t me i p

-- how many lines the client has taken after an event
abbrev pub taken_after : Client → Stepped → ℕ
taken_after me r = if r.taken then me.taken + 1 else me.taken

-- what is shared, and the client's state, are what the machine makes of them
pub record Fits (asked : List ℕ → Line) (stands : Dataset → Base → List Entry → Type 0) (drafts : Dataset → Base → List Entry → Entry → Type 0)
    (d : Dataset) (b : Base) (m : machine.Shared × machine.ClientState) (t : Table) (me : Client) (i : ℕ) (r : Stepped) : Type 0 where
  pub table : TableIs t m.0
  pub rows : stands d b m.0.log
  pub draft : Drafted drafts d b m.0.log i (taken_after me r) r.phase
  pub rest : RestIs asked me.lines.items (taken_after me r) me.fault r.seen m.1
  pub phase : m.1.phase ≡ phase_of i (taken_after me r) r.phase

-- a reply was written or its writing failed, and the outlet went by it; another event leaves the outlet as it was
abbrev pub Outs : {W : Type 0} → (W → ℕ → Reply → W → Type 0) → (W → ℕ → Reply → W → Type 0) → Type 0 → W → W → ℕ → Phase → Bool → Type 0
Outs puts misses rose old new i (phase.Replying r) true = misses old i r new × rose
Outs puts misses rose old new i (phase.Replying r) false = puts old i r new
Outs puts misses rose old new i p write_fails = new ≡ old

-- the event by which the machine's client goes from one phase to the next
abbrev pub act_named : machine.Phase → machine.Phase → Act
act_named machine.Ready machine.Ended = act.Fault
act_named machine.Ready q = act.Look
act_named (machine.Again edit) q = act.Look
act_named (machine.Locking edit n ns) q = act.Lock
act_named (machine.Pinning edit) q = act.Pin
act_named (machine.Planning edit) q = act.Plan
act_named (machine.Waiting edit changed shown) q = act.Turn
act_named (machine.Checking edit changed shown) q = act.Check
act_named (machine.Committing edit shown e) q = act.Commit
act_named (machine.Yielding r) q = act.Yield
act_named (machine.Releasing a) q = act.Release
act_named (machine.Replying r) machine.Ended = act.Fault
act_named (machine.Replying r) q = act.Reply
act_named machine.Ended q = act.Fault

-- the event is the machine's, for choices that are allowed
abbrev pub Goes : {W : Type 0} → (List ℕ → Line) → (Dataset → Base → List Entry → Type 0) → (Dataset → Base → List Entry → Entry → Type 0)
    → (W → ℕ → Reply → W → Type 0) → (W → ℕ → Reply → W → Type 0) → Type 0 → W → W
    → Dataset → Base → machine.Shared → machine.ClientState → Table → Client → ℕ → ℕ → Phase → Stepped → Type 0
Goes asked stands drafts puts misses rose old new d b sh s t me i clock p r =
    (c : machine.Choice) × (c.clock ≡ clock) × machine.IsAllowed d b c sh s (phase_of i me.taken p)
    × Fits asked stands drafts d b (machine.event d b c i sh s (phase_of i me.taken p)) t me i r
    × Outs puts misses rose old new i p c.write_fails
    × (r.act ≡ act_named (phase_of i me.taken p) (machine.event d b c i sh s (phase_of i me.taken p)).1.phase)

-- a line was taken, or none is left
abbrev pub Takes : (List ℕ → Line) → Dataset → Base → machine.Shared → machine.ClientState → ℕ → ℕ → ℕ → Option LineText → Stepped → Type 0
Takes asked d b sh s client line seen None r = r ≡ record { phase = phase.Ended; seen = seen; taken = false; act = act.Fault }
Takes asked d b sh s client line seen (Some text) r =
    (r.taken ≡ true) × (r.act ≡ act.Look) × LineRead d b sh s client line (line_of asked text) (record { phase = r.phase; seen = r.seen })

-- the event that writes a reply
abbrev pub act_of_put : Phase → Act
act_of_put phase.Ready = act.Reply
act_of_put p = act.Fault

-- the event of each phase
abbrev pub act_of : Phase → Bool → Phase → Act
act_of phase.Ready true q = act.Look
act_of phase.Ready false q = act.Fault
act_of (phase.Again edit) taken q = act.Look
act_of (phase.Locking edit wanted next) taken q = act.Lock
act_of (phase.Pinning edit) taken q = act.Pin
act_of (phase.Planning edit) taken q = act.Plan
act_of (phase.Waiting plan) taken q = act.Turn
act_of (phase.Checking plan) taken q = act.Check
act_of (phase.Committing plan remade) taken q = act.Commit
act_of (phase.Yielding r) taken q = act.Yield
act_of (phase.Releasing a) taken q = act.Release
act_of (phase.Replying r) taken q = act_of_put q
act_of phase.Ended taken q = act.Fault

-- the phases in which a client changes the records
abbrev pub writes_rows : Phase → Bool
writes_rows (phase.Checking plan) = true
writes_rows (phase.Committing plan remade) = true
writes_rows p = false
