-- Inner: no clause of `run` is made of it.
-- What the steps of clients come to.
use Rattle.std.specs.Prelude.{◌≡◌, ℕ, Bool, true, false, ◌==◌, if◌then◌else◌, List, Option, length, slice_index, ⊤}
use Rattle.op_model.specs.declared.base.Dataset.{Dataset}
use Rattle.op_model.specs.declared.base.Base.{Base}
use Rattle.op_model.specs.declared.request.Edit.{Edit}
use Rattle.op_model.specs.declared.entry.Changed.{Changed}
use Rattle.op_model.specs.declared.entry.Shown.{Shown}
use Rattle.op_model.specs.declared.entry.Entry.{Entry}
use Rattle.op_model.specs.declared.reply.Reply.TheVariants as reply
use Rattle.client_events.specs.declared.rows.Stamp.{Stamp}
use Rattle.op_model.specs.Transcript.{Line}
use Rattle.client_events.specs.declared.phases.Looked.{Looked}
use Rattle.graph_model.specs.Lists.{has}
use Rattle.session_machine.specs.Machine as machine
use Rattle.session_machine.specs.Invariant.{Descends}
use Rattle.client_events.specs.declared.phases.After.{After}
use Rattle.client_events.specs.declared.phases.Phase.{Phase}
use Rattle.client_events.specs.declared.phases.Phase.TheVariants as phase
use Rattle.client_events.specs.Phases.{after_of, entry_drafted, phase_of}

-- what a client holds is just what the table says, the greatest first
pub record Holds (locks : List ℕ) (client : ℕ) (held : List ℕ) : Type 0 where
  pub mine : (n : ℕ) → (slice_index locks n == client) ≡ has held n
  pub order : Descends held

-- the greatest held lock is given back
abbrev pub Released : List ℕ → ℕ → After → List ℕ → Phase → Type 0
Released old client a new p =
    (sh : machine.Shared) (s : machine.ClientState) (line : ℕ) → sh.locks ≡ old → Holds old client s.held
    → let m = machine.give_back sh s (after_of a) s.held in (new ≡ m.0.locks) × (phase_of client line p ≡ m.1.phase)

-- a reply was written, or its writing failed
abbrev pub Written : Type 0 → Type 0 → Phase → Type 0
Written put missed phase.Ready = put
Written put missed phase.Ended = missed
Written put missed p = ⊥

-- it goes on where the machine's client does, and has seen as much
abbrev pub Same : ℕ → ℕ → Looked → machine.ClientState → Type 0
Same client line l s = (phase_of client line l.phase ≡ s.phase) × (l.seen ≡ s.seen)

-- the look at a line that was taken, for which there may be no memory
abbrev pub LineRead : Dataset → Base → machine.Shared → machine.ClientState → ℕ → ℕ → Line → Looked → Type 0
LineRead d b sh s client line a l =
    (no_memory : Bool) × Same client line l (if no_memory then record s { seen = length sh.log; phase = machine.Replying reply.NoMemory } else machine.read_line d b sh s a)

-- where a client goes on after it has looked whether its locks are all held
abbrev pub pinned_phase : Edit → Bool → machine.Phase
pinned_phase edit true = machine.Planning edit
pinned_phase edit false = machine.Releasing (machine.Restart edit)

-- what nothing in the code decides of a step, and what its calls decide
abbrev pub choice : Bool → Bool → Option Shown → ℕ → machine.Choice
choice write_fails no_memory shown clock = record { write_fails = write_fails; no_memory = no_memory; shown = shown; clock = clock }

-- a plan is made, whatever the step's other choices are
abbrev pub Plans : Dataset → Base → machine.Shared → machine.ClientState → ℕ → ℕ → Edit → Phase → Type 0
Plans d b sh s client line edit p =
    (no_memory : Bool) × (shown : Option Shown)
    × ((write_fails : Bool) (clock : ℕ) → machine.IsAllowed d b (choice write_fails no_memory shown clock) sh s (machine.Planning edit)
    × (phase_of client line p ≡ (machine.plan d b (choice write_fails no_memory shown clock) sh s edit).phase))

-- an entry that is to be published stands behind the records
abbrev pub Drafted : (Dataset → Base → List Entry → Entry → Type 0) → Dataset → Base → List Entry → ℕ → ℕ → Phase → Type 0
Drafted drafts d b log client line (phase.Committing plan remade) = drafts d b log (entry_drafted client line plan remade)
Drafted drafts d b log client line p = ⊤

-- the entry of a plan is made in the turn, whatever the step's other choices are
abbrev pub Checks : (Dataset → Base → List Entry → Entry → Type 0) → Dataset → Base → machine.Shared → machine.ClientState → Stamp → Edit → List Changed → Option Shown → Looked → Type 0
Checks drafts d b sh s st edit changed shown l =
    (no_memory : Bool)
    × ((write_fails : Bool) (other : Option Shown) → Same st.client st.line l (machine.check d b (choice write_fails no_memory other st.now) st.client sh s edit changed shown))
    × Drafted drafts d b sh.log st.client st.line l.phase
