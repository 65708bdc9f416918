-- Inner: no clause of `run` is made of it.
-- What the phases of the code mean.
use Rattle.std.specs.Prelude.{ℕ, ◌+◌, List}
use Rattle.op_model.specs.declared.request.LineError.TheVariants as error
use Rattle.op_model.specs.Transcript.{Line, Faulty}
use Rattle.client_events.specs.declared.lines.LineText.{LineText}
use Rattle.client_events.specs.declared.lines.LineText.TheVariants as text
use Rattle.op_model.specs.declared.entry.Asked.TheVariants as asked
use Rattle.op_model.specs.declared.entry.Entry.{Entry}
use Rattle.op_model.specs.declared.entry.Plan.{Plan}
use Rattle.session_machine.specs.Machine as machine
use Rattle.client_events.specs.declared.rows.Remade.{Remade}
use Rattle.client_events.specs.declared.phases.After.{After}
use Rattle.client_events.specs.declared.phases.After.TheVariants as after
use Rattle.client_events.specs.declared.phases.Phase.{Phase}
use Rattle.client_events.specs.declared.phases.Phase.TheVariants as phase
use Rattle.client_events.specs.Masks.{numbers}

-- what a client does once it has given its locks back
abbrev pub after_of : After → machine.After
after_of (after.Answer r) = machine.Answer r
after_of (after.Restart edit) = machine.Restart edit

-- the entry that a client's line makes of its plan and of what the draft tells
abbrev pub entry_drafted : ℕ → ℕ → Plan → Remade → Entry
entry_drafted client line plan r =
    record { number = r.op; client = client; line = line; at = r.at; asked = asked.Edit plan.edit; changed = plan.changed; retired = r.retired; made = r.made }

-- the phase of this client, on this line
abbrev pub phase_of : ℕ → ℕ → Phase → machine.Phase
phase_of client line phase.Ready = machine.Ready
phase_of client line (phase.Again edit) = machine.Again edit
phase_of client line (phase.Locking edit wanted next) = machine.Locking edit next (numbers wanted (next + 1))
phase_of client line (phase.Pinning edit) = machine.Pinning edit
phase_of client line (phase.Planning edit) = machine.Planning edit
phase_of client line (phase.Waiting plan) = machine.Waiting plan.edit plan.changed plan.shown
phase_of client line (phase.Checking plan) = machine.Checking plan.edit plan.changed plan.shown
phase_of client line (phase.Committing plan remade) = machine.Committing plan.edit plan.shown (entry_drafted client line plan remade)
phase_of client line (phase.Yielding r) = machine.Yielding r
phase_of client line (phase.Releasing a) = machine.Releasing (after_of a)
phase_of client line (phase.Replying r) = machine.Replying r
phase_of client line phase.Ended = machine.Ended

-- what a line of text is, by what its bytes ask
abbrev pub line_of : (List ℕ → Line) → LineText → Line
line_of asked (text.Bytes bytes) = asked bytes.items
line_of asked (text.Long n) = Faulty (error.LineTooLong n)
