-- Inner: no clause of `run` is made of it.
-- The core at the start.
use Rattle.std.specs.Prelude.{ℕ, Bool, List, map}
use Rattle.op_model.specs.Transcript.{Line}
use Rattle.client_events.specs.declared.phases.Phase.TheVariants as phase
use Rattle.client_events.specs.declared.clients.Client.{Client}
use Rattle.core_steps.specs.declared.starting.ClientLines.{ClientLines}
use Rattle.client_events.specs.Phases.{line_of}

-- a client before its first line
abbrev pub new_client : ClientLines → Client
new_client l = record { lines = l.lines; taken = 0; fault = l.fault; phase = phase.Ready; seen = 1 }

-- its lines, as the machine has them
abbrev pub lines_of : (List ℕ → Line) → ClientLines → List Line × Bool
lines_of asked l = (map (line_of asked) l.lines.items, l.fault)
