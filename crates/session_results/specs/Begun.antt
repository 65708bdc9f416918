-- Inner: no clause of `run` is made of it.
-- A core before its first step, and what is counted behind its last one.
use Rattle.std.specs.Prelude.{ℕ, ◌+◌, Bool, List, [], ◌∷◌, ◌++◌, map}
use Rattle.op_model.specs.declared.base.Dataset.{Dataset}
use Rattle.op_model.specs.declared.base.Base.{Base}
use Rattle.op_model.specs.Transcript.{Line}
use Rattle.session_machine.specs.Machine as machine
use Rattle.pcg_base.specs.declared.reading.StreamEnd.{StreamEnd}
use Rattle.client_events.specs.Phases.{line_of}
use Rattle.core_steps.specs.declared.cores.Core.{Core}
use Rattle.core_steps.specs.declared.starting.ClientLines.{ClientLines}
use Rattle.core_steps.specs.Places.{CoreIs, IsGood}
use Rattle.stored_log.specs.declared.logs.StoredLog.{StoredLog}
use Rattle.stored_log.specs.Stored.{Drafts, Stands, asked_line}
use Rattle.stream_lines.specs.declared.reading.StreamLines.{StreamLines}
use Rattle.call_lines.specs.declared.summary.ClientFault.{ClientFault}
use Rattle.client_answers.specs.declared.answers.ClientAnswers.{ClientAnswers}
use Rattle.session_results.specs.Results.{fault_at, fault_for, is_faulty}

-- a stream's lines, and whether it ended in a fault
abbrev pub client_lines : StreamLines → ClientLines
client_lines r = record { lines = r.lines; fault = is_faulty r.end }

-- the same, as the machine has them
abbrev pub asked_of : StreamLines → List Line × Bool
asked_of r = (map (line_of asked_line) r.lines.items, is_faulty r.end)

-- the core is in this state of the machine, which a run can reach
abbrev pub IsAt : Dataset → Base → Core StoredLog → machine.State → Type 0
IsAt d b core w = IsGood d b w × CoreIs asked_line (Stands core.rows) (Drafts core.rows) d b core.table core.clients.items w

-- the faults of clients, of the one of this number and those behind it, by whether the writing of a reply failed and how the stream ended
unfoldable pub faults_told : {K : Type 0} → ℕ → List (ClientAnswers K) → List StreamEnd → List ClientFault
faults_told client (x ∷ xs) (e ∷ es) = fault_at client (fault_for x.failed e) ++ faults_told (client + 1) xs es
faults_told client xs es = []
