-- What sessions came to.
use Rattle.std.specs.Prelude.{◌≡◌, ℕ, ◌+◌, nat_lt, if◌then◌else◌, Bool, true, false, List, [], ◌∷◌, ◌++◌, length, map, reverse, count_by, is_some, option_to_list, slice_get, ⊤, Option, Some, None}
use Rattle.std.specs.Io.KnownBytes.{Consumes}
use Rattle.op_model.specs.declared.base.Dataset.{Dataset}
use Rattle.op_model.specs.declared.base.Base.{Base}
use Rattle.op_model.specs.declared.entry.Entry.{Entry}
use Rattle.op_model.specs.declared.reply.Reply.{Reply}
use Rattle.op_model.specs.declared.request.LineError.TheVariants as error
use Rattle.op_model.specs.Transcript.{Line, Faulty, WholeTranscript}
use Rattle.session_machine.specs.Machine as machine
use Rattle.pcg_base.specs.declared.reading.StreamEnd.{StreamEnd}
use Rattle.pcg_base.specs.declared.reading.StreamEnd.TheVariants as ends
use Rattle.call_lines.specs.declared.status.Status.{Status}
use Rattle.call_lines.specs.declared.status.Status.TheVariants as statuses
use Rattle.call_lines.specs.declared.summary.Fault.{Fault}
use Rattle.call_lines.specs.declared.summary.Fault.TheVariants as faults
use Rattle.call_lines.specs.declared.summary.ClientFault.{ClientFault}
use Rattle.call_lines.specs.Statuses.{fault_status}
use Rattle.client_answers.specs.Answers.{refuses}
use Rattle.client_answers.specs.Written.{FaultsSo, HasTexts}
use Rattle.stored_log.specs.Stored.{asked_line}
use Rattle.stream_lines.specs.Streams.{EndsIn}

-- A session at its end: the lines of its stream and how that ended, the replies that were written, and the one whose writing failed, if one did.
pub record SessionResult : Type 0 where
  pub lines : List (List ℕ)
  pub ending : StreamEnd
  pub written : List Reply
  pub last : Option Reply

-- what a line is: one of over 65,536 bytes is no request
unfoldable pub line_asked : List ℕ → Line
line_asked bytes = if nat_lt 65536 (length bytes) then Faulty (error.LineTooLong (length bytes)) else asked_line bytes

-- the fault that a session ended in: a reply whose writing failed comes before the end of its stream
unfoldable pub fault_for : Bool → StreamEnd → Option Fault
fault_for true ending = Some faults.WriteFault
fault_for false ends.Whole = None
fault_for false ends.Broken = Some faults.ReadFault
fault_for false ends.TooLong = Some faults.TooLong

unfoldable pub fault_of : SessionResult → Option Fault
fault_of r = fault_for (is_some r.last) r.ending

-- a client's fault, if its session ended in one
abbrev pub fault_at : ℕ → Option Fault → List ClientFault
fault_at client None = []
fault_at client (Some fault) = record { client = client; fault = fault } ∷ []

-- the faults of sessions, of the client of this number and those behind it
unfoldable pub faults_from : ℕ → List SessionResult → List ClientFault
faults_from client [] = []
faults_from client (r ∷ rs) = fault_at client (fault_of r) ++ faults_from (client + 1) rs

-- the status of a call with these faults, where its output doesn't fail
unfoldable pub status_for : List ClientFault → Status
status_for [] = statuses.Done
status_for (f ∷ fs) = fault_status f.fault

-- how many replies were written, and how many of them refuse their line
unfoldable pub reply_count : List SessionResult → ℕ
reply_count [] = 0
reply_count (r ∷ rs) = length r.written + reply_count rs

unfoldable pub refusal_count : List SessionResult → ℕ
refusal_count [] = 0
refusal_count (r ∷ rs) = count_by refuses r.written + refusal_count rs

-- what is known of a session's source and sink, before it and behind it
pub record Streams : Type 0 where
  pub left : Option (List ℕ)
  pub left' : Option (List ℕ)
  pub read_faults : ℕ
  pub read_faults' : ℕ
  pub held : Option (List ℕ)
  pub held' : Option (List ℕ)
  pub write_faults : ℕ
  pub write_faults' : ℕ

module _ (d : Dataset) (b : Base) (log : List Entry) where
  -- A client's session over a history: its lines are those of what was taken of its stream, its replies a transcript of what they ask, and their texts were written. Where no writing failed each line has its reply.
  pub record IsSession (client : ℕ) (s : Streams) (r : SessionResult) : Type 0 where
    pub taken : List ℕ
    pub consumed : Consumes s.left s.left' taken
    pub ends : EndsIn r.ending taken r.lines s.left s.left' s.read_faults s.read_faults'
    pub transcript : WholeTranscript d b log client (map line_asked r.lines) (r.written ++ option_to_list r.last)
    pub each : r.last ≡ None → length r.written ≡ length r.lines
    pub texts : HasTexts s.held s.held' r.written r.last
    pub broke : FaultsSo s.write_faults s.write_faults' (is_some r.last)

  -- the same of each client from this number on
  abbrev pub AllSessions : ℕ → List Streams → List SessionResult → Type 0
  AllSessions client [] [] = ⊤
  AllSessions client [] (r ∷ rs) = ⊥
  AllSessions client (s ∷ ss) [] = ⊥
  AllSessions client (s ∷ ss) (r ∷ rs) = IsSession client s r × AllSessions (client + 1) ss rs

-- whether a stream ended in a fault
abbrev pub is_faulty : StreamEnd → Bool
is_faulty ends.Whole = false
is_faulty ends.Broken = true
is_faulty ends.TooLong = true

-- what the machine's clients are at the start: their lines, and whether their streams ended in a fault
unfoldable pub clients_of : List SessionResult → List (List Line × Bool)
clients_of rs = map (λ r. (map line_asked r.lines, is_faulty r.ending)) rs

-- the machine's clients were replied what these sessions were
abbrev pub Replied : List SessionResult → machine.State → Type 0
Replied rs v =
    (k : ℕ) (r : SessionResult) → slice_get rs k ≡ Some r
    → (s : machine.ClientState) × (slice_get v.clients k ≡ Some s) × (reverse s.replies ≡ r.written ++ option_to_list r.last)
