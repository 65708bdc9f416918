-- Inner: no clause of `run` is made of it.
-- What clauses read of a session, and what its next line is.
use Rattle.std.specs.Prelude.{◌≡◌, ◌==◌, ◌+◌, ◌<◌, ◌≤◌, ◌++◌, ℕ, List, length, Bool, true, false, Option}
use Rattle.std.specs.List.{list_any}
use Rattle.std.specs.Io.KnownBytes.{Consumes}
use Rattle.client_session.specs.declared.session.Session.{Session}
use Rattle.client_session.specs.declared.session.Tally.{Tally}
use Rattle.client_session.specs.declared.session.LineRead.{LineRead}
use Rattle.client_session.specs.declared.session.LineRead.TheVariants as reads
use Rattle.client_session.specs.Buffers.{waiting, given}
use Rattle.client_session.specs.Feeds.{IsNext, IsEnd, IsFault, IsTooLong}

-- the client's number
abbrev pub client_of : {S K : Type 0} → Session S K → ℕ
client_of s = s.client

-- where its lines come from
abbrev pub source_of : {S K : Type 0} → Session S K → S
source_of s = s.source

-- where its replies go
abbrev pub sink_of : {S K : Type 0} → Session S K → K
sink_of s = s.sink

-- how many bytes were taken of the source
abbrev pub taken_by : {S K : Type 0} → Session S K → ℕ
taken_by s = s.buffer.taken

-- the bytes that were taken and not yet given
abbrev pub waiting_in : {S K : Type 0} → Session S K → List ℕ
waiting_in s = waiting s.buffer

-- the bytes of its buffer
abbrev pub bytes_in : {S K : Type 0} → Session S K → List ℕ
bytes_in s = s.buffer.bytes.items

-- how many bytes were given, with their line feeds
abbrev pub given_by : {S K : Type 0} → Session S K → ℕ
given_by s = given s.buffer

-- the stream was read to its end, and its last line was given
abbrev pub is_over : {S K : Type 0} → Session S K → Bool
is_over s = s.buffer.over

-- no line comes any more
abbrev pub is_stopped : {S K : Type 0} → Session S K → Bool
is_stopped s = s.stopped

-- how many replies it wrote
abbrev pub tally_of : {S K : Type 0} → Session S K → Tally
tally_of s = s.tally

-- no reply at all
abbrev pub no_replies : Tally
no_replies = record { lines = 0; accepted = 0; refused = 0 }

-- no line comes after this answer
abbrev pub stops_after : LineRead → Bool
stops_after (reads.Line line) = false
stops_after (reads.Long n) = false
stops_after reads.End = true
stops_after reads.ReadFault = true
stops_after reads.TooLong = true

-- the source failed
abbrev pub tells_fault : LineRead → Bool
tells_fault (reads.Line line) = false
tells_fault (reads.Long n) = false
tells_fault reads.End = false
tells_fault reads.ReadFault = true
tells_fault reads.TooLong = false

-- the answer for what is held, if that many bytes were given before, and what waits after it
abbrev pub Answers : LineRead → ℕ → List ℕ → List ℕ → Bool → Bool → Option (List ℕ) → ℕ → ℕ → Type 0
Answers (reads.Line line) given held rest was over left before now = (length line.now ≤ 65536) × IsNext line.now over given held rest left
Answers (reads.Long n) given held rest was over left before now = (line : List ℕ) × (length line ≡ n) × (65536 < n) × IsNext line over given held rest left
Answers reads.End given held rest was over left before now = IsEnd was held rest left
Answers reads.ReadFault given held rest was over left before now = IsFault held before now
Answers reads.TooLong given held rest was over left before now = IsTooLong given held

-- What a call for the next line does to a session, by what its source has left and how often it has failed. `read` is what the call takes of the source.
pub record NextLine {S K : Type 0} (left : S → Option (List ℕ)) (faults : S → ℕ) (answer : LineRead) (old new : Session S K) : Type 0 where
  pub read : List ℕ
  pub consumes : Consumes (left (source_of old)) (left (source_of new)) read
  pub taken : taken_by new ≡ taken_by old + length read
  pub answers : Answers answer (given_by old) (waiting_in old ++ read) (waiting_in new) (is_over old) (is_over new) (left (source_of new)) (faults (source_of old)) (faults (source_of new))
  pub stopped : is_stopped new ≡ stops_after answer
  pub closed : is_over old ≡ true → answer ≡ reads.End
  pub first : list_any (λ b. b == 10) (waiting_in old) ≡ true → source_of new ≡ source_of old
  pub later : faults (source_of old) ≤ faults (source_of new)
  pub still : tells_fault answer ≡ false → faults (source_of new) ≡ faults (source_of old)
  pub client : client_of new ≡ client_of old
  pub sink : sink_of new ≡ sink_of old
  pub tally : tally_of new ≡ tally_of old
