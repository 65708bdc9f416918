-- What the clients of a rehearsal came to, by the bytes of their files.
use Rattle.std.specs.Prelude.{◌≡◌, ◌<◌, ◌^◌, ◌+◌, ⊤, ℕ, Bool, true, false, List, [], ◌∷◌, ◌++◌, length, map, take, is_some, option_to_list, Option, Some, None}
use Rattle.std.specs.FinMap.{get}
use Rattle.op_model.specs.declared.base.Dataset.{Dataset}
use Rattle.op_model.specs.declared.base.Base.{Base}
use Rattle.op_model.specs.declared.entry.Entry.{Entry}
use Rattle.op_model.specs.declared.reply.Reply.{Reply}
use Rattle.op_model.specs.Transcript.{WholeTranscript}
use Rattle.pcg_base.specs.declared.reading.StreamEnd.{StreamEnd}
use Rattle.pcg_base.specs.declared.reading.StreamEnd.TheVariants as ends
use Rattle.pcg_base.specs.States.{PlaceState}
use Rattle.pcg_base.specs.Told.{Files, LeavesNone}
use Rattle.pcg_words.specs.Job.{answer_file, request_file}
use Rattle.request_lines.specs.Lines.{lines_of}
use Rattle.request_lines.specs.Texts.{text_of_reply}
use Rattle.client_session.specs.Giving.{ended_of}
use Rattle.client_answers.specs.Written.{texts}
use Rattle.job_files.specs.Places.{ReadBroke, WriteBroke}
use Rattle.session_results.specs.Results.{SessionResult, line_asked}

-- where a place tells its bytes, the file at this name begins with the bytes that were taken, and its source has the rest left
abbrev pub TakenAt : Option Files → (List ℕ → List ℕ) → List ℕ → List ℕ → Type 0
TakenAt None left name taken = ⊤
TakenAt (Some m) left name taken = get m name ≡ Some (taken ++ left name)

-- The lines of what was taken of a stream, by how it ended: all of them at its end; those that a line feed ended before a fault, and within the limit where more was taken.
abbrev pub LinesAre : StreamEnd → List ℕ → List (List ℕ) → Type 0
LinesAre ends.Whole taken lines = lines_of taken ≡ lines
LinesAre ends.Broken taken lines = ended_of taken ≡ lines
LinesAre ends.TooLong taken lines = (ended_of (take (2 ^ 30) taken) ≡ lines) × (2 ^ 30 < length taken)

-- these bytes are the texts of the replies that were written, and a front of the text of the one whose writing failed
abbrev pub AreTexts : List ℕ → List Reply → Option Reply → Type 0
AreTexts answers written None = answers ≡ texts written
AreTexts answers written (Some r) = (front rest : List ℕ) × (text_of_reply r ≡ front ++ rest) × (answers ≡ texts written ++ front)

-- where a place tells its bytes, the file at this name has them
abbrev pub HasAnswers : Option Files → Option Files → List ℕ → List Reply → Option Reply → Type 0
HasAnswers None new name written last = ⊤
HasAnswers (Some m) None name written last = ⊥
HasAnswers (Some m) (Some m') name written last = (answers : List ℕ) × (get m' name ≡ Some answers) × AreTexts answers written last

-- if a read of a stream failed the counts of reading rose, at the place and beside its name, and else that beside the name stood still
abbrev pub ReadsSo : StreamEnd → List ℕ → PlaceState → PlaceState → Type 0
ReadsSo ends.Broken name old new = ReadBroke old new name
ReadsSo ends.Whole name old new = (new.counts name).source_faults ≡ (old.counts name).source_faults
ReadsSo ends.TooLong name old new = (new.counts name).source_faults ≡ (old.counts name).source_faults

-- the same of the writing of answers
abbrev pub WritesSo : Bool → List ℕ → PlaceState → PlaceState → Type 0
WritesSo true name old new = WriteBroke old new name
WritesSo false name old new = (new.counts name).sink_faults ≡ (old.counts name).sink_faults

-- whether a read of the stream failed
abbrev pub broke : StreamEnd → Bool
broke ends.Whole = false
broke ends.Broken = true
broke ends.TooLong = false

module _ (d : Dataset) (b : Base) (log : List Entry) (old new : PlaceState) where
  -- A client's session: its lines are those of what was taken of its requests, its replies a transcript of them over the history, and its answer file has their texts. Where no writing failed each line has its reply. Counts tell what failed.
  pub record IsClient (client : ℕ) (stem : List ℕ) (r : SessionResult) : Type 0 where
    pub taken : List ℕ
    pub stream : TakenAt old.files new.left (request_file stem) taken
    pub lines : LinesAre r.ending taken r.lines
    pub whole : r.ending ≡ ends.Whole → LeavesNone old.files (new.left (request_file stem))
    pub transcript : WholeTranscript d b log client (map line_asked r.lines) (r.written ++ option_to_list r.last)
    pub each : r.last ≡ None → length r.written ≡ length r.lines
    pub answers : HasAnswers old.files new.files (answer_file stem) r.written r.last
    pub reads : ReadsSo r.ending (request_file stem) old new
    pub writes : WritesSo (is_some r.last) (answer_file stem) old new

  -- the same of each client from this number on
  abbrev pub AllClients : ℕ → List (List ℕ) → List SessionResult → Type 0
  AllClients client [] [] = ⊤
  AllClients client [] (r ∷ rs) = ⊥
  AllClients client (stem ∷ stems) [] = ⊥
  AllClients client (stem ∷ stems) (r ∷ rs) = IsClient client stem r × AllClients (client + 1) stems rs
