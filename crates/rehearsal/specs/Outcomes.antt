-- What a call of a rehearsal comes to.
use Rattle.std.specs.Prelude.{◌≡◌, ◌⊎◌, ◌≤◌, ⊤, ℕ, pred, List, [], length, map, take, slice_get, Option, Some, None}
use Rattle.std.specs.FinMap.{get}
use Rattle.std.specs.Io.KnownBytes.{Appends}
use Rattle.op_model.specs.declared.base.Base.{Base}
use Rattle.op_model.specs.declared.entry.Entry.{Entry}
use Rattle.hierarchy_build.specs.declared.errors.BuildError.{BuildError}
use Rattle.hierarchy_build.specs.Built.{IsFull}
use Rattle.pcg_base.specs.Causes.{Rose}
use Rattle.pcg_base.specs.States.{PlaceState, SinkState}
use Rattle.pcg_base.specs.Told.{AppendsFront, Files, KeepsFiles}
use Rattle.pcg_words.specs.declared.job.RehearseJob.{RehearseJob}
use Rattle.pcg_words.specs.Job.{answer_file, request_file}
use Rattle.call_lines.specs.declared.status.Status.{Status}
use Rattle.call_lines.specs.declared.status.Status.TheVariants as statuses
use Rattle.call_lines.specs.declared.stops.FileName.TheVariants as files
use Rattle.call_lines.specs.declared.stops.Stop.{Stop}
use Rattle.call_lines.specs.declared.stops.Stop.TheVariants as stops
use Rattle.call_lines.specs.Printing.{Prints}
use Rattle.call_lines.specs.Statuses.{status_of}
use Rattle.call_lines.specs.Texts.{stop_text}
use Rattle.job_files.specs.declared.opening.OpenFault.TheVariants as opens
use Rattle.job_files.specs.Clients.{Empties, FrontWhole, RequestsShut}
use Rattle.job_files.specs.Kept.{KeepsOther}
use Rattle.job_files.specs.Places.{WriteRose}
use Rattle.job_tables.specs.Inputs.{HasBase, HasSchedule, dataset_of}
use Rattle.job_tables.specs.Stops.{AllRead, InputStop}
use Rattle.session_results.specs.Results.{SessionResult}
use Rattle.rehearsal.specs.Between.{Between}
use Rattle.rehearsal.specs.History.{History, IsPlayOf}

-- the names of the clients' files
abbrev pub requests_of : RehearseJob → List (List ℕ)
requests_of job = map request_file job.stems

abbrev pub answers_of : RehearseJob → List (List ℕ)
answers_of job = map answer_file job.stems

-- the tables spell a base whose records can be had, and the schedule names clients
abbrev pub HasInput : Option Files → RehearseJob → Type 0
HasInput files job =
    (b : Base) × HasBase files job b × ((e : BuildError) → IsFull (dataset_of job) b e → ⊥) × (numbers : List ℕ) × HasSchedule files job numbers

-- The answers of this client couldn't be opened: those before them are empty files, and all requests were kept back whole.
abbrev pub AnswersFailed : List (List ℕ) → List (List ℕ) → PlaceState → PlaceState → ℕ → Type 0
AnswersFailed requests answers old new client =
    (name : List ℕ) × (slice_get answers (pred client) ≡ Some name) × (1 ≤ client) × WriteRose old new name × Empties old.files (take (pred client) answers) new.files
    × (new.reads ≡ old.reads) × FrontWhole (length requests) requests old.files new.left

-- where a place tells its bytes, the file at each of these names is empty or as it was, and all others are as they were
abbrev pub AreEmptyOrSame : List (List ℕ) → Option Files → Option Files → Type 0
AreEmptyOrSame names None new = ⊤
AreEmptyOrSame names (Some m) None = ⊥
AreEmptyOrSame names (Some m) (Some m') = (k : ℕ) (name : List ℕ) → slice_get names k ≡ Some name → (get m' name ≡ Some []) ⊎ (get m' name ≡ get m name)

-- Why the sessions over these requests and answers didn't begin, and what the files are then: requests are opened before answers, and both before a request is read. Where memory ran out no answer file has a byte that it hadn't.
abbrev pub SessionsStop : List (List ℕ) → List (List ℕ) → PlaceState → PlaceState → Stop → Type 0
SessionsStop requests answers old new (stops.ReadFault client files.Requests) = RequestsShut requests old new (opens.Failed client)
SessionsStop requests answers old new (stops.WriteFault client files.Answers) = AnswersFailed requests answers old new client
SessionsStop requests answers old new stops.NoMemory = AreEmptyOrSame answers old.files new.files × KeepsOther old.files answers new.files
SessionsStop requests answers old new stop = ⊥

abbrev pub ClientsStop : RehearseJob → PlaceState → PlaceState → Stop → Type 0
ClientsStop job old new stop = SessionsStop (requests_of job) (answers_of job) old new stop

-- Why a call stopped before its sessions, and what the files are then. The first step that failed decides: a client's files are opened only after the tables and the schedule were read and spelled their input, and until then no file changes.
abbrev pub StopCause : RehearseJob → PlaceState → PlaceState → Stop → Type 0
StopCause job old new stop =
    (InputStop job old new stop × KeepsFiles old.files new.files)
    ⊎ (HasInput old.files job × AllRead old.files new.left job × ClientsStop job old new stop)

-- A call came past its sessions: what was read spells a base and a schedule, and one history over the base stands behind what was answered and is to be printed. It is that of the play of the schedule, with the clock of the words.
pub record CamePast (job : RehearseJob) (old new : PlaceState) (text : List ℕ) (ended : Status) : Type 0 where
  pub base : Base
  pub has_base : HasBase old.files job base
  pub fits : (e : BuildError) → IsFull (dataset_of job) base e → ⊥
  pub schedule : List ℕ
  pub has_schedule : HasSchedule old.files job schedule
  pub read : AllRead old.files new.left job
  pub log : List Entry
  pub results : List SessionResult
  pub history : History (dataset_of job) base log results old new job.stems text ended
  pub play : IsPlayOf (dataset_of job) base log results job.clock schedule

-- the status of a call whose output failed, where that of its sessions is this
unfoldable pub at_fault : Status → Status
at_fault statuses.Done = statuses.WriteFault
at_fault ended = ended

-- the text was printed; or the output failed, and it has a front of the text; or memory ran out over an entry of the log, and it has a front too
abbrev pub Printed : SinkState → SinkState → List ℕ → Status → Status → Type 0
Printed out out' text ended status =
    (Appends out.held out'.held text × (out'.faults ≡ out.faults) × (status ≡ ended))
    ⊎ (AppendsFront out.held out'.held text × Rose out.faults out'.faults × (status ≡ at_fault ended))
    ⊎ (AppendsFront out.held out'.held text × (out'.faults ≡ out.faults) × (status ≡ statuses.NoMemory))

-- A call stopped before its sessions, by this cause and with these files, with this fault line alone; or it came past them, and printed the log and the summary.
abbrev pub Outcome : RehearseJob → Between PlaceState → Between SinkState → Status → Type 0
Outcome job place out status =
    ((stop : Stop) × (status ≡ status_of stop) × StopCause job place.old place.new stop × Prints out.old out.new (stop_text stop))
    ⊎ ((text : List ℕ) × (ended : Status) × CamePast job place.old place.new text ended × Printed out.old out.new text ended status)

-- the call came past its sessions, none ended in a fault, and all was printed
abbrev pub IsDone : RehearseJob → Between PlaceState → Between SinkState → Type 0
IsDone job place out = (text : List ℕ) × CamePast job place.old place.new text statuses.Done × Appends out.old.held out.new.held text
