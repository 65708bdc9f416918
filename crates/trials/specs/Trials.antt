-- What a call of a trial comes to.
use Rattle.std.specs.Prelude.{◌≡◌, ◌⊎◌, ⊤, ℕ, ◌+◌, ◌-◌, List, [], ◌∷◌, length, map, None}
use Rattle.std.specs.Io.KnownBytes.{Appends}
use Rattle.op_model.specs.declared.base.Dataset.{Dataset}
use Rattle.op_model.specs.declared.base.Base.{Base}
use Rattle.op_model.specs.declared.entry.Entry.{Entry}
use Rattle.op_model.specs.Legal.{Legal}
use Rattle.op_model.specs.Records.{records}
use Rattle.op_model.specs.Transcript.{WholeTranscript}
use Rattle.histories.specs.Histories.{EntriesOwned, IdsStay, LeavesAreJoined, RootsAreJoined, live_roots}
use Rattle.hierarchy_build.specs.declared.errors.BuildError.{BuildError}
use Rattle.hierarchy_build.specs.declared.errors.BuildError.TheVariants as builds
use Rattle.hierarchy_build.specs.Built.{IsFull}
use Rattle.made_input.specs.declared.wish.Wish.{Wish}
use Rattle.made_input.specs.Texts.{input_of}
use Rattle.made_bases.specs.Laws.{base_made}
use Rattle.pcg_base.specs.Causes.{Rose}
use Rattle.pcg_base.specs.States.{SinkState}
use Rattle.pcg_base.specs.Told.{AppendsFront}
use Rattle.pcg_base.specs.declared.reading.StreamEnd.TheVariants as ends
use Rattle.pcg_words.specs.declared.job.TrialJob.{TrialJob}
use Rattle.request_lines.specs.Lines.{lines_of}
use Rattle.call_lines.specs.declared.status.Status.{Status}
use Rattle.call_lines.specs.declared.status.Status.TheVariants as statuses
use Rattle.call_lines.specs.declared.stops.Stop.{Stop}
use Rattle.call_lines.specs.declared.stops.Stop.TheVariants as stops
use Rattle.call_lines.specs.declared.summary.ClientFault.{ClientFault}
use Rattle.call_lines.specs.Printing.{Prints}
use Rattle.call_lines.specs.Statuses.{code, status_of}
use Rattle.call_lines.specs.Texts.{stop_text, summary_line}
use Rattle.job_tables.specs.Inputs.{dataset_with}
use Rattle.session_results.specs.Results.{SessionResult, line_asked, refusal_count, reply_count, status_for}
use Rattle.rehearsal.specs.Between.{Between}
use Rattle.rehearsal.specs.History.{IsPlayOf}

-- the dataset of a trial
abbrev pub dataset_of : TrialJob → Dataset
dataset_of job = dataset_with job.bits job.grid job.merge_affinity job.records

-- what input a trial wishes for
unfoldable pub wish_of : TrialJob → Wish
wish_of job = record {
  layout = record { version = 1; bits = job.bits };
  grid = job.grid;
  number = job.from;
  size = job.size;
  clients = job.clients;
  requests = job.requests;
}

-- the base that is made, and the clients' request streams
abbrev pub base_of : TrialJob → Base
base_of job = base_made (wish_of job)

abbrev pub streams_of : TrialJob → List (List ℕ)
streams_of job = (input_of (wish_of job)).streams

-- the made base's records can't be had, for this reason
abbrev pub IsFullFor : TrialJob → BuildError → Type 0
IsFullFor job e = IsFull (dataset_of job) (base_of job) e

-- why a trial stopped before its sessions
abbrev pub TrialStop : TrialJob → Stop → Type 0
TrialStop job (stops.IdsSpent layer x y z) = IsFullFor job (builds.IdsSpent layer x y z)
TrialStop job (stops.TooSmall need given) = IsFullFor job (builds.TooSmall need given)
TrialStop job stops.NoMemory = ⊤
TrialStop job stop = ⊥

-- the summary of a log and of replies that so many clients were given
abbrev pub log_summary : Dataset → Base → List Entry → ℕ → List ClientFault → ℕ → ℕ → List ℕ
log_summary d b log clients faults lines refused =
    summary_line (length log - 1) clients (length log) faults lines (records d b log) refused (length (live_roots log)) (code (status_for faults))

module _ (d : Dataset) (b : Base) (log : List Entry) where
  -- A client's session over a history: it has all lines of the client's stream, each of them was replied, and the replies are a transcript of what the lines ask.
  pub record IsAnswered (client : ℕ) (stream : List ℕ) (r : SessionResult) : Type 0 where
    pub lines : r.lines ≡ lines_of stream
    pub ending : r.ending ≡ ends.Whole
    pub last : r.last ≡ None
    pub transcript : WholeTranscript d b log client (map line_asked r.lines) r.written
    pub each : length r.written ≡ length r.lines

  -- the same of each client from this number on
  abbrev pub AllAnswered : ℕ → List (List ℕ) → List SessionResult → Type 0
  AllAnswered client [] [] = ⊤
  AllAnswered client [] (r ∷ rs) = ⊥
  AllAnswered client (stream ∷ streams) [] = ⊥
  AllAnswered client (stream ∷ streams) (r ∷ rs) = IsAnswered client stream r × AllAnswered (client + 1) streams rs

-- The text is the summary of a trial: one legal history over the made base stands behind it, which is that of the play of the empty schedule over the made streams, with the clock of the words, and each line of each client has its reply.
pub record IsTried (job : TrialJob) (text : List ℕ) : Type 0 where
  pub fits : (e : BuildError) → IsFullFor job e → ⊥
  pub log : List Entry
  pub results : List SessionResult
  pub legal : Legal (dataset_of job) (base_of job) log
  pub owned : EntriesOwned job.clients log
  pub clients : AllAnswered (dataset_of job) (base_of job) log 1 (streams_of job) results
  pub roots : RootsAreJoined (dataset_of job) (base_of job) log
  pub leaves : LeavesAreJoined (dataset_of job) (base_of job) log
  pub ids : IdsStay (dataset_of job) (base_of job) log
  pub play : IsPlayOf (dataset_of job) (base_of job) log results job.clock []
  pub text_so : text ≡ log_summary (dataset_of job) (base_of job) log job.clients [] (reply_count results) (refusal_count results)

-- the line was printed, or the output failed and has a front of it
abbrev pub LinePrinted : Between SinkState → List ℕ → Status → Type 0
LinePrinted out text status =
    (Appends out.old.held out.new.held text × (out.new.faults ≡ out.old.faults) × (status ≡ statuses.Done)) ⊎ (AppendsFront out.old.held out.new.held text × Rose out.old.faults out.new.faults × (status ≡ statuses.WriteFault))

-- A trial stopped before its sessions, by this cause, with this fault line alone; or its summary was printed, unless the output failed.
abbrev pub TrialOutcome : TrialJob → Between SinkState → Status → Type 0
TrialOutcome job out status =
    ((stop : Stop) × (status ≡ status_of stop) × TrialStop job stop × Prints out.old out.new (stop_text stop)) ⊎ ((text : List ℕ) × IsTried job text × LinePrinted out text status)

-- what status 0 promises: just the summary was printed
abbrev pub IsTrialDone : TrialJob → Between SinkState → Type 0
IsTrialDone job out = (text : List ℕ) × IsTried job text × Appends out.old.held out.new.held text

-- the made base's records can't be had
abbrev pub HasFullTrial : TrialJob → Type 0
HasFullTrial job = (e : BuildError) × IsFullFor job e

-- what a status tells
abbrev pub TrialTells : TrialJob → Between SinkState → Status → Type 0
TrialTells job out status =
    (status ≡ statuses.Done) ⊎ (status ≡ statuses.NoMemory) ⊎ ((status ≡ statuses.WriteFault) × Rose out.old.faults out.new.faults) ⊎ ((status ≡ statuses.Full) × HasFullTrial job)
