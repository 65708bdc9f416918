-- Inner: no clause of `run` is made of it.
-- What a trial begins with, and its sessions once they were played.
use Rattle.std.specs.Prelude.{◌≡◌, ◌≤◌, ◌<◌, ◌*◌, ◌+◌, ◌^◌, ⊤, ℕ, List, [], ◌∷◌, length, map}
use Rattle.op_model.specs.declared.base.Dataset.{Dataset}
use Rattle.op_model.specs.declared.base.Base.{Base}
use Rattle.op_model.specs.declared.entry.Entry.{Entry}
use Rattle.op_model.specs.Ingest.{ingested}
use Rattle.record_rows.specs.Readings.{Image}
use Rattle.histories.specs.Histories.{EntriesOwned}
use Rattle.hierarchy_build.specs.declared.errors.BuildError.{BuildError}
use Rattle.pcg_base.specs.declared.clock.Ticks.{Ticks}
use Rattle.pcg_base.specs.declared.reading.StreamEnd.TheVariants as ends
use Rattle.pcg_words.specs.declared.job.TrialJob.{TrialJob}
use Rattle.request_lines.specs.Lines.{lines_of}
use Rattle.stream_lines.specs.declared.reading.StreamLines.{StreamLines}
use Rattle.stream_lines.specs.Streams.{AreTexts}
use Rattle.job_tables.specs.Inputs.{clock_time}
use Rattle.session_results.specs.declared.playing.SessionsDone.{SessionsDone}
use Rattle.session_results.specs.Results.{SessionResult, refusal_count, reply_count}
use Rattle.rehearsal.specs.History.{IsPlayOf}
use Rattle.trials.specs.declared.starting.Start.{Start}
use Rattle.trials.specs.Trials.{AllAnswered, IsFullFor, base_of, dataset_of, streams_of}

-- the lines of a text that was read to its end
pub record IsWhole (text : List ℕ) (r : StreamLines) : Type 0 where
  pub lines : AreTexts r.lines.items (lines_of text)
  pub ending : r.end ≡ ends.Whole
  pub few : length r.lines.items < 2 ^ 32
  pub short : length text ≤ 2 ^ 30

-- the same of each text
abbrev pub AreWhole : List (List ℕ) → List StreamLines → Type 0
AreWhole [] [] = ⊤
AreWhole (text ∷ texts) (r ∷ rs) = IsWhole text r × AreWhole texts rs
AreWhole texts rs = ⊥

-- what a trial begins with
pub record IsStarted (job : TrialJob) (s : Start) : Type 0 where
  pub fits : (e : BuildError) → IsFullFor job e → ⊥
  pub dataset : s.dataset ≡ dataset_of job
  pub image : Image (dataset_of job) (base_of job) (ingested (dataset_of job) (base_of job) (clock_time job.clock 0)) s.words.words
  pub room : 8 * job.records ≤ length s.words.words + s.words.spare
  pub streams : map (λ v. v.items) s.streams.items ≡ streams_of job

-- the sessions over these streams were played by no schedule, and none ended in a fault
pub record ArePlayed (d : Dataset) (b : Base) (clock : Ticks) (streams : List (List ℕ)) (done : SessionsDone) : Type 0 where
  pub log : List Entry
  pub image : Image d b log done.words.words
  pub owned : EntriesOwned (length streams) log
  pub results : List SessionResult
  pub clients : AllAnswered d b log 1 streams results
  pub play : IsPlayOf d b log results clock []
  pub faults_so : done.faults.items ≡ []
  pub lines : done.lines ≡ reply_count results
  pub refused : done.refused ≡ refusal_count results
