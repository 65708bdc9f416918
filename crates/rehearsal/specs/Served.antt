-- Inner: no clause of `run` is made of it.
-- What the clients' files and the played sessions come to together.
use Rattle.std.specs.Prelude.{◌≡◌, ℕ, List, length, None, false}
use Rattle.std.specs.List.{AllByRecursion}
use Rattle.pcg_base.specs.States.{PlaceState}
use Rattle.op_model.specs.declared.base.Dataset.{Dataset}
use Rattle.op_model.specs.declared.base.Base.{Base}
use Rattle.op_model.specs.declared.entry.Entry.{Entry}
use Rattle.pcg_base.specs.declared.clock.Ticks.{Ticks}
use Rattle.record_rows.specs.Readings.{Image}
use Rattle.histories.specs.Histories.{EntriesOwned}
use Rattle.hierarchy_build.specs.declared.errors.BuildError.{BuildError}
use Rattle.hierarchy_build.specs.Built.{IsFull}
use Rattle.pcg_words.specs.declared.job.RehearseJob.{RehearseJob}
use Rattle.job_tables.specs.Inputs.{HasBase, HasSchedule, dataset_of}
use Rattle.job_tables.specs.Stops.{AllRead}
use Rattle.session_results.specs.declared.playing.SessionsDone.{SessionsDone}
use Rattle.session_results.specs.Results.{SessionResult, faults_from, refusal_count, reply_count}
use Rattle.rehearsal.specs.Clients.{AllClients, broke}
use Rattle.rehearsal.specs.History.{IsPlayOf}

-- one history stands behind the sessions of clients with these stems, and its records are in the words
pub record AreServed (d : Dataset) (b : Base) (clock : Ticks) (schedule : List ℕ) (stems : List (List ℕ)) (old new : PlaceState) (done : SessionsDone) : Type 0 where
  pub log : List Entry
  pub image : Image d b log done.words.words
  pub owned : EntriesOwned (length stems) log
  pub results : List SessionResult
  pub clients : AllClients d b log old new 1 stems results
  pub reads : AllByRecursion (λ r. broke r.ending ≡ false) results → new.reads ≡ old.reads
  pub writes : AllByRecursion (λ r. r.last ≡ None) results → new.writes ≡ old.writes
  pub play : IsPlayOf d b log results clock schedule
  pub faults_so : done.faults.items ≡ faults_from 1 results
  pub lines : done.lines ≡ reply_count results
  pub refused : done.refused ≡ refusal_count results

-- what was read spells a base and a schedule, and the clients were served over it
pub record IsServed (job : RehearseJob) (old new : PlaceState) (done : SessionsDone) : Type 0 where
  pub base : Base
  pub has_base : HasBase old.files job base
  pub fits : (e : BuildError) → IsFull (dataset_of job) base e → ⊥
  pub schedule : List ℕ
  pub has_schedule : HasSchedule old.files job schedule
  pub read : AllRead old.files new.left job
  pub served : AreServed (dataset_of job) base job.clock schedule job.stems old new done
