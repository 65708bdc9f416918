-- What a job's tables and its schedule spell.
use Rattle.std.specs.Prelude.{◌≡◌, ◌≤◌, ◌<◌, ◌+◌, ◌*◌, ◌-◌, ◌^◌, min, ⊤, ℕ, List, [], length, Option, Some, None, Ok, Err}
use Rattle.std.specs.List.{AllByRecursion}
use Rattle.std.specs.FinMap.{get}
use Rattle.chunk_geometry.specs.Cells.{Cells}
use Rattle.op_model.specs.declared.base.Dataset.{Dataset}
use Rattle.op_model.specs.declared.base.Base.{Base}
use Rattle.op_model.specs.Ingest.{ingested}
use Rattle.record_rows.specs.Readings.{Image}
use Rattle.hierarchy_build.specs.declared.errors.BuildError.{BuildError}
use Rattle.hierarchy_build.specs.Built.{IsFull}
use Rattle.pcg_base.specs.declared.clock.Ticks.{Ticks}
use Rattle.pcg_base.specs.Told.{Files}
use Rattle.pcg_words.specs.declared.job.RehearseJob.{RehearseJob}
use Rattle.schedules.specs.Schedules.{schedule_of}
use Rattle.table_ingest.specs.Bases.{Faulty, Spells}
use Rattle.table_ingest.specs.declared.errors.Table.{Table}
use Rattle.table_ingest.specs.declared.errors.Cause.{Cause}
use Rattle.job_tables.specs.declared.tables.JobBase.{JobBase}

-- the dataset of these values of words
unfoldable pub dataset_with : ℕ → Cells → ℕ → ℕ → Dataset
dataset_with bits grid affinity records = record {
  layout = record { version = 1; bits = bits };
  grid = grid;
  merge_affinity = affinity;
  capacity = records;
}

-- the dataset of a job
unfoldable pub dataset_of : RehearseJob → Dataset
dataset_of job = dataset_with job.bits job.grid job.merge_affinity job.records

-- the n-th time that a clock tells, counted from 0, cut down to 2^62 - 1
abbrev pub clock_time : Ticks → ℕ → ℕ
clock_time clock n = min (clock.start + clock.step * n) (2 ^ 62 - 1)

-- how many bytes a table, and the schedule, may have
abbrev pub limit : ℕ
limit = 1073741824

-- where the place tells its bytes, the text at this name has these, no more than it may have
abbrev pub HasText : Option Files → List ℕ → List ℕ → Type 0
HasText None name bytes = ⊤
HasText (Some m) name bytes = (get m name ≡ Some bytes) × (length bytes ≤ limit)

-- the place has these two tables, and neither is too long
abbrev pub TablesAre : Files → RehearseJob → List ℕ → List ℕ → Type 0
TablesAre m job supervoxels edges = HasText (Some m) job.supervoxels supervoxels × HasText (Some m) job.edges edges

-- where the place tells its bytes, its tables spell this base
abbrev pub HasBase : Option Files → RehearseJob → Base → Type 0
HasBase None job base = ⊤
HasBase (Some m) job base = (supervoxels edges : List ℕ) × TablesAre m job supervoxels edges × Spells (dataset_of job) supervoxels edges base

-- where the place tells its bytes, this record of this table is the first one of its tables with a cause, and this is its first cause
abbrev pub HasFault : Option Files → RehearseJob → Table → ℕ → Cause → Type 0
HasFault None job table row cause = ⊤
HasFault (Some m) job table row cause = (supervoxels edges : List ℕ) × TablesAre m job supervoxels edges × Faulty (dataset_of job) supervoxels edges table row cause

-- its tables spell a base whose records can't be had, for this reason
abbrev pub IsFullSo : Option Files → RehearseJob → BuildError → Type 0
IsFullSo m job e = (b : Base) × HasBase m job b × IsFull (dataset_of job) b e

-- where the place tells its bytes, the schedule at this name names these clients
abbrev pub NamesClients : Option Files → RehearseJob → Option (List ℕ) → List ℕ → Type 0
NamesClients files job None numbers = numbers ≡ []
NamesClients None job (Some name) numbers = ⊤
NamesClients (Some m) job (Some name) numbers = (text : List ℕ) × HasText (Some m) name text × (schedule_of (length job.stems) text ≡ Ok numbers)

-- where the place tells its bytes, the job's schedule names these clients; without a schedule none is named
abbrev pub HasSchedule : Option Files → RehearseJob → List ℕ → Type 0
HasSchedule files job numbers = NamesClients files job job.schedule numbers

-- where the place tells its bytes, this word of the schedule is the first that is no client's number
abbrev pub NamesNone : Option Files → RehearseJob → Option (List ℕ) → ℕ → Type 0
NamesNone files job None word = ⊥
NamesNone None job (Some name) word = ⊤
NamesNone (Some m) job (Some name) word = (text : List ℕ) × HasText (Some m) name text × (schedule_of (length job.stems) text ≡ Err word)

-- where the place tells its bytes, this word of the job's schedule is the first that is no client's number
abbrev pub HasBadWord : Option Files → RehearseJob → ℕ → Type 0
HasBadWord files job word = NamesNone files job job.schedule word

-- What was read: the words of the first entry of a base that the tables spell, at the clock's first time, with room for the records of the capacity; and the clients that the schedule names.
pub record IsRead (files : Option Files) (job : RehearseJob) (r : JobBase) : Type 0 where
  pub base : Base
  pub has_base : HasBase files job base
  pub fits : (e : BuildError) → IsFull (dataset_of job) base e → ⊥
  pub dataset : r.dataset ≡ dataset_of job
  pub image : Image (dataset_of job) base (ingested (dataset_of job) base (clock_time job.clock 0)) r.words.words
  pub room : 8 * job.records ≤ length r.words.words + r.words.spare
  pub schedule : HasSchedule files job r.schedule.items
  pub numbers : AllByRecursion (λ n. (0 < n) × (n ≤ length job.stems)) r.schedule.items
