-- Which status a job's input asks for, and what each status tells.
use Rattle.std.specs.Prelude.{◌≡◌, ◌⊎◌, ℕ, List, slice_get, Option, Some, None}
use Rattle.op_model.specs.declared.base.Base.{Base}
use Rattle.hierarchy_build.specs.declared.errors.BuildError.{BuildError}
use Rattle.pcg_base.specs.Causes.{Rose}
use Rattle.pcg_base.specs.States.{PlaceState, SinkState}
use Rattle.pcg_base.specs.Told.{Files, IsLongerAt}
use Rattle.pcg_words.specs.declared.job.RehearseJob.{RehearseJob}
use Rattle.table_ingest.specs.declared.errors.Table.{Table}
use Rattle.table_ingest.specs.declared.errors.Cause.{Cause}
use Rattle.job_tables.specs.Inputs.{HasBadWord, HasBase, HasFault, HasSchedule, HasText, IsFullSo, limit}
use Rattle.job_tables.specs.Stops.{ScheduleLong}
use Rattle.call_lines.specs.declared.status.Status.{Status}
use Rattle.call_lines.specs.declared.status.Status.TheVariants as statuses
use Rattle.rehearsal.specs.Between.{Between}
use Rattle.rehearsal.specs.Outcomes.{requests_of}

-- a record of a table has a cause
abbrev pub HasBadTable : Option Files → RehearseJob → Type 0
HasBadTable m job = (table : Table) × (row : ℕ) × (cause : Cause) × HasFault m job table row cause

-- the tables spell a base, and the schedule has a word that is no client's number
abbrev pub HasBadSchedule : Option Files → RehearseJob → Type 0
HasBadSchedule m job = ((b : Base) × HasBase m job b) × (word : ℕ) × HasBadWord m job word

-- the schedule names clients, and the tables spell a base whose records can't be had
abbrev pub HasFullBase : Option Files → RehearseJob → Type 0
HasFullBase m job = ((numbers : List ℕ) × HasSchedule m job numbers) × (e : BuildError) × IsFullSo m job e

-- The supervoxels are too long, or they are not and the edges are, or both are not and the schedule is.
abbrev pub HasLongText : Option Files → RehearseJob → Type 0
HasLongText m job =
    IsLongerAt m job.supervoxels limit
    ⊎ ((bytes : List ℕ) × HasText m job.supervoxels bytes × (IsLongerAt m job.edges limit ⊎ ((more : List ℕ) × HasText m job.edges more × ScheduleLong m job.schedule)))

-- a client's requests are longer than a stream may be
abbrev pub HasLongStream : Option Files → RehearseJob → Type 0
HasLongStream m job = (k : ℕ) × (name : List ℕ) × (slice_get (requests_of job) k ≡ Some name) × IsLongerAt m name limit

-- where the place tells its bytes, the status that the tables and the schedule ask for, unless a fault or want of memory comes first
abbrev pub IsDue : Option Files → RehearseJob → Status → Type 0
IsDue None job status = ⊥
IsDue (Some m) job status =
    ((status ≡ statuses.BadInput) × (¬ (HasLongText (Some m) job)) × (HasBadTable (Some m) job ⊎ HasBadSchedule (Some m) job))
    ⊎ ((status ≡ statuses.TooLong) × HasLongText (Some m) job)
    ⊎ ((status ≡ statuses.Full) × HasFullBase (Some m) job)

-- What a status that isn't 0 or 5 tells.
abbrev pub Tells : RehearseJob → Between PlaceState → Between SinkState → Status → Type 0
Tells job place out status =
    (status ≡ statuses.Done) ⊎ (status ≡ statuses.NoMemory)
    ⊎ ((status ≡ statuses.ReadFault) × Rose place.old.reads place.new.reads)
    ⊎ ((status ≡ statuses.BadInput) × (HasBadTable place.old.files job ⊎ HasBadSchedule place.old.files job))
    ⊎ ((status ≡ statuses.WriteFault) × (Rose place.old.writes place.new.writes ⊎ Rose out.old.faults out.new.faults))
    ⊎ ((status ≡ statuses.Full) × HasFullBase place.old.files job)
    ⊎ ((status ≡ statuses.TooLong) × (HasLongText place.old.files job ⊎ HasLongStream place.old.files job))

-- no count rose
abbrev pub IsQuiet : Between PlaceState → Between SinkState → Type 0
IsQuiet place out = (¬ (Rose place.old.reads place.new.reads)) × (¬ (Rose place.old.writes place.new.writes)) × (¬ (Rose out.old.faults out.new.faults))

-- the input is of its form: tables, schedule and streams within their limits, and numbers and records enough
pub record IsFine (m : Option Files) (job : RehearseJob) : Type 0 where
  pub texts : ¬ (HasLongText m job)
  pub streams : ¬ (HasLongStream m job)
  pub tables : ¬ (HasBadTable m job)
  pub schedule : ¬ (HasBadSchedule m job)
  pub base : ¬ (HasFullBase m job)
