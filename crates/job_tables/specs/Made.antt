-- Inner: no clause of `run` is made of it.
-- The texts of a job, and what they make.
use Rattle.std.specs.Prelude.{◌≡◌, ◌≢◌, ◌≤◌, ◌*◌, ◌+◌, ⊤, ℕ, List, [], length, Option, Some, None, Ok, Err, option_map}
use Rattle.op_model.specs.declared.base.Base.{Base}
use Rattle.op_model.specs.Ingest.{ingested}
use Rattle.record_rows.specs.Readings.{Image}
use Rattle.hierarchy_build.specs.declared.errors.BuildError.{BuildError}
use Rattle.hierarchy_build.specs.declared.errors.BuildError.TheVariants as builds
use Rattle.hierarchy_build.specs.Built.{IsFull}
use Rattle.pcg_base.specs.States.{PlaceState}
use Rattle.pcg_base.specs.Told.{Files}
use Rattle.pcg_words.specs.declared.job.RehearseJob.{RehearseJob}
use Rattle.schedules.specs.Schedules.{schedule_of}
use Rattle.schedules.specs.declared.reading.ScheduleError.{ScheduleError}
use Rattle.schedules.specs.declared.reading.ScheduleError.TheVariants as words
use Rattle.table_ingest.specs.Bases.{Faulty, Spells}
use Rattle.table_ingest.specs.declared.errors.Table.{Table}
use Rattle.table_ingest.specs.declared.errors.Cause.{Cause}
use Rattle.table_ingest.specs.declared.errors.TableError.{TableError}
use Rattle.table_ingest.specs.declared.errors.TableError.TheVariants as tables
use Rattle.call_lines.specs.declared.stops.FileName.TheVariants as files
use Rattle.call_lines.specs.declared.stops.Stop.{Stop}
use Rattle.call_lines.specs.declared.stops.Stop.TheVariants as stops
use Rattle.job_tables.specs.declared.tables.JobBase.{JobBase}
use Rattle.job_tables.specs.declared.texts.Tables.{Tables}
use Rattle.job_tables.specs.declared.texts.Texts.{Texts}
use Rattle.job_tables.specs.Inputs.{HasText, clock_time, dataset_of, limit}
use Rattle.job_tables.specs.Stops.{TextStop}

-- where the place tells its bytes, both tables have these texts
abbrev pub AreTables : Option Files → RehearseJob → Tables → Type 0
AreTables files job t = HasText files job.supervoxels t.supervoxels.items × HasText files job.edges t.edges.items

-- where the place tells its bytes, the schedule has this text, if there is one
abbrev pub IsSchedule : Option Files → Option (List ℕ) → Option (List ℕ) → Type 0
IsSchedule files None None = ⊤
IsSchedule files None (Some text) = ⊥
IsSchedule files (Some name) None = ⊥
IsSchedule files (Some name) (Some text) = HasText files name text

-- a text that is there isn't too long
abbrev pub IsShort : Option (List ℕ) → Type 0
IsShort None = ⊤
IsShort (Some text) = length text ≤ limit

-- why the schedule wasn't read, if there is one
abbrev pub ScheduleStop : Option Files → Option (List ℕ) → PlaceState → PlaceState → Stop → Type 0
ScheduleStop m None old new stop = ⊥
ScheduleStop m (Some name) old new stop = TextStop m name files.Schedule old new stop

-- a name that isn't this one, if there is one
abbrev pub IsOther : Option (List ℕ) → List ℕ → Type 0
IsOther None name = ⊤
IsOther (Some other) name = name ≢ other

-- the text of a schedule, if there is one
abbrev pub schedule_text : Texts → Option (List ℕ)
schedule_text t = option_map (λ v. v.items) t.schedule

-- where the place tells its bytes, these are the texts of a job
pub record AreTexts (m : Option Files) (job : RehearseJob) (t : Texts) : Type 0 where
  pub both : AreTables m job t.tables
  pub third : IsSchedule m job.schedule (schedule_text t)
  pub short : IsShort (schedule_text t)

-- a schedule's text names these of so many clients; without one none is named
abbrev pub Named : ℕ → Option (List ℕ) → List ℕ → Type 0
Named clients None numbers = numbers ≡ []
Named clients (Some text) numbers = schedule_of clients text ≡ Ok numbers

-- this word of it is the first that is no client's number
abbrev pub NotNamed : ℕ → Option (List ℕ) → ℕ → Type 0
NotNamed clients None word = ⊥
NotNamed clients (Some text) word = schedule_of clients text ≡ Err word

-- Why texts make nothing: a record has a cause, or a word names no client, or a base's records can't be had, and this holds of it; or memory ran out.
abbrev pub StopsFor : (Table → ℕ → Cause → Type 0) → (ℕ → Type 0) → (BuildError → Type 0) → Stop → Type 0
StopsFor bad unnamed full (stops.BadTable table row cause) = bad table row cause
StopsFor bad unnamed full (stops.BadSchedule word) = unnamed word
StopsFor bad unnamed full (stops.IdsSpent layer x y z) = full (builds.IdsSpent layer x y z)
StopsFor bad unnamed full (stops.TooSmall need given) = full (builds.TooSmall need given)
StopsFor bad unnamed full stops.NoMemory = ⊤
StopsFor bad unnamed full stop = ⊥

-- for a record alone
abbrev pub StopsForTable : (Table → ℕ → Cause → Type 0) → Stop → Type 0
StopsForTable bad stop = StopsFor bad (λ word. ⊥) (λ error. ⊥) stop

-- for a word alone
abbrev pub StopsForWord : (ℕ → Type 0) → Stop → Type 0
StopsForWord unnamed stop = StopsFor (λ table row cause. ⊥) unnamed (λ error. ⊥) stop

-- for a base's records alone
abbrev pub StopsForRecords : (BuildError → Type 0) → Stop → Type 0
StopsForRecords full stop = StopsFor (λ table row cause. ⊥) (λ word. ⊥) full stop

-- what an error of the tables is told as
abbrev pub table_stop : TableError → Stop
table_stop (tables.Bad table row cause) = stops.BadTable table row cause
table_stop tables.NoMemory = stops.NoMemory

-- one of the schedule
abbrev pub word_stop : ScheduleError → Stop
word_stop (words.Bad word) = stops.BadSchedule word
word_stop words.NoMemory = stops.NoMemory

-- and one of a base's records
abbrev pub records_stop : BuildError → Stop
records_stop (builds.IdsSpent layer x y z) = stops.IdsSpent layer x y z
records_stop (builds.TooSmall need given) = stops.TooSmall need given
records_stop builds.NoMemory = stops.NoMemory

-- the tables of texts spell this base
abbrev pub TextsSpell : RehearseJob → Texts → Base → Type 0
TextsSpell job t b = Spells (dataset_of job) t.tables.supervoxels.items t.tables.edges.items b

-- what texts make
pub record IsMade (job : RehearseJob) (t : Texts) (r : JobBase) : Type 0 where
  pub base : Base
  pub spells : TextsSpell job t base
  pub fits : (e : BuildError) → IsFull (dataset_of job) base e → ⊥
  pub dataset : r.dataset ≡ dataset_of job
  pub image : Image (dataset_of job) base (ingested (dataset_of job) base (clock_time job.clock 0)) r.words.words
  pub room : 8 * job.records ≤ length r.words.words + r.words.spare
  pub named : Named (length job.stems) (schedule_text t) r.schedule.items

-- why they make nothing
abbrev pub MakesStop : RehearseJob → Texts → Stop → Type 0
MakesStop job t stop =
    StopsFor
    (λ table row cause. Faulty (dataset_of job) t.tables.supervoxels.items t.tables.edges.items table row cause)
    (λ word. NotNamed (length job.stems) (schedule_text t) word × ((b : Base) × TextsSpell job t b))
    (λ error. ((b : Base) × TextsSpell job t b × IsFull (dataset_of job) b error) × ((ns : List ℕ) × Named (length job.stems) (schedule_text t) ns))
    stop
