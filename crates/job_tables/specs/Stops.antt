-- Why a job's tables and schedule gave nothing to begin with.
use Rattle.std.specs.Prelude.{◌≡◌, ◌⊎◌, ⊤, ℕ, List, [], Option, Some, None}
use Rattle.op_model.specs.declared.base.Base.{Base}
use Rattle.pcg_base.specs.States.{PlaceState}
use Rattle.pcg_base.specs.Told.{Files, IsLongerAt}
use Rattle.pcg_words.specs.declared.job.RehearseJob.{RehearseJob}
use Rattle.hierarchy_build.specs.declared.errors.BuildError.TheVariants as builds
use Rattle.call_lines.specs.declared.stops.FileName.{FileName}
use Rattle.call_lines.specs.declared.stops.FileName.TheVariants as files
use Rattle.call_lines.specs.declared.stops.Stop.{Stop}
use Rattle.call_lines.specs.declared.stops.Stop.TheVariants as stops
use Rattle.job_files.specs.Places.{ReadRose}
use Rattle.job_tables.specs.Inputs.{HasBadWord, HasBase, HasFault, HasSchedule, HasText, IsFullSo, limit}

-- where the place tells its bytes, this text isn't too long, and the source that was kept back last at its name had nothing left: it was read whole
abbrev pub WasRead : Option Files → (List ℕ → List ℕ) → List ℕ → Type 0
WasRead None left name = ⊤
WasRead (Some m) left name = (left name ≡ []) × (bytes : List ℕ) × HasText (Some m) name bytes

-- both tables were
abbrev pub TablesRead : Option Files → (List ℕ → List ℕ) → RehearseJob → Type 0
TablesRead m left job = WasRead m left job.supervoxels × WasRead m left job.edges

-- the schedule was, if there is one
abbrev pub ScheduleRead : Option Files → (List ℕ → List ℕ) → Option (List ℕ) → Type 0
ScheduleRead m left None = ⊤
ScheduleRead m left (Some name) = WasRead m left name

-- all was
abbrev pub AllRead : Option Files → (List ℕ → List ℕ) → RehearseJob → Type 0
AllRead m left job = TablesRead m left job × ScheduleRead m left job.schedule

-- why a text at this name wasn't read
abbrev pub TextStop : Option Files → List ℕ → FileName → PlaceState → PlaceState → Stop → Type 0
TextStop m name file old new stop =
    ((stop ≡ stops.ReadFault 0 file) × ReadRose old new name) ⊎ ((stop ≡ stops.TooLong 0 file) × IsLongerAt m name limit) ⊎ (stop ≡ stops.NoMemory)

-- a count of reading rose beside the schedule's name, if there is one
abbrev pub ScheduleRose : PlaceState → PlaceState → Option (List ℕ) → Type 0
ScheduleRose old new None = ⊥
ScheduleRose old new (Some name) = ReadRose old new name

-- where the place tells its bytes, the schedule at this name has more of them than it may have
abbrev pub ScheduleLong : Option Files → Option (List ℕ) → Type 0
ScheduleLong m None = ⊥
ScheduleLong m (Some name) = IsLongerAt m name limit

-- Why a job's input gave nothing to begin with: the supervoxels are read before the edges, and both before the schedule. All are read before one is looked into, the tables first. The schedule is looked into before the base's records are made.
abbrev pub InputStop : RehearseJob → PlaceState → PlaceState → Stop → Type 0
InputStop job old new (stops.ReadFault client files.Supervoxels) = (client ≡ 0) × ReadRose old new job.supervoxels
InputStop job old new (stops.ReadFault client files.Edges) = (client ≡ 0) × ReadRose old new job.edges × WasRead old.files new.left job.supervoxels
InputStop job old new (stops.ReadFault client files.Schedule) = (client ≡ 0) × ScheduleRose old new job.schedule × TablesRead old.files new.left job
InputStop job old new (stops.TooLong client files.Supervoxels) = (client ≡ 0) × IsLongerAt old.files job.supervoxels limit
InputStop job old new (stops.TooLong client files.Edges) = (client ≡ 0) × IsLongerAt old.files job.edges limit × WasRead old.files new.left job.supervoxels
InputStop job old new (stops.TooLong client files.Schedule) = (client ≡ 0) × ScheduleLong old.files job.schedule × TablesRead old.files new.left job
InputStop job old new (stops.BadTable table row cause) = HasFault old.files job table row cause × AllRead old.files new.left job
InputStop job old new (stops.BadSchedule word) = HasBadWord old.files job word × ((b : Base) × HasBase old.files job b) × AllRead old.files new.left job
InputStop job old new (stops.IdsSpent layer x y z) = IsFullSo old.files job (builds.IdsSpent layer x y z) × ((ns : List ℕ) × HasSchedule old.files job ns) × AllRead old.files new.left job
InputStop job old new (stops.TooSmall need given) = IsFullSo old.files job (builds.TooSmall need given) × ((ns : List ℕ) × HasSchedule old.files job ns) × AllRead old.files new.left job
InputStop job old new stops.NoMemory = ⊤
InputStop job old new stop = ⊥
