-- Which values a job may have.
use Rattle.std.specs.Prelude.{◌≤◌, ◌<◌, ◌^◌, ◌-◌, ◌*◌, ℕ, Bool, true, ◌&&◌, not, List, [], ◌∷◌, ◌++◌, length, codes, bytes_eq, IsTrue, Option, option_to_list, None}
use Rattle.std.specs.List.{list_any}
use Rattle.chunk_geometry.specs.Cells.{Cells}
use Rattle.pcg_base.specs.declared.clock.Ticks.{Ticks}
use Rattle.pcg_words.specs.declared.job.MakeJob.{MakeJob}
use Rattle.pcg_words.specs.declared.job.RehearseJob.{RehearseJob}
use Rattle.pcg_words.specs.declared.job.TrialJob.{TrialJob}

-- the files of a client: its requests and its answers
abbrev pub request_file : List ℕ → List ℕ
request_file stem = stem ++ codes ".req"

abbrev pub answer_file : List ℕ → List ℕ
answer_file stem = stem ++ codes ".ans"

unfoldable pub client_files : List (List ℕ) → List (List ℕ)
client_files [] = []
client_files (stem ∷ stems) = request_file stem ∷ answer_file stem ∷ client_files stems

-- whether no two of the texts are equal
unfoldable pub all_differ : List (List ℕ) → Bool
all_differ [] = true
all_differ (text ∷ texts) = not (list_any (bytes_eq text) texts) && all_differ texts

-- the names of all files of a job: the tables, the schedule, and each client's two files
unfoldable pub file_names : List ℕ → List ℕ → Option (List ℕ) → List (List ℕ) → List (List ℕ)
file_names supervoxels edges schedule stems = supervoxels ∷ edges ∷ (option_to_list schedule ++ client_files stems)

-- a number of chunks along an axis, where coordinates have so many bits
abbrev pub IsAxis : ℕ → ℕ → Type 0
IsAxis bits n = (1 ≤ n) × (n ≤ 65536) × (n ≤ 2 ^ bits)

-- how many supervoxels the grid has room for
unfoldable pub most_supervoxels : ℕ → Cells → ℕ
most_supervoxels bits grid = grid.x * grid.y * grid.z * (2 ^ (56 - 3 * bits) - 1)

-- the bits of coordinates, and a grid of them
pub record HasPlace (bits : ℕ) (grid : Cells) : Type 0 where
  pub fits : (1 ≤ bits) × (bits ≤ 16)
  pub x : IsAxis bits grid.x
  pub y : IsAxis bits grid.y
  pub z : IsAxis bits grid.z

-- the affinity of an edge that a merge adds
abbrev pub IsAffinity : ℕ → Type 0
IsAffinity n = (1 ≤ n) × (n < 2 ^ 32)

-- how many records a store holds
abbrev pub IsRoom : ℕ → Type 0
IsRoom n = (2 ≤ n) × (n ≤ 16777216)

-- what a clock answers
abbrev pub IsClock : Ticks → Type 0
IsClock clock = (clock.start < 2 ^ 62) × (clock.step < 2 ^ 62)

-- how many supervoxels are made
abbrev pub IsSize : ℕ → Cells → ℕ → Type 0
IsSize bits grid n = (1 ≤ n) × (n ≤ 1000000) × (n ≤ most_supervoxels bits grid)

-- the stems of 1 to 64 clients
abbrev pub HasStems : List (List ℕ) → Type 0
HasStems stems = (1 ≤ length stems) × (length stems ≤ 64)

-- the numbers of a rehearsal are in their ranges
pub record RehearseRanges (job : RehearseJob) : Type 0 where
  pub place : HasPlace job.bits job.grid
  pub merge_affinity : IsAffinity job.merge_affinity
  pub records : IsRoom job.records
  pub clock : IsClock job.clock
  pub stems : HasStems job.stems

-- the names of all files of a rehearsal
abbrev pub rehearse_files : RehearseJob → List (List ℕ)
rehearse_files job = file_names job.supervoxels job.edges job.schedule job.stems

-- the values of a rehearsal are in their ranges, and no two of its files have one name
pub record IsRehearse (job : RehearseJob) : Type 0 where
  pub ranges : RehearseRanges job
  pub names : IsTrue (all_differ (rehearse_files job))

-- the numbers of a job of `make` are in their ranges
pub record MakeRanges (job : MakeJob) : Type 0 where
  pub place : HasPlace job.bits job.grid
  pub size : IsSize job.bits job.grid job.size
  pub requests : job.requests ≤ 100000
  pub stems : HasStems job.stems

-- the names of its files, and those of the answers that its stems stand for
abbrev pub make_files : MakeJob → List (List ℕ)
make_files job = file_names job.supervoxels job.edges None job.stems

-- the values of a job of `make` are in their ranges, and no two of its files have one name
pub record IsMake (job : MakeJob) : Type 0 where
  pub ranges : MakeRanges job
  pub names : IsTrue (all_differ (make_files job))

-- the values of a trial are in their ranges; it has no files
pub record IsTrial (job : TrialJob) : Type 0 where
  pub place : HasPlace job.bits job.grid
  pub merge_affinity : IsAffinity job.merge_affinity
  pub records : IsRoom job.records
  pub clock : IsClock job.clock
  pub size : IsSize job.bits job.grid job.size
  pub requests : job.requests ≤ 100000
  pub clients : (1 ≤ job.clients) × (job.clients ≤ 64)
