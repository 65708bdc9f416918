-- Which words are a job, and which job they spell.
use Rattle.std.specs.Prelude.{◌-◌, ◌^◌, ℕ, ◌&&◌, nat_le, if◌then◌else◌, List, [], ◌∷◌, map, length, codes, bytes_eq, true, false, Option, Some, None, option_map, option_and_then, Vec}
use Rattle.std.specs.List.{list_all}
use Rattle.std.specs.Option.{option_map_or}
use Rattle.std.specs.Str.{is_utf8}
use Rattle.std.specs.declared.alloc.Global.{Global}
use Rattle.chunk_geometry.specs.Cells.{Cells}
use Rattle.node_ids.specs.Digits.{number_of}
use Rattle.option_words.specs.Grammar.{Known, Line, Text, line_of, only_if}
use Rattle.pcg_base.specs.Cutting.{cut_at}
use Rattle.pcg_base.specs.declared.clock.Ticks.{Ticks}
use Rattle.pcg_words.specs.declared.job.MakeJob.{MakeJob}
use Rattle.pcg_words.specs.declared.job.RehearseJob.{RehearseJob}
use Rattle.pcg_words.specs.declared.job.TrialJob.{TrialJob}
use Rattle.pcg_words.specs.declared.job.Job.{Job}
use Rattle.pcg_words.specs.declared.job.Job.TheVariants as job
use Rattle.pcg_words.specs.Job.{IsMake, IsRehearse, IsTrial, all_differ, make_files, most_supervoxels, rehearse_files}

infixl 10 ◌>>=◌
abbrev pub ◌>>=◌ : {A B : Type 0} → Option A → (A → Option B) → Option B
o >>= f = option_and_then f o

-- ---- values

-- a number from low to high
unfoldable pub number_within : ℕ → ℕ → List ℕ → Option ℕ
number_within low high text = number_of text >>= only_if (λ n. nat_le low n && nat_le n high)

-- three numbers of chunks, each from 1 to as many as the coordinate's bits allow
unfoldable pub grid_of : ℕ → List ℕ → Option Cells
grid_of bits text = do
  first ← cut_at 44 text
  second ← cut_at 44 first.1
  x ← number_within 1 (2 ^ bits) first.0
  y ← number_within 1 (2 ^ bits) second.0
  z ← number_within 1 (2 ^ bits) second.1
  Some (record { x = x; y = y; z = z })

-- two numbers of milliseconds below 2 ^ 62
unfoldable pub ticks_of : List ℕ → Option Ticks
ticks_of text = do
  parts ← cut_at 44 text
  start ← number_within 0 (2 ^ 62 - 1) parts.0
  step ← number_within 0 (2 ^ 62 - 1) parts.1
  Some (record { start = start; step = step })

-- ---- values of options

-- the number that an option gives
unfoldable pub number_in : Line → Text → ℕ → ℕ → Option ℕ
number_in line name low high = line.value name >>= number_within low high

-- how many bits of an id a coordinate takes
abbrev pub bits_in : Line → Option ℕ
bits_in line = number_in line (codes "bits") 1 16

unfoldable pub grid_in : Line → ℕ → Option Cells
grid_in line bits = line.value (codes "grid") >>= grid_of bits

unfoldable pub clock_in : Line → Option Ticks
clock_in line = line.value (codes "clock") >>= ticks_of

abbrev pub affinity_in : Line → Option ℕ
affinity_in line = number_in line (codes "merge-affinity") 1 (2 ^ 32 - 1)

-- how many records the words give, which they may leave out
unfoldable pub records_in : Line → Option ℕ
records_in line = option_map_or (number_within 2 16777216) (line.value (codes "records")) (Some 1048576)

-- how many supervoxels the words ask for
unfoldable pub size_in : Line → ℕ → Cells → Option ℕ
size_in line bits grid = number_in line (codes "size") 1 1000000 >>= only_if (λ n. nat_le n (most_supervoxels bits grid))

-- the stems, 1 to 64
unfoldable pub stems_in : Line → Option (List Text)
stems_in line = only_if (λ stems. nat_le 1 (length stems) && nat_le (length stems) 64) line.stems

-- ---- modes

-- an option that has to stand, and one that may be left out
abbrev pub required : Text → Known
required name = (name, true)

abbrev pub optional : Text → Known
optional name = (name, false)

unfoldable pub rehearse_options : List Known
rehearse_options =
    required (codes "bits") ∷ required (codes "grid") ∷ required (codes "supervoxels") ∷ required (codes "edges")
    ∷ required (codes "merge-affinity") ∷ optional (codes "records") ∷ required (codes "clock") ∷ optional (codes "schedule") ∷ []

-- the rehearsal that the values of a line spell, before its files are compared
unfoldable pub rehearse_in : Line → Option RehearseJob
rehearse_in line = do
  bits ← bits_in line
  grid ← grid_in line bits
  supervoxels ← line.value (codes "supervoxels")
  edges ← line.value (codes "edges")
  merge_affinity ← affinity_in line
  records ← records_in line
  clock ← clock_in line
  stems ← stems_in line
  Some (record { bits = bits; grid = grid; supervoxels = supervoxels; edges = edges; merge_affinity = merge_affinity; records = records; clock = clock; schedule = line.value (codes "schedule"); stems = stems })

unfoldable pub make_options : List Known
make_options =
    required (codes "bits") ∷ required (codes "grid") ∷ required (codes "supervoxels") ∷ required (codes "edges")
    ∷ required (codes "from") ∷ required (codes "size") ∷ required (codes "requests") ∷ []

-- the same of `make`
unfoldable pub make_in : Line → Option MakeJob
make_in line = do
  bits ← bits_in line
  grid ← grid_in line bits
  supervoxels ← line.value (codes "supervoxels")
  edges ← line.value (codes "edges")
  from ← number_in line (codes "from") 0 (2 ^ 64 - 1)
  size ← size_in line bits grid
  requests ← number_in line (codes "requests") 0 100000
  stems ← stems_in line
  Some (record { bits = bits; grid = grid; supervoxels = supervoxels; edges = edges; from = from; size = size; requests = requests; stems = stems })

unfoldable pub trial_options : List Known
trial_options =
    required (codes "bits") ∷ required (codes "grid") ∷ required (codes "merge-affinity") ∷ optional (codes "records") ∷ required (codes "clock")
    ∷ required (codes "from") ∷ required (codes "size") ∷ required (codes "requests") ∷ required (codes "clients") ∷ []

-- the trial that the values of a line spell
unfoldable pub trial_in : Line → Option TrialJob
trial_in line = do
  bits ← bits_in line
  grid ← grid_in line bits
  merge_affinity ← affinity_in line
  records ← records_in line
  clock ← clock_in line
  from ← number_in line (codes "from") 0 (2 ^ 64 - 1)
  size ← size_in line bits grid
  requests ← number_in line (codes "requests") 0 100000
  clients ← number_in line (codes "clients") 1 64
  Some (record { bits = bits; grid = grid; merge_affinity = merge_affinity; records = records; clock = clock; from = from; size = size; requests = requests; clients = clients })

-- the job that the words after the mode spell
unfoldable pub rehearse_of : List Text → Option Job
rehearse_of words = option_map job.Rehearse (line_of rehearse_options true words >>= rehearse_in >>= only_if (λ job. all_differ (rehearse_files job)))

unfoldable pub make_of : List Text → Option Job
make_of words = option_map job.Make (line_of make_options true words >>= make_in >>= only_if (λ job. all_differ (make_files job)))

-- a trial has no stems
unfoldable pub trial_of : List Text → Option Job
trial_of words = option_map job.Trial (line_of trial_options false words >>= trial_in)

-- ---- words

-- the job that texts spell, of which the first is the mode
unfoldable pub mode_of : List Text → Option Job
mode_of [] = None
mode_of (mode ∷ words) =
    if bytes_eq mode (codes "rehearse") then rehearse_of words
    else (if bytes_eq mode (codes "make") then make_of words
    else (if bytes_eq mode (codes "trial") then trial_of words else None))

-- the job that the words spell; all of them are UTF-8
unfoldable pub job_of : List (Vec ℕ Global) → Option Job
job_of words = only_if (list_all is_utf8) (map (λ w. w.items) words) >>= mode_of

-- the values of a job of any mode are what that mode asks for
abbrev pub MeetsMode : Job → Type 0
MeetsMode (job.Rehearse found) = IsRehearse found
MeetsMode (job.Make found) = IsMake found
MeetsMode (job.Trial found) = IsTrial found
