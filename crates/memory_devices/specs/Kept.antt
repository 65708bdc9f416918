-- Inner: no clause of `run` is made of it.
-- What a place in memory keeps beside each name.
use Rattle.std.specs.Prelude.{◌≡◌, ℕ, suc, zero, List, [], ◌∷◌, map, Bool, false, if◌then◌else◌, Option, Some, None, string_bytes, bytes_eq, count_by, String}
use Rattle.std.specs.FinMap.{from_entries}
use Rattle.std.specs.declared.alloc.Global.{Global}
use Rattle.memory_devices.specs.declared.kept.Kept.{Kept}
use Rattle.memory_devices.specs.declared.kept.MemFile.{MemFile}
use Rattle.memory_devices.specs.declared.mem_source.MemSource.{MemSource}
use Rattle.memory_devices.specs.Sources.{left_in}
use Rattle.pcg_base.specs.Told.{Files}

-- the map of some files, of which the first of a name counts
abbrev pub files_in : List MemFile → Files
files_in files = from_entries (map (λ f. (string_bytes f.name, f.bytes.items)) files)

abbrev pub map_of : List Kept → Files
map_of kept = files_in (map (λ k. k.file) kept)

abbrev pub name_of : Kept → List ℕ
name_of k = string_bytes k.file.name

-- the first entry of a name
abbrev pub entry_of : List ℕ → List Kept → Option Kept
entry_of name [] = None
entry_of name (k ∷ ks) = if bytes_eq (name_of k) name then Some k else entry_of name ks

-- the first entry of a name stands at an index
abbrev pub FirstAt : List ℕ → List Kept → ℕ → Type 0
FirstAt name [] i = ⊥
FirstAt name (k ∷ ks) zero = name_of k ≡ name
FirstAt name (k ∷ ks) (suc i) = (bytes_eq (name_of k) name ≡ false) × FirstAt name ks i

abbrev pub bytes_of : Option Kept → Option (List ℕ)
bytes_of None = None
bytes_of (Some k) = Some k.file.bytes.items

abbrev pub left_from : Option MemSource → List ℕ
left_from None = []
left_from (Some s) = left_in s

abbrev pub left_of : Option Kept → List ℕ
left_of None = []
left_of (Some k) = left_from k.left

abbrev pub source_faults_of : Option Kept → ℕ
source_faults_of None = 0
source_faults_of (Some k) = k.source_faults

abbrev pub sink_faults_of : Option Kept → ℕ
sink_faults_of None = 0
sink_faults_of (Some k) = k.sink_faults

abbrev pub opened_in_of : Option Kept → Bool
opened_in_of None = false
opened_in_of (Some k) = k.opened_in

abbrev pub opened_out_of : Option Kept → Bool
opened_out_of None = false
opened_out_of (Some k) = k.opened_out

-- which calls fail of a name's sources and sinks
pub record Fails : Type 0 where
  pub reads : List ℕ
  pub writes : List ℕ
  pub flushes : List ℕ

abbrev pub fails_of : Option Kept → Fails
fails_of None = record { reads = []; writes = []; flushes = [] }
fails_of (Some k) = record { reads = k.file.read_fails.items; writes = k.file.write_fails.items; flushes = k.file.flush_fails.items }

abbrev pub bytes_at : List ℕ → List Kept → Option (List ℕ)
bytes_at name kept = bytes_of (entry_of name kept)

abbrev pub left_at : List ℕ → List Kept → List ℕ
left_at name kept = left_of (entry_of name kept)

abbrev pub faults_in : List ℕ → List Kept → ℕ
faults_in name kept = source_faults_of (entry_of name kept)

abbrev pub faults_out : List ℕ → List Kept → ℕ
faults_out name kept = sink_faults_of (entry_of name kept)

abbrev pub was_in : List ℕ → List Kept → Bool
was_in name kept = opened_in_of (entry_of name kept)

abbrev pub was_out : List ℕ → List Kept → Bool
was_out name kept = opened_out_of (entry_of name kept)

abbrev pub fails_at : List ℕ → List Kept → Fails
fails_at name kept = fails_of (entry_of name kept)

-- a file that was never opened
abbrev pub unopened_file : MemFile → Kept
unopened_file f = record { file = f; left = None; source_faults = 0; sink_faults = 0; opened_in = false; opened_out = false }

-- how often a name was missed
abbrev pub times : List ℕ → List (String Global) → ℕ
times name missed = count_by (λ s. bytes_eq (string_bytes s) name) missed

-- the entries of all names are as before, but for this one's
abbrev pub Changes : List ℕ → Kept → List Kept → List Kept → Type 0
Changes name k old new = (n : List ℕ) → entry_of n new ≡ (if bytes_eq name n then Some k else entry_of n old)
