-- What a place has at each name behind files that were kept back.
use Rattle.std.specs.Prelude.{◌≡◌, ◌≤◌, ⊤, ℕ, false, bytes_eq, List, slice_get, Option, Some, None}
use Rattle.std.specs.List.{AllByRecursion, list_any}
use Rattle.std.specs.FinMap.{get}
use Rattle.pcg_base.specs.Causes.{Rose, added}
use Rattle.pcg_base.specs.States.{PlaceState}
use Rattle.pcg_base.specs.Told.{Files, KeepsFiles, TellsTo}
use Rattle.job_files.specs.Places.{IsLater}

-- what is left of a source, and its faults, stand beside its name
pub record IsKeptIn (name : List ℕ) (source : Option (List ℕ) × ℕ) (old new : PlaceState) : Type 0 where
  pub left : TellsTo old.files source.0 (new.left name)
  pub faults : (new.counts name).source_faults ≡ added (old.counts name).source_faults source.1
  pub later : (old.counts name).source_faults ≤ (new.counts name).source_faults
  pub rose : 1 ≤ source.1 → Rose old.reads new.reads

-- what all sources that were kept back did to a place
pub record AreKeptIn (names : List (List ℕ)) (sources : List (Option (List ℕ) × ℕ)) (old new : PlaceState) : Type 0 where
  pub files : KeepsFiles old.files new.files
  pub writes : new.writes ≡ old.writes
  pub later : IsLater old new
  pub sinks : (name : List ℕ) → (new.counts name).sink_faults ≡ (old.counts name).sink_faults
  pub still : AllByRecursion (λ x. x.1 ≡ 0) sources → new.reads ≡ old.reads
  pub each : (k : ℕ) (name : List ℕ) (source : Option (List ℕ) × ℕ) → slice_get names k ≡ Some name → slice_get sources k ≡ Some source → IsKeptIn name source old new

-- where a place tells its bytes it still does, and of other names than these it has the same ones
abbrev pub KeepsOther : Option Files → List (List ℕ) → Option Files → Type 0
KeepsOther None names new = ⊤
KeepsOther (Some files) names None = ⊥
KeepsOther (Some files) names (Some files') = (name : List ℕ) → list_any (bytes_eq name) names ≡ false → get files' name ≡ get files name

-- where a place tells its bytes, a sink tells what it holds, and the file has it
abbrev pub IsAt : Option Files → Option Files → List ℕ → Option (List ℕ) → Type 0
IsAt None new name held = ⊤
IsAt (Some files) new name held = (bytes : List ℕ) × (files' : Files) × (held ≡ Some bytes) × (new ≡ Some files') × (get files' name ≡ Some bytes)

-- the bytes of a sink, and its faults, stand beside its name
pub record IsKeptOut (name : List ℕ) (sink : Option (List ℕ) × ℕ) (old new : PlaceState) : Type 0 where
  pub file : IsAt old.files new.files name sink.0
  pub faults : (new.counts name).sink_faults ≡ added (old.counts name).sink_faults sink.1
  pub later : (old.counts name).sink_faults ≤ (new.counts name).sink_faults
  pub rose : 1 ≤ sink.1 → Rose old.writes new.writes

-- what all sinks that were kept back did to a place
pub record AreKeptOut (names : List (List ℕ)) (sinks : List (Option (List ℕ) × ℕ)) (old new : PlaceState) : Type 0 where
  pub reads : new.reads ≡ old.reads
  pub later : IsLater old new
  pub left : (name : List ℕ) → new.left name ≡ old.left name
  pub sources : (name : List ℕ) → (new.counts name).source_faults ≡ (old.counts name).source_faults
  pub others : KeepsOther old.files names new.files
  pub still : AllByRecursion (λ x. x.1 ≡ 0) sinks → new.writes ≡ old.writes
  pub each : (k : ℕ) (name : List ℕ) (sink : Option (List ℕ) × ℕ) → slice_get names k ≡ Some name → slice_get sinks k ≡ Some sink → IsKeptOut name sink old new
