-- What calls do to a place, as clauses see it.
use Rattle.std.specs.Prelude.{◌≡◌, ◌≢◌, ◌≤◌, ◌⊎◌, ⊤, ℕ, List, [], ◌∷◌, ◌++◌, Option, Some, None}
use Rattle.std.specs.FinMap.{get}
use Rattle.pcg_base.specs.Causes.{Rose, added}
use Rattle.pcg_base.specs.States.{PlaceState}
use Rattle.pcg_base.specs.Told.{Counts, Files, KeepsFiles, PutsHeld, TellsTo, sinks_failed, sources_failed}

-- none of a name's counts fell
pub record IsLaterAt (old new : Counts) : Type 0 where
  pub source_openings : old.source_openings ≤ new.source_openings
  pub sink_openings : old.sink_openings ≤ new.sink_openings
  pub source_faults : old.source_faults ≤ new.source_faults
  pub sink_faults : old.sink_faults ≤ new.sink_faults

-- none of a place's counts fell
pub record IsLater (old new : PlaceState) : Type 0 where
  pub reads : old.reads ≤ new.reads
  pub writes : old.writes ≤ new.writes
  pub counts : (name : List ℕ) → IsLaterAt (old.counts name) (new.counts name)

-- nothing changed that clauses see
pub record IsSame (old new : PlaceState) : Type 0 where
  pub files : KeepsFiles old.files new.files
  pub left : (name : List ℕ) → new.left name ≡ old.left name
  pub reads : new.reads ≡ old.reads
  pub writes : new.writes ≡ old.writes
  pub counts : (name : List ℕ) → new.counts name ≡ old.counts name

-- the count of read faults rose, and beside this name that of failed openings for reading or of the faults of its sources
pub record ReadRose (old new : PlaceState) (name : List ℕ) : Type 0 where
  pub place : Rose old.reads new.reads
  pub here : Rose (old.counts name).source_openings (new.counts name).source_openings ⊎ Rose (old.counts name).source_faults (new.counts name).source_faults

-- the count of read faults rose, and beside this name that of the faults of its sources
pub record ReadBroke (old new : PlaceState) (name : List ℕ) : Type 0 where
  pub place : Rose old.reads new.reads
  pub here : Rose (old.counts name).source_faults (new.counts name).source_faults

-- the count of write faults rose, and beside this name that of the faults of its sinks
pub record WriteBroke (old new : PlaceState) (name : List ℕ) : Type 0 where
  pub place : Rose old.writes new.writes
  pub here : Rose (old.counts name).sink_faults (new.counts name).sink_faults

-- the count of write faults rose, and beside this name that of failed openings for writing
pub record WriteRose (old new : PlaceState) (name : List ℕ) : Type 0 where
  pub place : Rose old.writes new.writes
  pub here : Rose (old.counts name).sink_openings (new.counts name).sink_openings

-- where the place tells its bytes, the source that was kept back last at this name still had all of them: it was opened, and nothing was read
abbrev pub WasOpened : Option Files → (List ℕ → List ℕ) → List ℕ → Type 0
WasOpened None left name = ⊤
WasOpened (Some m) left name = get m name ≡ Some (left name)

-- where the place tells its bytes, the source that was kept back last at this name has an end of them left
abbrev pub WasBegun : Option Files → (List ℕ → List ℕ) → List ℕ → Type 0
WasBegun None left name = ⊤
WasBegun (Some m) left name = (front : List ℕ) × (get m name ≡ Some (front ++ left name))

-- a source that has this left and failed so often was kept back at a name
pub record KeepsIn (name : List ℕ) (source : Option (List ℕ) × ℕ) (old new : PlaceState) : Type 0 where
  pub files : KeepsFiles old.files new.files
  pub later : old.reads ≤ new.reads
  pub reads : new.reads ≡ added old.reads source.1
  pub writes : new.writes ≡ old.writes
  pub later_here : (old.counts name).source_faults ≤ (new.counts name).source_faults
  pub here : new.counts name ≡ sources_failed (old.counts name) source.1
  pub others : (n : List ℕ) → n ≢ name → new.counts n ≡ old.counts n
  pub left : TellsTo old.files source.0 (new.left name)
  pub only_left : (n : List ℕ) → n ≢ name → new.left n ≡ old.left n

-- a sink that holds this and failed so often was kept back at a name
pub record KeepsOut (name : List ℕ) (sink : Option (List ℕ) × ℕ) (old new : PlaceState) : Type 0 where
  pub files : PutsHeld old.files new.files name sink.0
  pub reads : new.reads ≡ old.reads
  pub later : old.writes ≤ new.writes
  pub writes : new.writes ≡ added old.writes sink.1
  pub later_here : (old.counts name).sink_faults ≤ (new.counts name).sink_faults
  pub here : new.counts name ≡ sinks_failed (old.counts name) sink.1
  pub others : (n : List ℕ) → n ≢ name → new.counts n ≡ old.counts n
  pub left : (n : List ℕ) → new.left n ≡ old.left n

-- one such step for each of these items, at the first of these names and so on
abbrev pub EachStep : {A : Type 0} → (List ℕ → A → PlaceState → PlaceState → Type 0) → List (List ℕ) → List A → PlaceState → PlaceState → Type 0
EachStep step names [] old new = new ≡ old
EachStep step [] (x ∷ xs) old new = ⊥
EachStep step (name ∷ names) (x ∷ xs) old new = (mid : PlaceState) × step name x old mid × EachStep step names xs mid new
