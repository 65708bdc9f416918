-- What a place tells: a map from names to bytes, where it tells one, and counts beside each name.
use Rattle.std.specs.Prelude.{◌≡◌, ◌≤◌, ◌<◌, ℕ, List, [], ◌++◌, length, ⊤, Option, None, Some}
use Rattle.std.specs.Io.KnownBytes.{Consumes}
use Rattle.std.specs.Ordering.{nat_cmp}
use Rattle.std.specs.Cmp.Lexicographic.{slice_cmp}
use Rattle.std.specs.FinMap.{FinMap, get, insert}
use Rattle.pcg_base.specs.Causes.{added}

-- a map from names, as their bytes, to bytes
abbrev pub Files : Type 0
Files = FinMap (slice_cmp nat_cmp) (List ℕ)

-- what is told stays told and is the same
abbrev pub KeepsFiles : Option Files → Option Files → Type 0
KeepsFiles None new = ⊤
KeepsFiles (Some m) new = new ≡ Some m

-- what is told stays told, has these bytes at this name, and is else the same
abbrev pub PutsFile : Option Files → Option Files → List ℕ → List ℕ → Type 0
PutsFile None new name bytes = ⊤
PutsFile (Some m) new name bytes = new ≡ Some (insert m name bytes)

-- where a map is told the held bytes are told too, and the map gets them at this name
abbrev pub PutsHeld : Option Files → Option Files → List ℕ → Option (List ℕ) → Type 0
PutsHeld None new name held = ⊤
PutsHeld (Some m) new name None = ⊥
PutsHeld (Some m) new name (Some bytes) = new ≡ Some (insert m name bytes)

-- where a map is told, these are the bytes that it has at the name, and they are told too
abbrev pub TellsAt : Option Files → List ℕ → Option (List ℕ) → Type 0
TellsAt None name left = ⊤
TellsAt (Some m) name None = ⊥
TellsAt (Some m) name (Some bytes) = get m name ≡ Some bytes

-- where a map is told, this has these bytes and tells them
abbrev pub TellsTo : Option Files → Option (List ℕ) → List ℕ → Type 0
TellsTo None known bytes = ⊤
TellsTo (Some m) known bytes = known ≡ Some bytes

-- the counts beside one name
pub record Counts : Type 0 where
  pub source_openings : ℕ
  pub sink_openings : ℕ
  pub source_faults : ℕ
  pub sink_faults : ℕ

-- a name's counts, with so many more faults of its sources
abbrev pub sources_failed : Counts → ℕ → Counts
sources_failed counts n = record counts { source_faults = added counts.source_faults n }

-- a name's counts, with so many more faults of its sinks
abbrev pub sinks_failed : Counts → ℕ → Counts
sinks_failed counts n = record counts { sink_faults = added counts.sink_faults n }

-- of a name's counts at most the failed openings for reading went up
pub record OpensSource (old new : Counts) : Type 0 where
  pub source_openings : old.source_openings ≤ new.source_openings
  pub sink_openings : new.sink_openings ≡ old.sink_openings
  pub source_faults : new.source_faults ≡ old.source_faults
  pub sink_faults : new.sink_faults ≡ old.sink_faults

-- of a name's counts at most the failed openings for writing went up
pub record OpensSink (old new : Counts) : Type 0 where
  pub source_openings : new.source_openings ≡ old.source_openings
  pub sink_openings : old.sink_openings ≤ new.sink_openings
  pub source_faults : new.source_faults ≡ old.source_faults
  pub sink_faults : new.sink_faults ≡ old.sink_faults

-- told bytes grow by a front of the text
abbrev pub AppendsFront : Option (List ℕ) → Option (List ℕ) → List ℕ → Type 0
AppendsFront None new text = ⊤
AppendsFront (Some xs) None text = ⊥
AppendsFront (Some xs) (Some ys) text = (front rest : List ℕ) × (text ≡ front ++ rest) × (ys ≡ xs ++ front)

-- told bytes lose a front
abbrev pub LosesFront : Option (List ℕ) → Option (List ℕ) → Type 0
LosesFront old new = (front : List ℕ) × Consumes old new front

-- told bytes begin with these, and lose them and some more
abbrev pub LosesMore : Option (List ℕ) → Option (List ℕ) → List ℕ → Type 0
LosesMore old new bytes = (more : List ℕ) × (0 < length more) × Consumes old new (bytes ++ more)

-- where the held bytes are told, so are those that were flushed, which are all of them
abbrev pub IsFlushed : Option (List ℕ) → Option (List ℕ) → Type 0
IsFlushed None flushed = ⊤
IsFlushed (Some held) flushed = flushed ≡ Some held

-- told bytes are more than so many
abbrev pub IsLonger : Option (List ℕ) → ℕ → Type 0
IsLonger None limit = ⊤
IsLonger (Some xs) limit = limit < length xs

-- where a map is told, it has more than so many bytes at the name
abbrev pub IsLongerAt : Option Files → List ℕ → ℕ → Type 0
IsLongerAt None name limit = ⊤
IsLongerAt (Some m) name limit = (bytes : List ℕ) × (get m name ≡ Some bytes) × (limit < length bytes)

-- where a map is told, nothing is left
abbrev pub LeavesNone : Option Files → List ℕ → Type 0
LeavesNone None left = ⊤
LeavesNone (Some m) left = left ≡ []

-- of a name's counts at most those of reading went up
pub record ReadsSource (old new : Counts) : Type 0 where
  pub source_openings : old.source_openings ≤ new.source_openings
  pub sink_openings : new.sink_openings ≡ old.sink_openings
  pub source_faults : old.source_faults ≤ new.source_faults
  pub sink_faults : new.sink_faults ≡ old.sink_faults
