-- Inner: no clause of `run` is made of it.
-- The lines of streams, read one by one.
use Rattle.std.specs.Prelude.{◌≡◌, ◌<◌, ◌^◌, ℕ, Bool, true, false, List, [], ◌∷◌, ◌++◌, length, map, Option}
use Rattle.pcg_base.specs.States.{PlaceState}
use Rattle.pcg_base.specs.Told.{LosesFront}
use Rattle.stream_lines.specs.declared.reading.StreamLines.{StreamLines}
use Rattle.stream_lines.specs.Streams.{HasLines}
use Rattle.job_files.specs.Clients.{AreBegun, AreRead}
use Rattle.job_files.specs.Places.{EachStep, KeepsIn}

-- the lines of one stream more, where there was memory for them
abbrev pub Gets : Bool → List StreamLines → List StreamLines → Option (List ℕ) → Option (List ℕ) × ℕ → Type 0
Gets true lines lines' left kept = (r : StreamLines) × (lines' ≡ lines ++ r ∷ []) × HasLines left kept.0 0 kept.1 r.lines.items r.end × (length r.lines.items < 2 ^ 32)
Gets false lines lines' left kept = lines' ≡ lines

-- a source was read and kept back at its name
abbrev pub ReadsNext : {S : Type 0} → (S → Option (List ℕ)) → List ℕ → S → Bool → List StreamLines → List StreamLines → PlaceState → PlaceState → Type 0
ReadsNext left name source whole lines lines' old new =
    (kept : Option (List ℕ) × ℕ) × LosesFront (left source) kept.0 × KeepsIn name kept old new × Gets whole lines lines' (left source) kept

-- each source was read and kept back, and these are all lines where there was memory for them
abbrev pub ReadsEach : {S : Type 0} → (S → Option (List ℕ)) → List (List ℕ) → List S → Bool → List StreamLines → PlaceState → PlaceState → Type 0
ReadsEach left names sources whole lines old new =
    (kept : List (Option (List ℕ) × ℕ)) × AreBegun (map left sources) kept × EachStep KeepsIn names kept old new × (whole ≡ true → AreRead (map left sources) kept lines)
