-- Inner: no clause of `run` is made of it.
-- Openings one by one, up to the first that fails.
use Rattle.std.specs.Prelude.{◌≡◌, ◌≤◌, ◌+◌, ⊤, ℕ, Bool, true, List, [], length, take, slice_get, Option, Some}
use Rattle.std.specs.List.{AllByRecursion}
use Rattle.pcg_base.specs.States.{PlaceState, SinkState}
use Rattle.pcg_base.specs.Told.{Files, KeepsFiles, TellsAt, TellsTo}
use Rattle.pcg_base.specs.declared.place.PlaceError.{PlaceError}
use Rattle.pcg_base.specs.declared.place.PlaceError.TheVariants as errors
use Rattle.client_answers.specs.declared.answers.ClientAnswers.{ClientAnswers}
use Rattle.client_answers.specs.Written.{IsFresh}
use Rattle.job_files.specs.Clients.{AreEmpty, AreOpened, Empties}
use Rattle.job_files.specs.Places.{IsLater, ReadRose, WriteRose}
use Rattle.job_files.specs.declared.opening.OpenFault.{OpenFault}
use Rattle.job_files.specs.declared.opening.OpenFault.TheVariants as faults

-- a source has the bytes at a name left, where they are told, and never failed
abbrev pub IsOpened : {S : Type 0} → (S → Option (List ℕ)) → (S → ℕ) → Option Files → List ℕ → S → Type 0
IsOpened left faults files name x = TellsAt files name (left x) × (faults x ≡ 0)

-- a sink is empty and tells it, where a place tells its bytes, and never failed
abbrev pub IsEmptied : {K : Type 0} → (K → SinkState) → Option Files → ClientAnswers K → Type 0
IsEmptied state files x = TellsTo files (state x.sink).held [] × ((state x.sink).faults ≡ 0) × IsFresh x

-- why a file of this client wasn't opened
abbrev pub fault_of : PlaceError → ℕ → OpenFault
fault_of errors.Failed client = faults.Failed client
fault_of errors.NoMemory client = faults.NoMemory

-- behind so many requests the next one couldn't be opened, or memory ran out
abbrev pub FailsIn : ℕ → List (List ℕ) → PlaceState → PlaceState → OpenFault → Type 0
FailsIn count names old new (faults.Failed client) = (client ≡ count + 1) × (name : List ℕ) × (slice_get names count ≡ Some name) × ReadRose old new name
FailsIn count names old new faults.NoMemory = ⊤

-- the same of answers
abbrev pub FailsOut : ℕ → List (List ℕ) → PlaceState → PlaceState → OpenFault → Type 0
FailsOut count names old new (faults.Failed client) = (client ≡ count + 1) × (name : List ℕ) × (slice_get names count ≡ Some name) × WriteRose old new name
FailsOut count names old new faults.NoMemory = ⊤

-- the first requests were opened, and the next one wasn't
pub record OpensFront {S : Type 0} (left : S → Option (List ℕ)) (faults : S → ℕ) (is_ready : List ℕ → Bool) (names : List (List ℕ)) (xs : List S) (old new : PlaceState) (fault : OpenFault) : Type 0 where
  pub few : length xs ≤ length names
  pub opened : AreOpened left faults old.files (take (length xs) names) xs
  pub ready : AllByRecursion (λ name. is_ready name ≡ true) (take (length xs) names)
  pub files : KeepsFiles old.files new.files
  pub writes : new.writes ≡ old.writes
  pub lefts : (name : List ℕ) → new.left name ≡ old.left name
  pub later : IsLater old new
  pub why : FailsIn (length xs) names old new fault

-- the first answers were opened, and the next ones weren't
pub record EmptiesFront {K : Type 0} (state : K → SinkState) (is_ready : List ℕ → Bool) (names : List (List ℕ)) (xs : List (ClientAnswers K)) (old new : PlaceState) (fault : OpenFault) : Type 0 where
  pub few : length xs ≤ length names
  pub empty : AreEmpty state old.files (take (length xs) names) xs
  pub ready : AllByRecursion (λ name. is_ready name ≡ true) (take (length xs) names)
  pub files : Empties old.files (take (length xs) names) new.files
  pub reads : new.reads ≡ old.reads
  pub left : (name : List ℕ) → new.left name ≡ old.left name
  pub later : IsLater old new
  pub why : FailsOut (length xs) names old new fault
