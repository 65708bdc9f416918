-- The files of clients: their requests are opened, read and kept back, and so are their answers.
use Rattle.std.specs.Prelude.{◌≡◌, ◌≤◌, ◌<◌, ⊤, ℕ, pred, List, [], ◌∷◌, length, take, map, slice_get, Option, Some, None}
use Rattle.std.specs.FinMap.{insert}
use Rattle.pcg_base.specs.States.{PlaceState, SinkState}
use Rattle.pcg_base.specs.Told.{Files, KeepsFiles, LosesFront, TellsAt, TellsTo}
use Rattle.client_answers.specs.declared.answers.ClientAnswers.{ClientAnswers}
use Rattle.client_answers.specs.Written.{IsFresh}
use Rattle.stream_lines.specs.declared.reading.StreamLines.{StreamLines}
use Rattle.stream_lines.specs.Streams.{HasLines}
use Rattle.job_files.specs.declared.opening.OpenFault.{OpenFault}
use Rattle.job_files.specs.declared.opening.OpenFault.TheVariants as faults
use Rattle.job_files.specs.Places.{EachStep, KeepsIn, ReadRose, WasOpened, WriteRose}

-- each source has the bytes at its name left, where they are told, and never failed
abbrev pub AreOpened : {S : Type 0} → (S → Option (List ℕ)) → (S → ℕ) → Option Files → List (List ℕ) → List S → Type 0
AreOpened left faults files [] [] = ⊤
AreOpened left faults files [] (x ∷ xs) = ⊥
AreOpened left faults files (name ∷ names) [] = ⊥
AreOpened left faults files (name ∷ names) (x ∷ xs) = TellsAt files name (left x) × (faults x ≡ 0) × AreOpened left faults files names xs

-- each sink is empty and tells it, where a place tells its bytes, and never failed
abbrev pub AreEmpty : {K : Type 0} → (K → SinkState) → Option Files → List (List ℕ) → List (ClientAnswers K) → Type 0
AreEmpty state files [] [] = ⊤
AreEmpty state files [] (x ∷ xs) = ⊥
AreEmpty state files (name ∷ names) [] = ⊥
AreEmpty state files (name ∷ names) (x ∷ xs) = TellsTo files (state x.sink).held [] × ((state x.sink).faults ≡ 0) × IsFresh x × AreEmpty state files names xs

-- files of which these hold no byte any more
unfoldable pub emptied : Files → List (List ℕ) → Files
emptied files [] = files
emptied files (name ∷ names) = emptied (insert files name []) names

-- where a place tells its bytes, these of its files are empty and all others are as they were
abbrev pub Empties : Option Files → List (List ℕ) → Option Files → Type 0
Empties None names new = ⊤
Empties (Some files) names new = new ≡ Some (emptied files names)

-- of the first so many names the sources were kept back as they were opened
abbrev pub FrontWhole : ℕ → List (List ℕ) → Option Files → (List ℕ → List ℕ) → Type 0
FrontWhole count names files left = (k : ℕ) (name : List ℕ) → k < count → slice_get names k ≡ Some name → WasOpened files left name

-- Why requests weren't opened: that of this client failed, and a count rose beside its name. Those before it were kept back whole.
abbrev pub RequestsShut : List (List ℕ) → PlaceState → PlaceState → OpenFault → Type 0
RequestsShut names old new (faults.Failed client) =
    (name : List ℕ) × (slice_get names (pred client) ≡ Some name) × (1 ≤ client) × ReadRose old new name × KeepsFiles old.files new.files × (new.writes ≡ old.writes)
    × FrontWhole (pred client) names old.files new.left
RequestsShut names old new faults.NoMemory = KeepsFiles old.files new.files × (new.writes ≡ old.writes)

-- Why answers weren't opened: those of this client failed. Those before them are empty files.
abbrev pub AnswersShut : List (List ℕ) → PlaceState → PlaceState → OpenFault → Type 0
AnswersShut names old new (faults.Failed client) =
    (name : List ℕ) × (slice_get names (pred client) ≡ Some name) × (1 ≤ client) × WriteRose old new name × Empties old.files (take (pred client) names) new.files × (new.reads ≡ old.reads)
    × ((n : List ℕ) → new.left n ≡ old.left n)
AnswersShut names old new faults.NoMemory =
    (count : ℕ) × (count ≤ length names) × Empties old.files (take count names) new.files × (new.reads ≡ old.reads) × ((n : List ℕ) → new.left n ≡ old.left n)

-- all answers are empty files, and nothing else changed
pub record AnswersOpen (names : List (List ℕ)) (old new : PlaceState) : Type 0 where
  pub files : Empties old.files names new.files
  pub left : (name : List ℕ) → new.left name ≡ old.left name
  pub reads : new.reads ≡ old.reads
  pub writes : new.writes ≡ old.writes
  pub counts : (name : List ℕ) → new.counts name ≡ old.counts name

-- the lines of each source, by what it had left and has left, and by how often it failed
abbrev pub AreRead : List (Option (List ℕ)) → List (Option (List ℕ) × ℕ) → List StreamLines → Type 0
AreRead [] [] [] = ⊤
AreRead (left ∷ lefts) (x ∷ xs) (r ∷ rs) = HasLines left x.0 0 x.1 r.lines.items r.end × AreRead lefts xs rs
AreRead lefts xs rs = ⊥

-- a front of each source was read
abbrev pub AreBegun : List (Option (List ℕ)) → List (Option (List ℕ) × ℕ) → Type 0
AreBegun [] [] = ⊤
AreBegun (left ∷ lefts) (x ∷ xs) = LosesFront left x.0 × AreBegun lefts xs
AreBegun lefts xs = ⊥

-- each stream was read to its end, and each source kept back
abbrev pub ReadsAll : {S : Type 0} → (S → Option (List ℕ)) → List (List ℕ) → List S → List StreamLines → PlaceState → PlaceState → Type 0
ReadsAll left names sources read old new = (kept : List (Option (List ℕ) × ℕ)) × AreRead (map left sources) kept read × EachStep KeepsIn names kept old new

-- memory ran out, and each source was kept back
abbrev pub ReadsSome : {S : Type 0} → (S → Option (List ℕ)) → List (List ℕ) → List S → PlaceState → PlaceState → Type 0
ReadsSome left names sources old new = (kept : List (Option (List ℕ) × ℕ)) × AreBegun (map left sources) kept × EachStep KeepsIn names kept old new

-- what is kept of answers
abbrev pub kept_of : {K : Type 0} → (K → SinkState) → ClientAnswers K → Option (List ℕ) × ℕ
kept_of state x = ((state x.sink).held, (state x.sink).faults)
