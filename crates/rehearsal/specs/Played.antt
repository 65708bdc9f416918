-- Inner: no clause of `run` is made of it.
-- Sessions over files that are open.
use Rattle.std.specs.Prelude.{◌≡◌, ℕ, List, [], ◌∷◌, length, map, Option}
use Rattle.op_model.specs.declared.base.Dataset.{Dataset}
use Rattle.op_model.specs.declared.base.Base.{Base}
use Rattle.pcg_base.specs.declared.clock.Ticks.{Ticks}
use Rattle.pcg_base.specs.States.{PlaceState, SinkState}
use Rattle.pcg_base.specs.Told.{KeepsFiles}
use Rattle.client_answers.specs.declared.answers.ClientAnswers.{ClientAnswers}
use Rattle.stream_lines.specs.declared.reading.StreamLines.{StreamLines}
use Rattle.job_files.specs.Places.{EachStep, KeepsIn, KeepsOut}
use Rattle.job_files.specs.Clients.{AreRead, kept_of}
use Rattle.session_results.specs.declared.playing.SessionsDone.{SessionsDone}
use Rattle.session_results.specs.Ended.{AreDone, Source}

-- a source that was opened, and kept back with this left and so many faults
abbrev pub source_of : Option (List ℕ) → Option (List ℕ) × ℕ → Source
source_of left x = record { left = left; left' = x.0; faults = 0; faults' = x.1 }

-- sources before they were read and behind it
unfoldable pub sources_of : List (Option (List ℕ)) → List (Option (List ℕ) × ℕ) → List Source
sources_of (left ∷ lefts) (x ∷ xs) = source_of left x ∷ sources_of lefts xs
sources_of lefts xs = []

-- the requests were read and kept back, the sessions played, and the answers kept back
pub record ArePlayed {S K : Type 0} (left : S → Option (List ℕ)) (state : K → SinkState) (d : Dataset) (b : Base) (at : ℕ) (ticks : Ticks) (schedule : List ℕ) (requests answers : List (List ℕ))
    (sources : List S) (sinks : List (ClientAnswers K)) (old new : PlaceState) (done : SessionsDone) : Type 0 where
  pub kept : List (Option (List ℕ) × ℕ)
  pub read : List StreamLines
  pub mid : PlaceState
  pub are_read : AreRead (map left sources) kept read
  pub kept_in : EachStep KeepsIn requests kept old mid
  pub ended : List (ClientAnswers K)
  pub count : length ended ≡ length sinks
  pub kept_out : EachStep KeepsOut answers (map (kept_of state) ended) mid new
  pub done_so : AreDone state d b at ticks schedule (sources_of (map left sources) kept) sinks ended done

-- memory ran out, and all was kept back, the answers as they were opened
pub record AreUnplayed {K : Type 0} (state : K → SinkState) (requests answers : List (List ℕ)) (sinks : List (ClientAnswers K)) (old new : PlaceState) : Type 0 where
  pub kept : List (Option (List ℕ) × ℕ)
  pub mid : PlaceState
  pub kept_in : EachStep KeepsIn requests kept old mid
  pub kept_out : EachStep KeepsOut answers (map (kept_of state) sinks) mid new

-- between these states of a place files were read and kept back, and no count rose
pub record IsBefore (old new : PlaceState) : Type 0 where
  pub files : KeepsFiles old.files new.files
  pub reads : new.reads ≡ old.reads
  pub writes : new.writes ≡ old.writes
  pub counts : (name : List ℕ) → new.counts name ≡ old.counts name
