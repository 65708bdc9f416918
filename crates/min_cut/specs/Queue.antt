-- Inner: no clause of `run` is made of it.
-- What a search in breadth keeps.
use Rattle.std.specs.Prelude.{◌≡◌, ℕ, ◌<◌, ◌≤◌, Bool, false, List, length, ℤ, slice_index_or}
use Rattle.std.specs.declared.option.Option.{Option}
use Rattle.std.specs.declared.option.Option.TheVariants.{Some}
use Rattle.graph_model.specs.Wires.{Wire}
use Rattle.min_cut.specs.Tree.{visit_at, visited, Grew}
use Rattle.min_cut.specs.declared.search.Visit.{Visit}

-- v is marked
abbrev pub marked : List Bool → ℕ → Bool
marked marks v = slice_index_or marks v false

-- each visited vertex stands in the queue, at a place that isn't below its level
pub record IsQueue (visits : List (Option Visit)) (queue : List ℕ) (tail : ℕ) : Type 0 where
  pub count : tail ≡ visited visits
  pub seen : (i : ℕ) → i < tail → (visit : Visit) × (visit_at visits (slice_index_or queue i 0) ≡ Some visit) × (visit.level ≤ i)
  pub queued : (v : ℕ) (visit : Visit) → visit_at visits v ≡ Some visit → (i : ℕ) × (i < tail) × (slice_index_or queue i 0 ≡ v)

-- more vertices are visited, at one level more, and queued behind the others
pub record Queues (ws : List Wire) (fs : List ℤ) (old new : List (Option Visit)) (queue newer : List ℕ) (before tail level : ℕ) : Type 0 where
  pub grew : Grew ws fs old new level
  pub holds : IsQueue new newer tail
  pub more : before ≤ tail
  pub kept : (i : ℕ) → i < before → slice_index_or newer i 0 ≡ slice_index_or queue i 0

-- levels are below the number of vertices
abbrev pub IsShort : List (Option Visit) → Type 0
IsShort visits = (v : ℕ) (visit : Visit) → visit_at visits v ≡ Some visit → visit.level < length visits
