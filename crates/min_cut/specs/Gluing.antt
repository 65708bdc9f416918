-- Inner: no clause of `run` is made of it.
-- What walks of glue join, as a search finds it.
use Rattle.std.specs.Prelude.{◌≡◌, ℕ, ◌<◌, ◌≤◌, true, false, List, length, is_some, slice_index_or}
use Rattle.std.specs.declared.option.Option.{Option}
use Rattle.graph_model.specs.Wires.{Wire}
use Rattle.graph_model.specs.Cuts.{Joins, is_affinity, label}
use Rattle.min_cut.specs.Tree.{visit_at}
use Rattle.min_cut.specs.Queue.{IsQueue}
use Rattle.min_cut.specs.declared.search.Visit.{Visit}

-- link k is glue between u and w
abbrev pub GlueOver : List Wire → ℕ → ℕ → ℕ → Type 0
GlueOver ws k u w = (is_affinity ws k ≡ false) × Joins ws k u w

-- each visited vertex is joined by glue to what has the label r
abbrev pub OnlyLabel : List Wire → ℕ → List (Option Visit) → Type 0
OnlyLabel ws r visits = (v : ℕ) → is_some (visit_at visits v) ≡ true → label ws (is_affinity ws) (length ws) v ≡ r

-- more vertices are visited and queued behind the others, each joined by glue to one that was visited before
pub record Glues (ws : List Wire) (old new : List (Option Visit)) (queue newer : List ℕ) (before tail : ℕ) : Type 0 where
  pub kept : (v : ℕ) → is_some (visit_at old v) ≡ true → is_some (visit_at new v) ≡ true
  pub sound : (r : ℕ) → OnlyLabel ws r old → OnlyLabel ws r new
  pub holds : IsQueue new newer tail
  pub more : before ≤ tail
  pub places : (i : ℕ) → i < before → slice_index_or newer i 0 ≡ slice_index_or queue i 0
