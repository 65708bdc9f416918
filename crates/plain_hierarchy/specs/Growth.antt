-- Inner: no clause of `run` is made of it.
-- What one step of a search in breadth finds.
use Rattle.std.specs.Prelude.{◌≡◌, ℕ, ◌≤◌, Bool, true, false, List, ◌++◌, length, ◌⊎◌}
use Rattle.std.specs.List.{filter}
use Rattle.graph_model.specs.Lists.{has}

-- at least as many members are found as the list is long, so it is no longer than the members
abbrev pub IsCounted : List ℕ → List ℕ → Type 0
IsCounted all found = length found ≤ length (filter (has found) all)

-- the members that are linked to one vertex are found, and no others
pub record Grows (links : ℕ → ℕ → Bool) (all : List ℕ) (from : ℕ) (old new : List ℕ) : Type 0 where
  pub kept : (more : List ℕ) × (new ≡ old ++ more)
  pub only : (w : ℕ) → has new w ≡ true → (has old w ≡ true) ⊎ ((links from w ≡ true) × (has all w ≡ true))
  pub every : (w : ℕ) → links from w ≡ true → has all w ≡ true → has new w ≡ true
  pub counted : IsCounted all old → IsCounted all new

-- a member that is linked to one vertex, and isn't found yet
pub record IsFresh (links : ℕ → ℕ → Bool) (all : List ℕ) (from : ℕ) (found : List ℕ) (w : ℕ) : Type 0 where
  pub linked : links from w ≡ true
  pub member : has all w ≡ true
  pub fresh : has found w ≡ false
