-- Inner: no clause of `run` is made of it.
-- The state of a traversal: a label for each vertex below n, n itself where it has none, and the vertices that wait.
use Rattle.std.specs.Prelude.{◌≡◌, ◌≢◌, ℕ, ◌+◌, ◌*◌, ◌<◌, ◌≤◌, true, false, List, [], ◌∷◌, ◌++◌, length, nat_eq, slice_index, slice_set, ◌⊎◌}
use Rattle.std.specs.List.{count_by, range_with_len}
use Rattle.graph_model.specs.Lists.{has}
use Rattle.graph_model.specs.Walks.{Reaches}
use Rattle.graph_model.specs.Components.{Inside}
use Rattle.components.specs.Joining.{meet}
use Rattle.components.specs.Chains.{touches, other}

-- a pair joins the two
abbrev pub Met : ℕ → List (ℕ × ℕ) → ℕ → ℕ → Type 0
Met n pairs u v = Inside (meet pairs) (range_with_len 0 n) u v

-- all below the root have labels; each label is joined to its vertex and not above it; those that wait have the root's;
-- the pairs of the others lead to their own label, but for this vertex, whose pairs are being taken
pub record IsSpread (n : ℕ) (pairs : List (ℕ × ℕ)) (root busy : ℕ) (labels waiting : List ℕ) : Type 0 where
  pub count : length labels ≡ n
  pub below : (v : ℕ) → v < root → slice_index labels v ≢ n
  pub low : (v : ℕ) → v < n → slice_index labels v ≢ n → slice_index labels v ≤ v
  pub met : (v : ℕ) → v < n → slice_index labels v ≢ n → Reaches (Met n pairs) v (slice_index labels v)
  pub waits : (v : ℕ) → has waiting v ≡ true → (v < n) × (slice_index labels v ≡ root)
  pub closed :
      (v w : ℕ) → v < n → slice_index labels v ≢ n → has waiting v ≡ false → v ≢ busy → w < n → meet pairs v w ≡ true
      → slice_index labels w ≡ slice_index labels v

-- the pairs of a vertex from this one on lead to the root's label
abbrev pub AreTaken : List (ℕ × ℕ) → ℕ → ℕ → ℕ → List ℕ → Type 0
AreTaken pairs root u from labels = (k : ℕ) → from ≤ k → k < length pairs → touches pairs k u ≡ true → slice_index labels (other pairs k u) ≡ root

-- a vertex is labelled and waits, if it had no label
abbrev pub Visits : ℕ → ℕ → ℕ → List ℕ → List ℕ → List ℕ → List ℕ → Type 0
Visits n root v labels new waiting more =
    ((slice_index labels v ≢ n) × (new ≡ labels) × (more ≡ waiting))
    ⊎ ((slice_index labels v ≡ n) × (new ≡ slice_set labels v root) × (more ≡ waiting ++ (v ∷ [])))

-- what is left to do: two for each vertex without a label, one for each that waits
abbrev pub work : ℕ → List ℕ → List ℕ → ℕ
work n labels waiting = 2 * count_by (λ l. nat_eq l n) labels + length waiting
