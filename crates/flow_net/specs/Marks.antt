-- Inner: no clause of `run` is made of it.
-- How marks spread over the links outside a set.
use Rattle.std.specs.Prelude.{◌≡◌, ℕ, ◌+◌, ◌-◌, ◌<◌, Bool, true, false, cond, ◌||◌, List, length, nat_eq, slice_index_or, ◌⊎◌}
use Rattle.std.specs.List.{count_by, list_any}
use Rattle.graph_model.specs.Wires.{Wire, wire}
use Rattle.graph_model.specs.Lists.{has}
use Rattle.graph_model.specs.Cuts.{label}

-- the two ends of each link outside the set are marked alike
abbrev pub IsSwept : List Wire → (ℕ → Bool) → List Bool → Type 0
IsSwept ws x seen =
    (k : ℕ) → k < length ws → x k ≡ false → slice_index_or seen (wire ws k).a false ≡ slice_index_or seen (wire ws k).b false

-- what was marked is marked
abbrev pub KeepsMarks : List Bool → List Bool → Type 0
KeepsMarks old new = (v : ℕ) → slice_index_or old v false ≡ true → slice_index_or new v false ≡ true

-- the label of each marked vertex passes
abbrev pub MarksOnly : List Wire → (ℕ → Bool) → (ℕ → Bool) → List Bool → Type 0
MarksOnly ws x passes seen = (v : ℕ) → slice_index_or seen v false ≡ true → passes (label ws x (length ws) v) ≡ true

-- whether a label is that of a source
abbrev pub labels_a_source : List Wire → (ℕ → Bool) → List ℕ → ℕ → Bool
labels_a_source ws x sources r = list_any (λ s. nat_eq (label ws x (length ws) s) r) sources

-- just one of two vertices was marked, the other is marked now, and nothing else changed
pub record Spreads (old new : List Bool) (a b : ℕ) : Type 0 where
  pub either : (slice_index_or old a false || slice_index_or old b false) ≡ true
  pub marks : (v : ℕ) → slice_index_or new v false ≡ true → (slice_index_or old v false ≡ true) ⊎ ((v ≡ a) ⊎ (v ≡ b))
  pub keeps : (v : ℕ) → slice_index_or old v false ≡ true → slice_index_or new v false ≡ true
  pub counts : count_by (λ s. s) new ≡ count_by (λ s. s) old + 1

-- link k is outside the cut and joins such vertices
pub record SpreadsAt (ws : List Wire) (cut : List ℕ) (old new : List Bool) (k : ℕ) : Type 0 where
  pub out_of_cut : has cut k ≡ false
  pub spreads : Spreads old new (wire ws k).a (wire ws k).b

-- link k is in the cut or has its ends marked alike, and nothing changed
pub record SpreadsNot (ws : List Wire) (cut : List ℕ) (old new : List Bool) (k : ℕ) : Type 0 where
  pub same : new ≡ old
  pub why : (has cut k ≡ true) ⊎ (slice_index_or old (wire ws k).a false ≡ slice_index_or old (wire ws k).b false)

-- the k-th of m numbers, from the last one on or from the first
abbrev pub turned : ℕ → Bool → ℕ → ℕ
turned m backwards k = cond backwards (m - 1 - k) k
