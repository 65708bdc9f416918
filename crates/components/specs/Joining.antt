-- Inner: no clause of `run` is made of it.
-- What pairs of vertices join, and the least vertex of each component.
use Rattle.std.specs.Prelude.{◌≡◌, ℕ, ◌<◌, ◌≤◌, Bool, ◌&&◌, ◌||◌, ◌==◌, List, length, slice_index}
use Rattle.std.specs.List.{list_any, range_with_len}
use Rattle.graph_model.specs.Components.{Joined}

-- whether one of the pairs is of these two vertices, in either order
unfoldable pub meet : List (ℕ × ℕ) → ℕ → ℕ → Bool
meet pairs u v = list_any (λ p. (p.0 == u && p.1 == v) || (p.0 == v && p.1 == u)) pairs

-- a walk of pairs joins two of the vertices below n
abbrev pub JoinedBelow : ℕ → List (ℕ × ℕ) → ℕ → ℕ → Type 0
JoinedBelow n pairs u v = Joined (meet pairs) (range_with_len 0 n) u v

-- the list has for each vertex below n the least vertex that the pairs join it to
pub record AreLeastMembers (n : ℕ) (pairs : List (ℕ × ℕ)) (least : List ℕ) : Type 0 where
  pub count : length least ≡ n
  pub joined : (v : ℕ) → v < n → JoinedBelow n pairs v (slice_index least v)
  pub lowest : (v w : ℕ) → v < n → JoinedBelow n pairs v w → slice_index least v ≤ w
