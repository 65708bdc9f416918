-- Inner: no clause of `run` is made of it.
-- What links carry, and sums over them at a block of vertices.
use Rattle.std.specs.Prelude.{◌≡◌, ℕ, ◌+◌, ◌<◌, Bool, cond, not, ◌&&◌, ◌||◌, List, length, ℤ, nat_eq, slice_index}
use Rattle.graph_model.specs.Lists.{has}
use Rattle.graph_model.specs.Wires.{Wire, total}
use Rattle.graph_model.specs.Flows.{run_out, run_in, carried_out, carried_in}

-- what link k carries goes from one vertex to another, and is so much
pub record IsCarry (ws : List Wire) (fs : List ℤ) (k from to size : ℕ) : Type 0 where
  pub run_out_is : (v : ℕ) → run_out ws fs v k ≡ cond (nat_eq from v) size 0
  pub run_in_is : (v : ℕ) → run_in ws fs v k ≡ cond (nat_eq to v) size 0
  pub carried_out_is : (side : ℕ → Bool) → carried_out ws fs side k ≡ cond (side from) (cond (side to) 0 size) 0
  pub carried_in_is : (side : ℕ → Bool) → carried_in ws fs side k ≡ cond (side to) (cond (side from) 0 size) 0

-- the sums are those over the links below m, at the vertices from first on
abbrev pub AreSums : (ℕ → ℕ → ℕ) → ℕ → ℕ → List ℕ → Type 0
AreSums run m first sums = (i : ℕ) → i < length sums → slice_index sums i ≡ total (run (first + i)) m

-- one vertex got more, if it is one of those from first on
abbrev pub AddsAt : ℕ → ℕ → ℕ → List ℕ → List ℕ → Type 0
AddsAt first v more old new = (i : ℕ) → i < length new → slice_index new i ≡ slice_index old i + cond (nat_eq v (first + i)) more 0

-- the vertex at place i from first on is no mark, and its sums differ
abbrev pub differs : List ℕ → List ℕ → List ℕ → List ℕ → ℕ → ℕ → Bool
differs sources sinks into out first i =
    not (has sources (first + i) || has sinks (first + i)) && not (nat_eq (slice_index into i) (slice_index out i))
