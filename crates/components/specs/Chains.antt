-- Inner: no clause of `run` is made of it.
-- The pairs of each vertex as a chain: its last pair, and before each of them the one before. A pair is named by its
-- number and one more, so that 0 says that there is none.
use Rattle.std.specs.Prelude.{◌≡◌, ℕ, zero, suc, ◌<◌, Bool, cond, ◌||◌, ◌==◌, List, length, slice_index, slice_index_or}

-- the pair with number k
abbrev pub pair : List (ℕ × ℕ) → ℕ → ℕ × ℕ
pair pairs k = slice_index_or pairs k (0, 0)

-- whether it has this vertex
abbrev pub touches : List (ℕ × ℕ) → ℕ → ℕ → Bool
touches pairs k u = (pair pairs k).0 == u || (pair pairs k).1 == u

-- its other vertex, or this one where it has no other
abbrev pub other : List (ℕ × ℕ) → ℕ → ℕ → ℕ
other pairs k u = cond ((pair pairs k).0 == u) (pair pairs k).1 (pair pairs k).0

-- the last of the pairs below k that has the vertex
abbrev pub last_at : List (ℕ × ℕ) → ℕ → ℕ → ℕ
last_at pairs u zero = 0
last_at pairs u (suc k) = cond (touches pairs k u) (suc k) (last_at pairs u k)

-- the last pair of each vertex below n, among those below k
pub record AreLasts (n : ℕ) (pairs : List (ℕ × ℕ)) (k : ℕ) (lasts : List ℕ) : Type 0 where
  pub count : length lasts ≡ n
  pub last : (u : ℕ) → u < n → slice_index lasts u ≡ last_at pairs u k

-- the pair before each of the pairs below k, for the one vertex and for the other
pub record AreNexts (pairs : List (ℕ × ℕ)) (k : ℕ) (nexts : List (ℕ × ℕ)) : Type 0 where
  pub count : length nexts ≡ k
  pub one : (j : ℕ) → j < k → (pair nexts j).0 ≡ last_at pairs (pair pairs j).0 j
  pub other : (j : ℕ) → j < k → (pair nexts j).1 ≡ last_at pairs (pair pairs j).1 j
