-- Inner: no clause of `run` is made of it.
-- The records of the base's edges, in which a pair is found by halving.
use Rattle.std.specs.Prelude.{◌≡◌, ℕ, ◌%◌, ◌/◌, ◌<◌, ◌≤◌, Bool, true, false, ◌&&◌, ◌==◌, List, length, Some}
use Rattle.std.specs.List.{slice_get}
use Rattle.op_model.specs.declared.base.Pair.{Pair}
use Rattle.op_model.specs.Edges.{same_pair, pair_before}
use Rattle.record_rows.specs.Rows.{Row, EdgeRow}

-- the first word of an edge's record that names the first entry: the edge is one of the base
unfoldable pub base_word : ℕ → Bool
base_word word = word % 256 == 6 && word / 4294967296 == 0

-- an edge of the base
unfoldable pub of_base : Row → Bool
of_base (EdgeRow made e) = made == 0
of_base row = false

-- an edge of the base whose pair is before this one
unfoldable pub base_before : Pair → Row → Bool
base_before p (EdgeRow made e) = made == 0 && pair_before e.pair p
base_before p row = false

-- the base's edge of this pair
unfoldable pub base_of : Pair → Row → Bool
base_of p (EdgeRow made e) = made == 0 && same_pair e.pair p
base_of p row = false

-- from the first place on, the records before the place are of edges of the base before the pair, and no record from it on is
pub record IsLower (rows : List Row) (first : ℕ) (p : Pair) (place : ℕ) : Type 0 where
  pub low : first ≤ place
  pub high : place ≤ length rows
  pub below : (q : ℕ) (row : Row) → first ≤ q → q < place → slice_get rows q ≡ Some row → base_before p row ≡ true
  pub above : (q : ℕ) (row : Row) → place ≤ q → slice_get rows q ≡ Some row → base_before p row ≡ false
