-- Inner: no clause of `run` is made of it.
-- The changes of an entry by their places.
use Rattle.std.specs.Prelude.{◌≡◌, ℕ, ◌<◌, ◌≤◌, List, true, Some}
use Rattle.std.specs.List.{slice_get}
use Rattle.op_model.specs.Edges.{same_pair}
use Rattle.record_rows.specs.Rows.{Row}
use Rattle.record_rows.specs.Chains.{is_edge}
use Rattle.record_rows.specs.Words.{place_from}
use Rattle.row_append.specs.Tails.{word_number}
use Rattle.grown_rows.specs.Aimed.{ChangesEndAt}
use Rattle.entry_rows.specs.declared.changes.EntryChange.{EntryChange}

-- the places are those of the pair's edge, and of where the changes of the pair end
pub record IsAtChange (rows : List Row) (x : EntryChange) : Type 0 where
  pub edge : place_from (is_edge x.changed.pair) 0 rows ≡ x.edge
  pub behind : 0 < x.edge
  pub ends : ChangesEndAt x.changed.pair rows (word_number x.last)
  pub pointer : 4 ≤ x.last.word
  pub in_record : x.last.word < 8

-- so it is for each change, and no two are of one pair
pub record AreChanges (rows : List Row) (xs : List EntryChange) : Type 0 where
  pub each : (i : ℕ) (x : EntryChange) → slice_get xs i ≡ Some x → IsAtChange rows x
  pub differ : (i j : ℕ) (x y : EntryChange) → slice_get xs i ≡ Some x → slice_get xs j ≡ Some y → same_pair x.changed.pair y.changed.pair ≡ true → i ≡ j
