-- Inner: no clause of `run` is made of it.
-- The rule of the shared rows: what holds of the words of the table and of the views of all seats, between any two steps. The numbers in brackets are those of the six parts of docs/DEFINITIONS.md.
use Rattle.std.specs.Prelude.{◌≡◌, ◌==◌, nat_le, ℕ, ◌+◌, ◌*◌, ◌<◌, ◌≤◌, ◌⊎◌, List, [], Bool, true, false, length, slice_index, Some, IsSome}
use Rattle.std.specs.List.{AllByRecursion}
use mathlib.Core.Option.{some}
use lib.ListN.{get_elem?}
use Rattle.atomic_table.specs.Table.{State}
use Rattle.graph_model.specs.Lists.{has}
use Rattle.op_model.specs.declared.base.Dataset.{Dataset}
use Rattle.op_model.specs.declared.base.Base.{Base}
use Rattle.op_model.specs.declared.entry.Entry.{Entry}
use Rattle.record_rows.specs.Images.{is_pointer, trimmed}
use Rattle.record_rows.specs.Readings.{Image}
use Rattle.shared_rows.specs.declared.view.View.{View}
use Rattle.shared_rows.specs.declared.view.Old.{Old}
use Rattle.shared_rows.specs.Origin.{Origin}
use Rattle.shared_rows.specs.Logs.{Extends, entries_by, ClientsTo}
use Rattle.shared_rows.specs.Locks.{Follows}
use Rattle.shared_rows.specs.Board.{Board, words_of, stored_at, total, weight, once}

-- (2) the one dataset and base, and an image that stands for the log seen
pub record IsSight (a : Origin) (dataset : Dataset) (base : Base) (log : List Entry) (image : List ℕ) : Type 0 where
  pub dataset_is : dataset ≡ a.dataset
  pub base_is : base ≡ a.base
  pub stands : Image dataset base log image

-- (2) the image is that of the words at the tail seen, which is at most the published one; (5) each word that a begun draft names has the value that was stored there last
pub record FitsRows (tail : ℕ) (rows : List ℕ) (seen_tail : ℕ) (image : List ℕ) (draft : List (ℕ × ℕ)) : Type 0 where
  pub tail_in : seen_tail ≤ tail
  pub image_is : image ≡ trimmed rows seen_tail
  pub drafted : (k n : ℕ) → stored_at k draft ≡ Some n → slice_index rows k ≡ n

-- (5) the holder of the turn has its number there; only the holder may be fresh, and then it has seen all; only a fresh view may have a draft begun
pub record FitsTurn (tail turn : ℕ) (log : List Entry) (number seen_tail : ℕ) (seen : List Entry) (has_turn fresh : Bool) (draft : List (ℕ × ℕ)) : Type 0 where
  pub turn_is : has_turn ≡ true → turn ≡ number
  pub fresh_is : fresh ≡ true → (has_turn ≡ true) × (seen_tail ≡ tail) × (seen ≡ log)
  pub begun : (draft ≡ []) ⊎ (fresh ≡ true)

-- (3) the word of a held lock is the holder's number, and pinned locks are held
pub record FitsLocks (locks : List ℕ) (number : ℕ) (held pinned : List ℕ) : Type 0 where
  pub held_is : (l : ℕ) → has held l ≡ true → (slice_index locks l ≡ number) × (0 < number)
  pub pinned_held : (l : ℕ) → has pinned l ≡ true → has held l ≡ true

-- (6) what is kept of a pass that was joined into another
pub record FitsOld (count : ℕ) (log : List Entry) (o : Old) : Type 0 where
  pub numbered : 0 < o.number
  pub number_in : o.number ≤ count
  pub seen : Extends log o.log
  pub own_is : o.own ≡ entries_by o.number log

-- (6) the floor is at most the count, and so is the number; the own entries are those of the log with the number
pub record FitsNumber (count : ℕ) (log : List Entry) (number floor : ℕ) (own : List Entry) (olds : List Old) : Type 0 where
  pub floor_in : floor ≤ count
  pub number_in : number ≤ count
  pub own_is : 0 < number → own ≡ entries_by number log
  pub olds_fit : AllByRecursion (FitsOld count log) olds

-- (6) a view without a number has nothing
pub record IsBare (held : List ℕ) (has_turn : Bool) (draft : List (ℕ × ℕ)) (own : List Entry) : Type 0 where
  pub no_locks : held ≡ []
  pub no_turn : has_turn ≡ false
  pub no_draft : draft ≡ []
  pub no_entries : own ≡ []

-- what holds of one view; the one that a joined seat leaves has no dataset and no log
pub record Fits (a : Origin) (b : Board) (v : View) : Type 0 where
  pub sight : v.gone ≡ false → IsSight a v.dataset v.base v.log v.image
  pub rows : FitsRows b.tail b.rows v.tail v.image v.draft
  -- (2) the log seen is a prefix of the log; (4) no later entry retired a root whose lock the view has pinned
  pub follows : v.gone ≡ false → Follows a.dataset.layout b.log v.log v.pinned
  pub turn : FitsTurn b.tail b.turn b.log v.number v.tail v.log v.turn v.fresh v.draft
  pub locks : FitsLocks b.locks v.number v.held v.pinned
  pub number : FitsNumber b.count b.log v.number v.floor v.own v.olds
  pub bare : v.number ≡ 0 → IsBare v.held v.turn v.draft v.own

-- how often a view has the number n, as its own or of a pass that was joined into it
abbrev pub has_number : ℕ → View → ℕ
has_number n v = weight (v.number == n) + total (λ (o : Old). weight (o.number == n)) v.olds

pub record Kept (a : Origin) (b : Board) (views : List View) : Type 0 where
  pub wide : length b.rows ≡ 8 * a.dataset.capacity
  pub lock_count : length b.locks ≡ 64
  pub tail_in : b.tail ≤ a.dataset.capacity
  -- (1) the image at the tail stands for a legal log
  pub stands : Image a.dataset a.base b.log (trimmed b.rows b.tail)
  -- (3) each lock word is 0 or the number of the one view that holds the lock
  pub holders : (l : ℕ) → l < 64 → total (λ (v : View). weight (has v.held l)) views ≡ once (slice_index b.locks l)
  -- (5) word 1 is 0 or the number of the one view with the turn
  pub turns : total (λ (v : View). weight v.turn) views ≡ once b.turn
  -- (5) a pointer below the tail with a target at or above it is a store of a begun draft
  pub linked : (k : ℕ) → k < 8 * b.tail → is_pointer k ≡ true → b.tail ≤ slice_index b.rows k → (id : ℕ) × (v : View) × (get_elem? views id ≡ some v) × IsSome (stored_at k v.draft)
  -- (6) no more numbers than permits were given, the numbers from 1 to the count are each had once, and each entry but the first has one of these as its client
  pub permits : b.count + total (λ (v : View). v.permits) views ≡ 64
  pub numbers : (n : ℕ) → 0 < n → total (has_number n) views ≡ weight (nat_le n b.count)
  pub clients : ClientsTo b.count b.log
  pub fits : (id : ℕ) (v : View) → get_elem? views id ≡ some v → Fits a b v

abbrev pub Holds : Origin → State (Unit {0}) View → Type 0
Holds a s = (b : Board) × (s.words ≡ words_of b) × Kept a b s.views

-- the view of the first seat
abbrev pub first_view : Origin → View
first_view a = record {
  gone = false;
  dataset = a.dataset;
  base = a.base;
  permits = 64;
  floor = 0;
  number = 0;
  tail = a.tail;
  image = a.words;
  log = a.log;
  held = [];
  pinned = [];
  turn = false;
  fresh = false;
  draft = [];
  own = [];
  olds = [];
  looks = 0;
  losses = 0;
  met = 0;
}
