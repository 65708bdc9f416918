-- Inner: no clause of `run` is made of it.
-- What contracts see of a draft: new records, and pointers of records before them that are to lead to new ones.
use Rattle.std.specs.Prelude.{ℕ, ◌+◌, ◌-◌, ◌*◌, ◌^◌, ◌<◌, ◌≤◌, List, [], ◌∷◌, ◌++◌, length, map, min}
use Rattle.std.specs.List.{AllByRecursion, concat}
use Rattle.record_rows.specs.Growth.{Store, stored}
use Rattle.row_words.specs.declared.draft.DraftLink.{DraftLink}

-- the place of the first new record, the words of each new record, the pointers, and for how many more records and pointers there is room
pub record DraftRows : Type 0 where
  pub tail : ℕ
  pub rows : List (List ℕ)
  pub links : List DraftLink
  pub row_room : ℕ
  pub link_room : ℕ

abbrev pub draft_rows : ℕ → List (List ℕ) → List DraftLink → ℕ → ℕ → DraftRows
draft_rows tail rows links row_room link_room = record { tail = tail; rows = rows; links = links; row_room = row_room; link_room = link_room }

-- how many records a draft can have in all: their places are below 2 ^ 32, and so is their number
abbrev pub most_rows : ℕ → ℕ
most_rows tail = min (2 ^ 32 - tail) (2 ^ 32 - 1)

-- the draft with one more record
abbrev pub with_row : DraftRows → List ℕ → DraftRows
with_row d words = draft_rows d.tail (d.rows ++ words ∷ []) d.links (d.row_room - 1) d.link_room

-- the draft with one more pointer: this word of the record at a place, and where it is to lead
abbrev pub with_link : DraftRows → ℕ → ℕ → ℕ → DraftRows
with_link d place word target = draft_rows d.tail d.rows (d.links ++ record { from = place; k = word; to = target } ∷ []) d.row_room (d.link_room - 1)

-- a pointer of a record before the tail
abbrev pub IsPointerBelow : ℕ → DraftLink → Type 0
IsPointerBelow tail link = (link.from < tail) × (4 ≤ link.k) × (link.k < 8)

-- the store that fills a pointer
abbrev pub store_of : DraftLink → Store
store_of link = record { word = 8 * link.from + link.k; value = link.to }

-- the words with the draft's pointers filled, and its records behind them
abbrev pub applied : DraftRows → List ℕ → List ℕ
applied d words = stored (map store_of d.links) words ++ concat d.rows

-- what holds of every draft
pub record IsDraft (tail : ℕ) (rows : List (List ℕ)) (links : List DraftLink) : Type 0 where
  pub rows_fit : length rows ≤ most_rows tail
  pub links_fit : length links < 2 ^ 32
  pub pointers : AllByRecursion (IsPointerBelow tail) links
