-- Inner: no clause of `run` is made of it.
-- Which empty pointers a new record fills.
use Rattle.std.specs.Prelude.{◌≡◌, ℕ, zero, suc, ◌+◌, ◌*◌, ◌<◌, Bool, true, false, ◌==◌, List, [], ◌∷◌, ◌++◌, length, get_or, Option, Some, None, slice_index, IsFalse}
use Rattle.std.specs.List.{AllByRecursion, slice_get, list_any}
use Rattle.op_model.specs.declared.base.Pair.{Pair}
use Rattle.op_model.specs.declared.entry.Entry.{Entry}
use Rattle.op_model.specs.Edges.{same_pair}
use Rattle.graph_model.specs.Lists.{has}
use Rattle.op_model.specs.declared.entry.Changed.{Changed}
use Rattle.record_rows.specs.Rows.{Row, NodeRow, EdgeRow, ChangeRow, ItemRow, EntryRow, Node, Item}
use Rattle.record_rows.specs.Chains.{Aim, Nowhere, First, Next, aims, retires}
use Rattle.row_append.specs.Ends.{IsHeaded}
use Rattle.row_append.specs.declared.tail.Tail.{Tail}
use Rattle.record_rows.specs.Words.{words_of}

-- whether a pointer with this aim is to lead to the record
unfoldable pub passes : Aim → Row → Bool
passes Nowhere row = false
passes (First test) row = test row
passes (Next test) row = test row

-- the word of this number is an empty pointer that is to lead to the new record: the k-th, from 0, of the record at a place
pub record IsAimed (rows : List Row) (new : Row) (word : ℕ) : Type 0 where
  pub place : ℕ
  pub k : ℕ
  pub row : Row
  pub there : slice_get rows place ≡ Some row
  pub pointer : k < 4
  pub number : word ≡ 8 * place + (4 + k)
  pub passing : passes (get_or (aims row) k Nowhere) new ≡ true
  pub empty : slice_index (words_of rows) word ≡ 0

-- an item of this entry, or its record
unfoldable pub is_item_of : ℕ → Row → Bool
is_item_of n (ItemRow i) = i.entry == n
is_item_of n (EntryRow e) = e.number == n
is_item_of n row = false

-- a change of this entry, or its record
unfoldable pub is_change_of : ℕ → Row → Bool
is_change_of n (ChangeRow entry c) = entry == n
is_change_of n (EntryRow e) = e.number == n
is_change_of n row = false

-- the entry of this number
unfoldable pub is_entry : ℕ → Row → Bool
is_entry n (EntryRow e) = n == e.number
is_entry n row = false

-- The items of an entry end at a place: the last record of all is one of them. Or there is none yet.
abbrev pub ItemsEnd : ℕ → List Row → Option ℕ → Type 0
ItemsEnd n rows None = IsFalse (list_any (is_item_of n) rows)
ItemsEnd n rows (Some p) = (front : List Row) × (last : Item) × IsHeaded front × (rows ≡ front ++ ItemRow last ∷ []) × (last.entry ≡ n) × (p ≡ length front)

-- So do its changes.
abbrev pub ChangesEnd : ℕ → List Row → Option ℕ → Type 0
ChangesEnd n rows None = IsFalse (list_any (is_change_of n) rows)
ChangesEnd n rows (Some p) = (front : List Row) × (last : Changed) × IsHeaded front × (rows ≡ front ++ ChangeRow n last ∷ []) × (p ≡ length front)

-- this pointer of the record at a place, if there is one
abbrev pub tails_before : ℕ → Option ℕ → List Tail
tails_before word None = []
tails_before word (Some p) = record { spot = p; word = word } ∷ []

-- whether the k-th pointer of a record leads along the changes of a pair
unfoldable pub to_changes : Pair → Row → ℕ → Bool
to_changes p (EdgeRow made e) zero = same_pair p e.pair
to_changes p (ChangeRow entry c) (suc zero) = same_pair p c.pair
to_changes p row k = false

-- the word of this number is a pointer along the changes of a pair
pub record IsToChanges (p : Pair) (rows : List Row) (word : ℕ) : Type 0 where
  pub place : ℕ
  pub k : ℕ
  pub row : Row
  pub there : slice_get rows place ≡ Some row
  pub pointer : k < 4
  pub leads : to_changes p row k ≡ true
  pub number : word ≡ 8 * place + (4 + k)

-- the word of this number is the one empty pointer along the changes of a pair
pub record ChangesEndAt (p : Pair) (rows : List Row) (word : ℕ) : Type 0 where
  pub along : IsToChanges p rows word
  pub empty : slice_index (words_of rows) word ≡ 0
  pub only : (other : ℕ) → IsToChanges p rows other → slice_index (words_of rows) other ≡ 0 → other ≡ word

-- the pointers of these nodes to the entry that retires them
abbrev pub tails_at : List ℕ → List Tail
tails_at [] = []
tails_at (p ∷ ps) = record { spot = p; word = 6 } ∷ tails_at ps

-- each place once
abbrev pub Differ : List ℕ → Type 0
Differ [] = Unit {0}
Differ (p ∷ ps) = (has ps p ≡ false) × Differ ps

-- These are the places of the nodes that the entry retires: those of its nodes that no entry retired before.
pub record AreRetired (e : Entry) (rows : List Row) (places : List ℕ) : Type 0 where
  pub all : AllByRecursion (λ p. (n : Node) × (slice_get rows p ≡ Some (NodeRow n)) × (retires n (EntryRow e) ≡ true) × (slice_index (words_of rows) (8 * p + 6) ≡ 0)) places
  pub only : (p : ℕ) (n : Node) → slice_get rows p ≡ Some (NodeRow n) → retires n (EntryRow e) ≡ true → slice_index (words_of rows) (8 * p + 6) ≡ 0 → has places p ≡ true
  pub differ : Differ places
