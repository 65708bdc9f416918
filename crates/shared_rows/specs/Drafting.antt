-- Inner: no clause of `run` is made of it.
-- Drafts: the words that a view knows with its own stores, when a draft is whole, and which records may be drafted.
use Rattle.std.specs.Prelude.{◌≡◌, ℕ, zero, suc, ◌+◌, ◌*◌, ◌/◌, ◌<◌, ◌≤◌, ◌⊎◌, max, true, false, List, [], ◌∷◌, length, map, slice_index, IsSome}
use Rattle.std.specs.Option.{unwrap_or}
use Rattle.std.specs.List.{AllByRecursion, concat}
use Rattle.op_model.specs.declared.entry.Entry.{Entry}
use Rattle.record_rows.specs.Growth.{Store, names_word}
use Rattle.record_rows.specs.Images.{is_pointer, trimmed}
use Rattle.record_rows.specs.Readings.{Image}
use Rattle.row_words.specs.Drafts.{DraftRows, applied, store_of}
use Rattle.row_words.specs.declared.draft.DraftLink.{DraftLink}
use Rattle.shared_rows.specs.declared.view.View.{View}
use Rattle.shared_rows.specs.Board.{stored_at}
use Rattle.shared_rows.specs.Locks.{Covers}

-- the image of a view stands for the log that it has seen
abbrev pub IsSeen : View → Type 0
IsSeen v = Image v.dataset v.base v.log v.image

-- the word k of the rows, as far as the image and the draft tell
abbrev pub word_of : View → ℕ → ℕ
word_of v k = unwrap_or (stored_at k v.draft) (slice_index v.image k)

-- the n words f k, f (k + 1) and so on
abbrev pub words_by : (ℕ → ℕ) → ℕ → ℕ → List ℕ
words_by f k zero = []
words_by f k (suc n) = f k ∷ words_by f (suc k) n

-- the image at t with the draft's words in it
abbrev pub image_after : View → ℕ → List ℕ
image_after v t = trimmed (words_by (word_of v) 0 (8 * t)) t

-- where the records of a draft end: behind the last record that it stored a word of
abbrev pub end_of : List (ℕ × ℕ) → ℕ
end_of [] = 0
end_of (x ∷ xs) = max (x.0 / 8 + 1) (end_of xs)

-- the view may store n at the row word k: above its tail, or at a pointer below that is empty, with a target at or above the tail
abbrev pub MayStore : View → ℕ → ℕ → Type 0
MayStore v k n = (8 * v.tail ≤ k) ⊎ ((k < 8 * v.tail) × (is_pointer k ≡ true) × (word_of v k ≡ 0) × (v.tail ≤ n))

-- the draft is whole up to t: all its words are stored, no pointer leads further, and with it the image stands for the log seen with this entry more, whose client is the view's number and whose retired roots' locks are pinned
pub record Whole (v : View) (t : ℕ) (e : Entry) : Type 0 where
  pub more : v.tail < t
  pub room : t ≤ v.dataset.capacity
  pub covered : (k : ℕ) → 8 * v.tail ≤ k → k < 8 * t → IsSome (stored_at k v.draft)
  pub closed : (k : ℕ) → k < 8 * t → is_pointer k ≡ true → word_of v k < t
  pub stands : Image v.dataset v.base (e ∷ v.log) (image_after v t)
  pub client : e.client ≡ v.number
  pub pinned : Covers v.dataset.layout v.pinned e

-- a store to a pointer that is empty in the image, with a target at or above the tail
abbrev pub Fills : View → Store → Type 0
Fills v s = (slice_index v.image s.word ≡ 0) × (v.tail ≤ s.value)

-- no word is stored twice
abbrev pub WordsDiffer : List Store → Type 0
WordsDiffer [] = Unit {0}
WordsDiffer (s ∷ stores) = (names_word stores s.word ≡ false) × WordsDiffer stores

-- Records that may be drafted: they begin at the tail and end within the room, their links fill different pointers that are empty in the image and lead to new records, and with them the image stands for the log seen with this entry more, whose client is the view's number and whose retired roots' locks are pinned.
pub record Adds (v : View) (d : DraftRows) (e : Entry) : Type 0 where
  pub tail : d.tail ≡ v.tail
  pub some : 0 < length d.rows
  pub room : v.tail + length d.rows ≤ v.dataset.capacity
  pub fills : AllByRecursion (λ l. Fills v (store_of l)) d.links
  pub differ : WordsDiffer (map store_of d.links)
  pub stands : Image v.dataset v.base (e ∷ v.log) (applied d v.image)
  pub client : e.client ≡ v.number
  pub pinned : Covers v.dataset.layout v.pinned e

-- a draft after these stores, the first of them first
abbrev pub stores_in : List Store → List (ℕ × ℕ) → List (ℕ × ℕ)
stores_in [] d = d
stores_in (s ∷ stores) d = stores_in stores ((s.word, s.value) ∷ d)

-- a draft after these row words were stored, from the place b on
abbrev pub rows_in : ℕ → List ℕ → List (ℕ × ℕ) → List (ℕ × ℕ)
rows_in b [] d = d
rows_in b (x ∷ xs) d = rows_in (suc b) xs ((b, x) ∷ d)

-- the view after words were stored from the place b on
abbrev pub with_words : View → ℕ → List ℕ → View
with_words v b words = record v { draft = rows_in b words v.draft }

-- the view after pointers were filled
abbrev pub with_links : View → List DraftLink → View
with_links v links = record v { draft = stores_in (map store_of links) v.draft }

-- the view after all records of a draft were stored, and then its pointers
abbrev pub with_draft : View → DraftRows → View
with_draft v d = with_links (with_words v (8 * v.tail) (concat d.rows)) d.links
