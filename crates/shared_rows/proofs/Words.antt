-- Words of an image, and the stores that change none.
use Rattle.std.proofs.Common.{cond, ◌≡◌, ℕ, zero, suc, ◌+◌, ◌*◌, ◌<◌, ◌≤◌, ◌⊎◌, true, false, ◌&&◌, leb, List, [], ◌∷◌, length, take, get_or, refl, sym, ap, ◌∙◌, ⊎_elim, arith, append-nil}
use Rattle.std.specs.Prelude.{slice_index, slice_set}
use Rattle.std.proofs.lemmas.Bool.{le-leb, lt-leb}
use Rattle.std.proofs.lemmas.List.{ext_get_or, length-take-le}
use native.Mathlib.Decide.{dec_lt}
use Rattle.op_model.specs.declared.base.Dataset.{Dataset}
use Rattle.op_model.specs.declared.base.Base.{Base}
use Rattle.op_model.specs.declared.entry.Entry.{Entry}
use Rattle.record_rows.specs.Rows.{Row}
use Rattle.record_rows.specs.Words.{words_of}
use Rattle.record_rows.specs.LogRows.{rows_of}
use Rattle.record_rows.specs.Images.{is_pointer, trimmed_word, trimmed_from, trimmed}
use Rattle.record_rows.specs.Readings.{Image}
use Rattle.record_rows.proofs.ImageLemmas.{trimmed-words_of}
use Rattle.record_rows.proofs.StoreLaw.{trimmed-set_above, trimmed-set_pointer}
use Rattle.record_rows.proofs.TellLemmas.{length-words_of}

length-trimmed_from : (tail i : ℕ) (ws : List ℕ) → length (trimmed_from tail i ws) ≡ length ws
unfolding trimmed_from
length-trimmed_from tail i [] = refl
length-trimmed_from tail i (w ∷ ws) = ap suc (length-trimmed_from tail (i + 1) ws)

pub length-trimmed : (rows : List ℕ) (t : ℕ) → 8 * t ≤ length rows → length (trimmed rows t) ≡ 8 * t
unfolding trimmed
length-trimmed rows t h = length-trimmed_from t 0 (take (8 * t) rows) ∙ length-take-le (8 * t) rows h

word-trimmed_from : (tail s n k : ℕ) (ws : List ℕ) → k < n → n ≤ length ws → get_or (trimmed_from tail s (take n ws)) k 0 ≡ trimmed_word tail (s + k) (get_or ws k 0)
unfolding trimmed_from
word-trimmed_from tail s zero k ws h l = absurd (omega arith)
word-trimmed_from tail s (suc n) k [] h l = absurd (omega arith)
word-trimmed_from tail s (suc n) zero (w ∷ ws) h l = let e : s ≡ s + 0 = omega arith in ap (λ j. trimmed_word tail j w) e
word-trimmed_from tail s (suc n) (suc k) (w ∷ ws) h l =
    let e : s + 1 + k ≡ s + suc k = omega arith in word-trimmed_from tail (s + 1) n k ws (omega arith) (omega arith) ∙ ap (λ j. trimmed_word tail j (get_or ws k 0)) e

-- the word of an image is the word of the rows, trimmed
pub word-trimmed : (rows : List ℕ) (t k : ℕ) → 8 * t ≤ length rows → k < 8 * t → slice_index (trimmed rows t) k ≡ trimmed_word t k (slice_index rows k)
unfolding trimmed
word-trimmed rows t k l h = let e : 0 + k ≡ k = omega arith in word-trimmed_from t 0 (8 * t) k rows h l ∙ ap (λ j. trimmed_word t j (slice_index rows k)) e

pub trim-high : (t k word : ℕ) → is_pointer k ≡ true → t ≤ word → trimmed_word t k word ≡ 0
unfolding trimmed_word
trim-high t k word p h = rw (p, le-leb t word h) refl

pub trim-low : (t k word : ℕ) → word < t → trimmed_word t k word ≡ word
unfolding trimmed_word
trim-low t k word h = rw (lt-leb t word h) (elim (is_pointer k) as (λ b. (cond (b && false) 0 word) ≡ word) [ true ↦ refl | false ↦ refl ])

pub trim-plain : (t k word : ℕ) → is_pointer k ≡ false → trimmed_word t k word ≡ word
unfolding trimmed_word
trim-plain t k word e = ap (λ c. cond (c && leb t word) 0 word) e

-- rows whose words below 8 t are the same as a reader at t sees them
pub same-trimmed : (rows rows' : List ℕ) (t : ℕ) → 8 * t ≤ length rows → 8 * t ≤ length rows' → ((k : ℕ) → k < 8 * t → trimmed_word t k (slice_index rows k) ≡ trimmed_word t k (slice_index rows' k)) → trimmed rows t ≡ trimmed rows' t
same-trimmed rows rows' t l l' h =
    let n : length (trimmed rows t) ≡ 8 * t = length-trimmed rows t l in
    let n' : length (trimmed rows' t) ≡ 8 * t = length-trimmed rows' t l' in
    ext_get_or 0 (trimmed rows t) (trimmed rows' t) (n ∙ sym n') (λ i b. word-trimmed rows t i l (omega arith) ∙ h i (omega arith) ∙ sym (word-trimmed rows' t i l' (omega arith)))

-- what a store may fill: a word at or above the tail, or an empty pointer below it with a target at or above it
abbrev pub Fillable : List ℕ → ℕ → ℕ → ℕ → Type 0
Fillable rows tail k word = (8 * tail ≤ k) ⊎ ((is_pointer k ≡ true) × (slice_index rows k ≡ 0) × (tail ≤ word))

-- a store of a fillable word changes no image up to the tail
pub fill-keeps : (rows : List ℕ) (t tail j word : ℕ) → t ≤ tail → Fillable rows tail j word → trimmed (slice_set rows j word) t ≡ trimmed rows t
fill-keeps rows t tail j word below may = ⊎_elim
    (λ (high : 8 * tail ≤ j). trimmed-set_above rows t j word (omega arith))
    (λ (e : (is_pointer j ≡ true) × (slice_index rows j ≡ 0) × (tail ≤ word)). let f = e.2 in trimmed-set_pointer rows t j word e.0 e.1 (omega arith))
    may

-- the words of records need no trimming
pub trimmed-whole : (rows : List Row) → trimmed (words_of rows) (length rows) ≡ words_of rows
trimmed-whole rows = ap (λ (rs : List Row). trimmed (words_of rs) (length rows)) (sym (append-nil rows)) ∙ trimmed-words_of rows []

module _ (d : Dataset) (b : Base) (log : List Entry) (ws : List ℕ) (t : ℕ) (i : Image d b log ws) (long : length ws ≡ 8 * t) where
  count : length (rows_of d b log) ≡ t
  count = let n : length ws ≡ 8 * length (rows_of d b log) = ap length i.stands ∙ length-words_of (rows_of d b log) in omega arith

  -- an image is trimmed at its own end
  pub image-trimmed : trimmed ws t ≡ ws
  image-trimmed =
      let r : List Row = rows_of d b log in
      ap (trimmed ws) (sym count) ∙ ap (λ x. trimmed x (length r)) i.stands ∙ trimmed-whole r ∙ sym i.stands

  -- and no pointer of it leads past its end
  pub image-closed : (k : ℕ) → k < 8 * t → is_pointer k ≡ true → slice_index ws k < t
  image-closed k h p = elim (dec_lt (slice_index ws k) t) [
    | yes below ↦ below
    | no not_below ↦
        (let seen : slice_index ws k ≡ trimmed_word t k (slice_index ws k) = sym (ap (λ (l : List ℕ). slice_index l k) image-trimmed) ∙ word-trimmed ws t k (omega arith) h in
        let none : trimmed_word t k (slice_index ws k) ≡ 0 = trim-high t k (slice_index ws k) p (omega arith) in absurd (omega arith))
  ]
