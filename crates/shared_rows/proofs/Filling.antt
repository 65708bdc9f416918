-- The records of a draft, stored word by word, and what they publish.
use Rattle.std.proofs.Common.{◌≡◌, ◌≢◌, ℕ, zero, suc, ◌+◌, ◌-◌, ◌*◌, ◌/◌, ◌%◌, ◌<◌, ◌≤◌, Bool, true, false, ◌||◌, eqb, leb, eq-eqb, ne_eqb, Some, None, is_some, List, [], ◌∷◌, ◌++◌, length, length-append, map, take, set, inl, inr, refl, sym, ap, ◌∙◌, subst, arith, append-nil, append_assoc}
use Rattle.std.specs.Prelude.{slice_index, slice_get, max}
use Rattle.std.specs.Option.{unwrap_or}
use Rattle.std.specs.List.{AllByRecursion, concat}
use Rattle.std.proofs.lemmas.List.{get_or_append_left, get_or-append_right, get_or-set_same, get_or-set_other, take_more, map-append, ext_get_or}
use Rattle.std.proofs.lemmas.List.Folds.{concat-append}
use Rattle.std.proofs.lemmas.Option.{slice_get_within, get_or_from_slice_get}
use mathlib.Core.Logic.{dite}
use native.Mathlib.Decide.{ℕ_discrete, dec_lt}
use Rattle.op_model.specs.declared.entry.Entry.{Entry}
use Rattle.record_rows.specs.Growth.{Store, stored, names_word}
use Rattle.record_rows.specs.Images.{is_pointer, trimmed}
use Rattle.record_rows.specs.Readings.{Image}
use Rattle.record_rows.proofs.StoreLemmas.{length-stored}
use Rattle.row_words.specs.declared.draft.DraftLink.{DraftLink}
use Rattle.row_words.specs.Drafts.{DraftRows, IsPointerBelow, applied, store_of}
use Rattle.shared_rows.specs.declared.view.View.{View}
use Rattle.shared_rows.specs.Board.{stored_at}
use Rattle.shared_rows.specs.Drafting.{word_of, words_by, end_of, MayStore, Whole, Fills, WordsDiffer, Adds, stores_in, rows_in, with_words, with_links, with_draft}
use Rattle.shared_rows.specs.Plays.{with_store}
use Rattle.shared_rows.proofs.Words.{image-trimmed, image-closed}
use Rattle.shared_rows.proofs.Boards.{off}
use Rattle.shared_rows.proofs.Drafts.{stored-here, stored-else}
use Rattle.shared_rows.proofs.Publishing.{length-words_by, word-words_by}

-- rows

rows-append : (b : ℕ) (xs ys : List ℕ) (d : List (ℕ × ℕ)) → rows_in b (xs ++ ys) d ≡ rows_in (b + length xs) ys (rows_in b xs d)
rows-append b [] ys d = let e : b ≡ b + 0 = omega arith in ap (λ n. rows_in n ys d) e
rows-append b (x ∷ xs) ys d = let e : suc b + length xs ≡ b + length (x ∷ xs) = omega arith in rows-append (suc b) xs ys ((b, x) ∷ d) ∙ ap (λ n. rows_in n ys (rows_in (suc b) xs ((b, x) ∷ d))) e

take-length : (xs : List ℕ) (i : ℕ) → i ≤ length xs → length (take i xs) ≡ i
take-length xs zero h = refl
take-length [] (suc i) h = absurd (omega arith)
take-length (x ∷ xs) (suc i) h = ap suc (take-length xs i (omega arith))

-- one row word more
pub word-more : (v : View) (b : ℕ) (row : List ℕ) (j at : ℕ) → at ≡ b + j → j < length row → with_store (with_words v b (take j row)) at (slice_index row j) ≡ with_words v b (take (j + 1) row)
word-more v b row j at is low =
    let n = take-length row j (omega arith) in
    ap (λ (d : List (ℕ × ℕ)). let w : View = record v { draft = d } in w)
    (ap (λ m. (m, slice_index row j) ∷ rows_in b (take j row) v.draft) (is ∙ sym (ap (λ m. b + m) n)) ∙ sym (rows-append b (take j row) (slice_index row j ∷ []) v.draft)
    ∙ ap (λ l. rows_in b l v.draft) (sym (take_more row j 0 low)))

take_got : {X : Type 0} (xs : List X) (k : ℕ) (x : X) → slice_get xs k ≡ Some x → take (k + 1) xs ≡ take k xs ++ x ∷ []
take_got xs k x h = take_more xs k x (slice_get_within xs k x h) ∙ ap (λ y. take k xs ++ y ∷ []) (get_or_from_slice_get xs k x x h)

concat-more : (rows : List (List ℕ)) (k : ℕ) (row : List ℕ) → slice_get rows k ≡ Some row → concat (take (k + 1) rows) ≡ concat (take k rows) ++ row
concat-more rows k row h = ap concat (take_got rows k row h) ∙ concat-append (take k rows) (row ∷ []) ∙ ap (λ (l : List ℕ). concat (take k rows) ++ l) (append-nil row)

-- one row more
pub row-more : (v : View) (b : ℕ) (rows : List (List ℕ)) (k at : ℕ) (row : List ℕ) → slice_get rows k ≡ Some row → length (concat (take k rows)) ≡ 8 * k → at ≡ b + 8 * k
    → with_words (with_words v b (concat (take k rows))) at row ≡ with_words v b (concat (take (k + 1) rows))
row-more v b rows k at row h long is =
    ap (λ (d : List (ℕ × ℕ)). let w : View = record v { draft = d } in w)
    (ap (λ n. rows_in n row (rows_in b (concat (take k rows)) v.draft)) (is ∙ sym (ap (λ n. b + n) long)) ∙ sym (rows-append b (concat (take k rows)) row v.draft) ∙ ap (λ l. rows_in b l v.draft) (sym (concat-more rows k row h)))

pub long-more : (rows : List (List ℕ)) (k : ℕ) (row : List ℕ) → slice_get rows k ≡ Some row → length row ≡ 8 → length (concat (take k rows)) ≡ 8 * k → length (concat (take (k + 1) rows)) ≡ 8 * (k + 1)
long-more rows k row h eight long = let e = ap (λ (l : List ℕ). length l) (concat-more rows k row h) in let n = length-append (concat (take k rows)) row in omega arith

stored-below : (b : ℕ) (xs : List ℕ) (d : List (ℕ × ℕ)) (k : ℕ) → k < b → stored_at k (rows_in b xs d) ≡ stored_at k d
stored-below b [] d k h = refl
stored-below b (x ∷ xs) d k h = stored-below (suc b) xs ((b, x) ∷ d) k (omega arith) ∙ stored-else k b x d (λ same. omega arith)

stored-row : (b : ℕ) (xs : List ℕ) (d : List (ℕ × ℕ)) (i : ℕ) → i < length xs → stored_at (b + i) (rows_in b xs d) ≡ Some (slice_index xs i)
stored-row b [] d i h = absurd (omega arith)
stored-row b (x ∷ xs) d zero h = let e : b + 0 ≡ b = omega arith in ap (λ k. stored_at k (rows_in (suc b) xs ((b, x) ∷ d))) e ∙ stored-below (suc b) xs ((b, x) ∷ d) b (omega arith) ∙ stored-here b x d
stored-row b (x ∷ xs) d (suc i) h = let e : b + suc i ≡ suc b + i = omega arith in ap (λ k. stored_at k (rows_in (suc b) xs ((b, x) ∷ d))) e ∙ stored-row (suc b) xs ((b, x) ∷ d) i (omega arith)

-- no pointer below the tail was stored by the rows
pub rows-leave : (v : View) (ws : List ℕ) → v.draft ≡ [] → (k : ℕ) → k < 8 * v.tail → stored_at k (with_words v (8 * v.tail) ws).draft ≡ None
rows-leave v ws clean k low = stored-below (8 * v.tail) ws v.draft k low ∙ ap (stored_at k) clean

-- links

stores-snoc : (ss : List Store) (s : Store) (d : List (ℕ × ℕ)) → stores_in (ss ++ s ∷ []) d ≡ (s.word, s.value) ∷ stores_in ss d
stores-snoc [] s d = refl
stores-snoc (x ∷ xs) s d = stores-snoc xs s ((x.word, x.value) ∷ d)

-- one pointer more
pub link-more : (v : View) (links : List DraftLink) (k : ℕ) (l : DraftLink) → slice_get links k ≡ Some l → with_store (with_links v (take k links)) (8 * l.from + l.k) l.to ≡ with_links v (take (k + 1) links)
link-more v links k l h =
    ap (λ (d : List (ℕ × ℕ)). let w : View = record v { draft = d } in w)
    (sym (ap (λ ls. stores_in (map store_of ls) v.draft) (take_got links k l h) ∙ ap (λ ss. stores_in ss v.draft) (map-append store_of (take k links) (l ∷ [])) ∙ stores-snoc (map store_of (take k links)) (store_of l) v.draft))

unnamed : (ss : List Store) (i : ℕ) (d : List (ℕ × ℕ)) → names_word ss i ≡ false → stored_at i d ≡ None → stored_at i (stores_in ss d) ≡ None
unfolding names_word
unnamed [] i d h e = e
unnamed (s ∷ ss) i d h e = dite (ℕ_discrete i s.word)
    (λ same. absurd (off (sym h ∙ ap (λ c. c || names_word ss i) (eq-eqb s.word i (sym same)))))
    (λ apart. unnamed ss i ((s.word, s.value) ∷ d) (sym (ap (λ c. c || names_word ss i) (ne_eqb s.word i (λ x. apart (sym x)))) ∙ h) (stored-else i s.word s.value d apart ∙ e))

named-not : (links : List DraftLink) (k : ℕ) (l : DraftLink) (i : ℕ) → names_word (map store_of links) i ≡ false → slice_get links k ≡ Some l → (store_of l).word ≢ i
unfolding names_word
named-not [] k l i h e = absurd (off (ap is_some e))
named-not (x ∷ xs) zero l i h e = λ same. off (sym h ∙ ap (λ c. c || names_word (map store_of xs) i) (eq-eqb (store_of x).word i (ap (λ (o : _). (store_of (unwrap_or o x)).word) e ∙ same)))
named-not (x ∷ xs) (suc k) l i h e = named-not xs k l i (rest (eqb (store_of x).word i) (names_word (map store_of xs) i) h) e
  where
    rest : (p q : Bool) → (p || q) ≡ false → q ≡ false
    rest true q h = absurd (off (sym h))
    rest false q h = h

differ-before : (links : List DraftLink) (k : ℕ) (l : DraftLink) → WordsDiffer (map store_of links) → slice_get links k ≡ Some l → names_word (map store_of (take k links)) (store_of l).word ≡ false
unfolding names_word
differ-before [] k l d e = absurd (off (ap is_some e))
differ-before (x ∷ xs) zero l d e = refl
differ-before (x ∷ xs) (suc k) l d e = ap (λ c. c || names_word (map store_of (take k xs)) (store_of l).word) (ne_eqb (store_of x).word (store_of l).word (λ same. named-not xs k l (store_of x).word d.0 e (sym same))) ∙ differ-before xs k l d.1 e

all-at : {X : Type 0} (P : X → Type 0) (xs : List X) (k : ℕ) (x : X) → AllByRecursion P xs → slice_get xs k ≡ Some x → P x
all-at P [] k x h e = absurd (off (ap is_some e))
all-at P (y ∷ ys) zero x h e = subst P (ap (λ o. unwrap_or o y) e) h.0
all-at P (y ∷ ys) (suc k) x h e = all-at P ys k x h.1 e

all-snoc : {X : Type 0} (P : X → Type 0) (xs : List X) (x : X) → AllByRecursion P xs → P x → AllByRecursion P (xs ++ x ∷ [])
all-snoc P [] x h p = (p, tt)
all-snoc P (y ∷ ys) x h p = (h.0, all-snoc P ys x h.1 p)

-- what the loop over the links needs of each, and keeps
pub link-fills : (v : View) (links : List DraftLink) (k : ℕ) (l : DraftLink) → AllByRecursion (λ l. Fills v (store_of l)) links → slice_get links k ≡ Some l → Fills v (store_of l)
link-fills v links k l h e = all-at (λ l. Fills v (store_of l)) links k l h e

pub link-clean : (v : View) (links : List DraftLink) (k : ℕ) (l : DraftLink) → WordsDiffer (map store_of links) → slice_get links k ≡ Some l → stored_at (8 * l.from + l.k) v.draft ≡ None
    → stored_at (8 * l.from + l.k) (with_links v (take k links)).draft ≡ None
link-clean v links k l differ e clean = unnamed (map store_of (take k links)) (8 * l.from + l.k) v.draft (differ-before links k l differ e) clean

pub pointers-more : (tail : ℕ) (links : List DraftLink) (k : ℕ) (l : DraftLink) → slice_get links k ≡ Some l → AllByRecursion (IsPointerBelow tail) (take k links) → l.from < tail → (4 ≤ l.k) × (l.k < 8)
    → AllByRecursion (IsPointerBelow tail) (take (k + 1) links)
pointers-more tail links k l e h below pointer = subst (AllByRecursion (IsPointerBelow tail)) (sym (take_got links k l e)) (all-snoc (IsPointerBelow tail) (take k links) l h (below, pointer.0, pointer.1))

pub pointer-word : (from k : ℕ) → 4 ≤ k → k < 8 → is_pointer (8 * from + k) ≡ true
unfolding is_pointer
pointer-word from k low high = let e : (8 * from + k) % 8 ≡ k = omega arith in ap (leb 4) e ∙ Rattle.std.proofs.lemmas.Bool.le-leb 4 k low

-- a link may be stored
pub link-may : (v : View) (l : DraftLink) → l.from < v.tail → (4 ≤ l.k) × (l.k < 8) → Fills v (store_of l) → stored_at (8 * l.from + l.k) v.draft ≡ None → MayStore v (8 * l.from + l.k) l.to
link-may v l below pointer fills clean =
    let p = pointer.0 in let q = pointer.1 in
    inr (omega arith, pointer-word l.from l.k p q, ap (λ o. unwrap_or o (slice_index v.image (8 * l.from + l.k))) clean ∙ fills.0, fills.1)

-- a pointer may be filled
pub fill_may : (v : View) (word value : ℕ) → word < 8 * v.tail → is_pointer word ≡ true → (slice_index v.image word ≡ 0) × (v.tail ≤ value) → stored_at word v.draft ≡ None → MayStore v word value
fill_may v word value below pointer fills clean = inr (below, pointer, ap (λ o. unwrap_or o (slice_index v.image word)) clean ∙ fills.0, fills.1)

-- the whole draft

words-below : (tail : ℕ) (links : List DraftLink) → AllByRecursion (IsPointerBelow tail) links → AllByRecursion (λ (s : Store). s.word < 8 * tail) (map store_of links)
words-below tail [] h = tt
words-below tail (l ∷ ls) h = let a = h.0.0 in let b = h.0.2 in (omega arith, words-below tail ls h.1)

-- words above those of the stores stay as they are
stored-high : (n : ℕ) (ss : List Store) (k : ℕ) (d : List (ℕ × ℕ)) → AllByRecursion (λ (s : Store). s.word < n) ss → n ≤ k → stored_at k (stores_in ss d) ≡ stored_at k d
stored-high n [] k d h le = refl
stored-high n (s ∷ ss) k d h le = let a = h.0 in stored-high n ss k ((s.word, s.value) ∷ d) h.1 le ∙ stored-else k s.word s.value d (λ same. omega arith)

-- what a draft tells of words, after stores
stores-tell : (n : ℕ) (ss : List Store) (d : List (ℕ × ℕ)) (image ws : List ℕ) → n ≤ length ws → AllByRecursion (λ (s : Store). s.word < n) ss → ((k : ℕ) → k < n → unwrap_or (stored_at k d) (slice_index image k) ≡ slice_index ws k)
    → (k : ℕ) → k < n → unwrap_or (stored_at k (stores_in ss d)) (slice_index image k) ≡ slice_index (stored ss ws) k
unfolding stored
stores-tell n [] d image ws long below h k low = h k low
stores-tell n (s ∷ ss) d image ws long below h k low =
    let a = below.0 in
    let same : length (set ws s.word s.value) ≡ length ws = Rattle.std.proofs.Common.length-set ws s.word s.value in
    stores-tell n ss ((s.word, s.value) ∷ d) image (set ws s.word s.value) (omega arith) below.1
    (λ j lj. dite (ℕ_discrete j s.word)
    (λ here. ap (λ i. unwrap_or (stored_at i ((s.word, s.value) ∷ d)) (slice_index image i)) here ∙ ap (λ o. unwrap_or o (slice_index image s.word)) (stored-here s.word s.value d)
    ∙ sym (ap (λ i. slice_index (set ws s.word s.value) i) here ∙ get_or-set_same ws s.word s.value 0 (omega arith)))
    (λ apart. ap (λ o. unwrap_or o (slice_index image j)) (stored-else j s.word s.value d apart) ∙ h j lj ∙ sym (get_or-set_other ws s.word j s.value 0 apart)))
    k low

abbrev top : ℕ → ℕ → ℕ
top b zero = 0
top b (suc m) = (b + m) / 8 + 1

end-rows : (b : ℕ) (xs : List ℕ) (d : List (ℕ × ℕ)) → end_of (rows_in b xs d) ≡ max (top b (length xs)) (end_of d)
end-rows b [] d = let z : max 0 (end_of d) ≡ end_of d = omega arith in sym z
end-rows b (x ∷ xs) d = end-rows (suc b) xs ((b, x) ∷ d) ∙ by_length (length xs)
  where
    by_length : (m : ℕ) → max (top (suc b) m) (max (b / 8 + 1) (end_of d)) ≡ max (top b (suc m)) (end_of d)
    by_length zero = let e : b + 0 ≡ b = omega arith in ap (λ n. max 0 (max (n / 8 + 1) (end_of d))) (sym e) ∙ omega arith
    by_length (suc m) = omega arith

end-stores : (n e : ℕ) (ss : List Store) (d : List (ℕ × ℕ)) → AllByRecursion (λ (s : Store). s.word < 8 * n) ss → n ≤ e → end_of d ≡ e → end_of (stores_in ss d) ≡ e
end-stores n e [] d h le is = is
end-stores n e (s ∷ ss) d h le is = let a = h.0 in end-stores n e ss ((s.word, s.value) ∷ d) h.1 le (omega arith)

module _ (v : View) (d : DraftRows) (e : Entry) (clean : v.draft ≡ []) (long : length v.image ≡ 8 * v.tail) (eights : length (concat d.rows) ≡ 8 * length d.rows) (pointers : AllByRecursion (IsPointerBelow d.tail) d.links) (adds : Adds v d e) where
  abbrev t : ℕ
  t = v.tail + length d.rows

  abbrev w : View
  w = with_draft v d

  abbrev rows_draft : List (ℕ × ℕ)
  rows_draft = rows_in (8 * v.tail) (concat d.rows) v.draft

  below : AllByRecursion (λ (s : Store). s.word < 8 * v.tail) (map store_of d.links)
  below = words-below v.tail d.links (subst (λ n. AllByRecursion (IsPointerBelow n) d.links) adds.tail pointers)

  end-is : end_of w.draft ≡ t
  end-is = end-stores v.tail t (map store_of d.links) rows_draft below (omega arith) (end-rows (8 * v.tail) (concat d.rows) v.draft ∙ ap (λ (n : ℕ). max (top (8 * v.tail) n) (end_of v.draft)) eights ∙ ap (λ (x : List (ℕ × ℕ)). max (top (8 * v.tail) (8 * length d.rows)) (end_of x)) clean ∙ last (length d.rows) adds.some)
    where
      last : (n : ℕ) → 0 < n → max (top (8 * v.tail) (8 * n)) 0 ≡ v.tail + n
      last zero h = absurd (omega arith)
      last (suc n) h =
          let x : 8 * suc n ≡ suc (8 * n + 7) = omega arith in
          let y : max ((8 * v.tail + (8 * n + 7)) / 8 + 1) 0 ≡ v.tail + suc n = omega arith in ap (λ m. max (top (8 * v.tail) m) 0) x ∙ y

  high : (k : ℕ) → 8 * v.tail ≤ k → k < 8 * t → stored_at k w.draft ≡ Some (slice_index (concat d.rows) (k - 8 * v.tail))
  high k above under =
      let x : k ≡ 8 * v.tail + (k - 8 * v.tail) = omega arith in
      stored-high (8 * v.tail) (map store_of d.links) k rows_draft below above ∙ ap (λ j. stored_at j rows_draft) x ∙ stored-row (8 * v.tail) (concat d.rows) v.draft (k - 8 * v.tail) (omega arith)

  abbrev after : List ℕ
  after = applied d v.image

  front : length (stored (map store_of d.links) v.image) ≡ 8 * v.tail
  front = length-stored (map store_of d.links) v.image ∙ long

  after-long : length after ≡ 8 * t
  after-long = let n = length-append (stored (map store_of d.links) v.image) (concat d.rows) in let f = front in omega arith

  words-are : (k : ℕ) → k < 8 * t → word_of w k ≡ slice_index after k
  words-are k h = by_place (dec_lt k (8 * v.tail))
    where
      by_place : Dec (k < 8 * v.tail) → word_of w k ≡ slice_index after k
      by_place (yes low) = let f = front in
          stores-tell (8 * v.tail) (map store_of d.links) rows_draft v.image v.image (omega arith) below
          (λ j lj. ap (λ o. unwrap_or o (slice_index v.image j)) (stored-below (8 * v.tail) (concat d.rows) v.draft j lj ∙ ap (stored_at j) clean)) k low
          ∙ sym (get_or_append_left (stored (map store_of d.links) v.image) (concat d.rows) 0 k (omega arith))
      by_place (no not_low) = ap (λ o. unwrap_or o (slice_index v.image k)) (high k (omega arith) h) ∙ sym (get_or-append_right (stored (map store_of d.links) v.image) (concat d.rows) (8 * v.tail) k 0 front (omega arith))

  same-words : words_by (word_of w) 0 (8 * t) ≡ after
  same-words = let n = length-words_by (word_of w) 0 (8 * t) in let m = after-long in
      ext_get_or 0 (words_by (word_of w) 0 (8 * t)) after (n ∙ sym m) (λ i h. let z : 0 + i ≡ i = omega arith in word-words_by (word_of w) 0 (8 * t) i (omega arith) ∙ ap (word_of w) z ∙ words-are i (omega arith))

  pub whole-draft : Whole w (end_of w.draft) e
  whole-draft = let s = adds.some in subst (λ (n : ℕ). Whole w n e) (sym end-is) record {
    more = omega arith;
    room = adds.room;
    covered = λ k above under. subst (λ o. is_some o ≡ true) (sym (high k above under)) refl;
    closed = λ k under pointer. subst (λ (n : ℕ). n < t) (sym (words-are k under)) (image-closed v.dataset v.base (e ∷ v.log) after t adds.stands after-long k under pointer);
    stands = subst (λ (i : List ℕ). Image v.dataset v.base (e ∷ v.log) i) (sym (ap (λ (l : List ℕ). trimmed l t) same-words ∙ image-trimmed v.dataset v.base (e ∷ v.log) after t adds.stands after-long)) adds.stands;
    client = adds.client;
    pinned = adds.pinned;
  }
