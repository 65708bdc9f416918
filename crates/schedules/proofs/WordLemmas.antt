-- Words while they are looked for.
use Rattle.std.proofs.Common.{◌≡◌, ℕ, zero, suc, ◌+◌, ◌-◌, ◌<◌, ◌≤◌, true, false, List, [], ◌∷◌, ◌++◌, length, take, drop, get_or, ap, refl, sym, ◌∙◌, arith, length-drop}
use Rattle.std.specs.List.{list_any}
use Rattle.std.proofs.lemmas.Bool.{false≢true, or_parts}
use Rattle.std.proofs.lemmas.List.{drop_all, drop_more, take_more, take-append-drop}
use Rattle.std.proofs.lemmas.List.Folds.{list_any-append}
use Rattle.schedules.specs.Words.{extended, is_blank, is_start, words_of}

-- one blank more is passed over
pub blank_passed : (text : List ℕ) (at d : ℕ) → at < length text → is_blank (get_or text at d) ≡ true → words_of (drop (at + 1) text) ≡ words_of (drop at text)
unfolding words_of
blank_passed text at d h b = rw (drop_more text at d h) (rw b refl)

-- one byte more of a word
pub byte_taken : (text : List ℕ) (at d : ℕ) → at < length text → is_blank (get_or text at d) ≡ false → list_any is_blank (take at text) ≡ false → list_any is_blank (take (at + 1) text) ≡ false
byte_taken text at d h b e = ap (list_any is_blank) (take_more text at d h) ∙ (list_any-append is_blank (take at text) (get_or text at d ∷ []) ∙ (rw e (rw b refl)))

-- where a word ends
pub ends_there : (text : List ℕ) (at d : ℕ) → at < length text → is_blank (get_or text at d) ≡ true → is_start (drop at text) ≡ true
unfolding is_start
ends_there text at d h b = rw (drop_more text at d h) b

pub ends_last : (text : List ℕ) (at : ℕ) → length text ≤ at → is_start (drop at text) ≡ true
unfolding is_start
ends_last text at h = rw (drop_all at text h) refl

pub none_there : (text : List ℕ) (at : ℕ) → length text ≤ at → words_of (drop at text) ≡ []
unfolding words_of
none_there text at h = rw (drop_all at text h) refl

last_byte : (x : ℕ) (bs : List ℕ) → is_blank x ≡ false → is_start bs ≡ true → words_of (x ∷ bs) ≡ (x ∷ []) ∷ words_of bs
unfolding words_of
last_byte x bs b s = rw b (rw s refl)

inner_byte : (x : ℕ) (bs : List ℕ) → is_blank x ≡ false → is_start bs ≡ false → words_of (x ∷ bs) ≡ extended x (words_of bs)
unfolding words_of
inner_byte x bs b s = rw b (rw s refl)

starts_not : (y : ℕ) (bs : List ℕ) → is_blank y ≡ false → is_start (y ∷ bs) ≡ false
unfolding is_start
starts_not y bs b = b

-- bytes without a blank, and no more of them behind, are the first word
pub first_word : (xs rest : List ℕ) → list_any is_blank xs ≡ false → (xs ≡ [] → ⊥) → is_start rest ≡ true → words_of (xs ++ rest) ≡ xs ∷ words_of rest
first_word [] rest e n s = absurd (n refl)
first_word (x ∷ []) rest e n s = last_byte x rest (or_parts (is_blank x) false e).0 s
first_word (x ∷ y ∷ ys) rest e n s =
    let p = or_parts (is_blank x) (list_any is_blank (y ∷ ys)) e in
    let q = or_parts (is_blank y) (list_any is_blank ys) p.1 in
    inner_byte x (y ∷ ys ++ rest) p.0 (starts_not y (ys ++ rest) q.0) ∙ ap (extended x) (first_word (y ∷ ys) rest p.1 (λ k. cc) s)

-- the first word of a text that begins with none of the blanks
pub word_split : (text : List ℕ) (end d : ℕ) → 0 < length text → is_blank (get_or text 0 d) ≡ false → end ≤ length text → list_any is_blank (take end text) ≡ false → is_start (drop end text) ≡ true
    → (words_of text ≡ take end text ∷ words_of (drop end text)) × (0 < end)
unfolding is_start
word_split [] end d l b w e s = absurd (omega (arith, l))
word_split (x ∷ xs) zero d l b w e s = absurd (false≢true (sym b ∙ s))
word_split (x ∷ xs) (suc end) d l b w e s = (
  ap words_of (sym (take-append-drop (suc end) (x ∷ xs))) ∙ first_word (take (suc end) (x ∷ xs)) (drop (suc end) (x ∷ xs)) e (λ k. cc) s,
  omega arith,
)

-- the byte in front of what is left
first_left : (text : List ℕ) (k : ℕ) → get_or (drop k text) 0 0 ≡ get_or text k 0
first_left text zero = refl
first_left [] (suc k) = refl
first_left (x ∷ xs) (suc k) = first_left xs k

-- a text that is split behind its first word
pub split_there : (text rest first next : List ℕ) (k end : ℕ) → rest ≡ drop k text → k < length text → is_blank (get_or text k 0) ≡ false → words_of (drop k text) ≡ words_of text
    → end ≤ length rest → list_any is_blank (take end rest) ≡ false → is_start (drop end rest) ≡ true → first ≡ take end rest → next ≡ drop end rest
    → (words_of text ≡ first ∷ words_of next) × (length next < length text)
split_there text rest first next k end r l b same within whole start f n =
    let long : length rest ≡ length text - k = ap length r ∙ length-drop k text in
    let p = word_split rest end 0 (omega (arith, long, l)) (ap (λ xs. is_blank (get_or xs 0 0)) r ∙ (ap is_blank (first_left text k) ∙ b)) within whole start in
    let short : length next ≡ length rest - end = ap length n ∙ length-drop end rest in (
      sym same ∙ (ap words_of (sym r) ∙ (p.0 ∙ (ap (λ xs. xs ∷ words_of (drop end rest)) (sym f) ∙ ap (λ xs. first ∷ words_of xs) (sym n)))),
      (let o = p.1 in omega (arith, short, long, l, o, within)),
    )
