-- What a growing draft keeps, word by word: its pointers were empty before, and are filled once.
use Rattle.std.proofs.Common.{◌≡◌, ℕ, ◌+◌, ◌-◌, ◌*◌, ◌<◌, ◌≤◌, Bool, true, false, cond, eqb, ltb, List, [], ◌∷◌, ◌++◌, length, map, set, get_or, refl, sym, ◌∙◌, ap, subst, inl, inr, arith, append_assoc, length-append}
use Rattle.std.specs.List.{AllByRecursion, list_any}
use Rattle.std.proofs.lemmas.Bool.{eqb-false, ne_eqb, ltb-true, ltb-false, cases_lt}
use Rattle.std.proofs.lemmas.List.{length-set, get_or-set_same, get_or-set_other, get_or_append_left, set-append_left, set-append_right, map-append, get_or_past}
use Rattle.record_rows.specs.Growth.{Store, stored, names_word}
use Rattle.record_rows.proofs.StoreLemmas.{length-stored}
use Rattle.row_words.specs.declared.draft.DraftLink.{DraftLink}
use Rattle.row_words.specs.Drafts.{store_of}
use Rattle.grown_rows.specs.Growths.{Grown, grown_of, grown, with_words, with_pointer, word_of, Once, IsFilled, IsHeld}
use Rattle.row_append.proofs.Leaving.{or_none}

stored-append : (xs ys : List Store) (words : List ℕ) → stored (xs ++ ys) words ≡ stored ys (stored xs words)
unfolding stored
stored-append [] ys words = refl
stored-append (x ∷ xs) ys words = stored-append xs ys (set words x.word x.value)

-- words that no store names stay
stored_other : (stores : List Store) (words : List ℕ) (i : ℕ) → names_word stores i ≡ false → get_or (stored stores words) i 0 ≡ get_or words i 0
unfolding stored names_word
stored_other [] words i n = refl
stored_other (s ∷ stores) words i n =
    let q : (eqb s.word i ≡ false) × (list_any (λ t. eqb t.word i) stores ≡ false) = or_none (eqb s.word i) (list_any (λ t. eqb t.word i) stores) n in
    stored_other stores (set words s.word s.value) i q.1 ∙ get_or-set_other words s.word i s.value 0 (λ e. eqb-false s.word i q.0 (sym e))

named_last : (stores : List Store) (word value i : ℕ) → names_word stores i ≡ false → eqb word i ≡ false → names_word (stores ++ record { word = word; value = value } ∷ []) i ≡ false
unfolding names_word
named_last [] word value i n e = rw e refl
named_last (s ∷ stores) word value i n e =
    let q : (eqb s.word i ≡ false) × (list_any (λ t. eqb t.word i) stores ≡ false) = or_none (eqb s.word i) (list_any (λ t. eqb t.word i) stores) n in
    rw (q.0, named_last stores word value i q.1 e) refl

once_more : (stores : List Store) (word value : ℕ) → Once stores → names_word stores word ≡ false → Once (stores ++ record { word = word; value = value } ∷ [])
unfolding names_word
once_more [] word value o n = (refl, tt)
once_more (s ∷ stores) word value o n =
    let q : (eqb s.word word ≡ false) × (list_any (λ t. eqb t.word word) stores ≡ false) = or_none (eqb s.word word) (list_any (λ t. eqb t.word word) stores) n in
    (named_last stores word value s.word o.0 (ne_eqb word s.word (λ e. eqb-false s.word word q.0 (sym e))), once_more stores word value o.1 q.1)

all_filled : (old : List ℕ) (tail : ℕ) (all next : List ℕ) → length all ≤ length next → ((w : ℕ) → 0 < get_or all w 0 → 0 < get_or next w 0) → (links : List DraftLink) → AllByRecursion (IsFilled old tail all) links → AllByRecursion (IsFilled old tail next) links
all_filled old tail all next l f [] a = tt
all_filled old tail all next l f (x ∷ links) a = let b : 8 * x.to < length all = a.0.2 in ((a.0.0, a.0.1, omega arith, f (word_of x) a.0.3), all_filled old tail all next l f links a.1)

filled_last : (old : List ℕ) (tail : ℕ) (all : List ℕ) (links : List DraftLink) (x : DraftLink) → AllByRecursion (IsFilled old tail all) links → IsFilled old tail all x → AllByRecursion (IsFilled old tail all) (links ++ x ∷ [])
filled_last old tail all [] x a f = (f, tt)
filled_last old tail all (y ∷ links) x a f = (a.0, filled_last old tail all links x a.1 f)

-- an empty word is none of the filled pointers
unnamed : (old : List ℕ) (tail : ℕ) (all : List ℕ) (links : List DraftLink) (i : ℕ) → AllByRecursion (IsFilled old tail all) links → get_or all i 0 ≡ 0 → names_word (map store_of links) i ≡ false
unfolding names_word
unnamed old tail all [] i a z = refl
unnamed old tail all (x ∷ links) i a z =
    let n : eqb (word_of x) i ≡ false = ne_eqb (word_of x) i (λ e. let p : 0 < get_or all (word_of x) 0 = a.0.3 in let q : get_or all (word_of x) 0 ≡ 0 = ap (λ j. get_or all j 0) e ∙ z in absurd (omega arith)) in
    rw (n, unnamed old tail all links i a.1 z) refl

within : (xs : List ℕ) (i : ℕ) → 0 < get_or xs i 0 → i < length xs
within xs i p = elim (cases_lt i (length xs)) [ inl l ↦ l | inr g ↦ absurd (let z : get_or xs i 0 ≡ 0 = get_or_past xs i 0 g in omega arith) ]

module _ (old : List ℕ) (g : Grown) (held : IsHeld old g) where
  front : length (stored (map store_of g.links) old) ≡ 8 * g.tail
  front = length-stored (map store_of g.links) old ∙ held.tail

  pub long : length (grown g old) ≡ 8 * g.tail + length g.more
  long = length-append (stored (map store_of g.links) old) g.more ∙ ap (λ n. n + length g.more) front

  -- one more record
  pub put_words : (row : List ℕ) → grown (with_words g row) old ≡ grown g old ++ row
  put_words row = sym (append_assoc (stored (map store_of g.links) old) g.more row)

  pub put_held : (row : List ℕ) → IsHeld old (with_words g row)
  put_held row = record {
    some = held.some;
    tail = held.tail;
    filled = subst (λ ws. AllByRecursion (IsFilled old g.tail ws) g.links) (sym (put_words row))
        (all_filled old g.tail (grown g old) (grown g old ++ row) (let n = length-append (grown g old) row in omega arith)
        (λ w p. subst (λ x. 0 < x) (sym (get_or_append_left (grown g old) row 0 w (within (grown g old) w p))) p) g.links held.filled);
    differ = held.differ;
  }

  module _ (place k v : ℕ) (small : k < 8) where
    abbrev i : ℕ
    i = 8 * place + k

    abbrev link : DraftLink
    link = record { from = place; k = k; to = v }

    -- a pointer
    pub fill_words : grown (with_pointer g place k v) old ≡ set (grown g old) i v
    unfolding stored
    fill_words = go (ltb place g.tail) refl
      where
        go : (b : Bool) → ltb place g.tail ≡ b
            → grown (cond b (grown_of g.tail g.more (g.links ++ link ∷ [])) (grown_of g.tail (set g.more (8 * (place - g.tail) + k) v) g.links)) old ≡ set (grown g old) i v
        go true e =
            let l : place < g.tail = ltb-true place g.tail e in
            ap (λ stores. stored stores old ++ g.more) (map-append store_of g.links (link ∷ []))
            ∙ ap (λ ws. ws ++ g.more) (stored-append (map store_of g.links) (store_of link ∷ []) old ∙ one (stored (map store_of g.links) old))
            ∙ sym (set-append_left (stored (map store_of g.links) old) g.more i v (let n = front in omega arith))
          where
            one : (ws : List ℕ) → stored (store_of link ∷ []) ws ≡ set ws i v
            one ws = refl
        go false e =
            let l : g.tail ≤ place = ltb-false place g.tail e in
            let j : i - 8 * g.tail ≡ 8 * (place - g.tail) + k = omega arith in
            ap (λ n. stored (map store_of g.links) old ++ set g.more n v) (sym j)
            ∙ sym (set-append_right (stored (map store_of g.links) old) g.more (8 * g.tail) i v front (omega arith))

    -- the pointer was empty, and leads to a new record
    module _ (empty : get_or (grown g old) i 0 ≡ 0) (inside : i < length (grown g old)) (above : g.tail ≤ v) (below : 8 * v < length (grown g old)) where
      next_words : List ℕ
      next_words = set (grown g old) i v

      still : (w : ℕ) → 0 < get_or (grown g old) w 0 → 0 < get_or (set (grown g old) i v) w 0
      still w p = subst (λ x. 0 < x) (sym (get_or-set_other (grown g old) i w v 0 (λ e. let q : get_or (grown g old) w 0 ≡ 0 = ap (λ j. get_or (grown g old) j 0) e ∙ empty in absurd (omega arith)))) p

      kept : AllByRecursion (IsFilled old g.tail (set (grown g old) i v)) g.links
      kept = all_filled old g.tail (grown g old) (set (grown g old) i v) (let n = length-set (grown g old) i v in omega arith) still g.links held.filled

      was_empty : i < 8 * g.tail → get_or old i 0 ≡ 0
      was_empty l =
          sym (stored_other (map store_of g.links) old i (unnamed old g.tail (grown g old) g.links i held.filled empty))
          ∙ (sym (get_or_append_left (stored (map store_of g.links) old) g.more 0 i (let n = front in omega arith)) ∙ empty)

      new_filled : i < 8 * g.tail → IsFilled old g.tail (set (grown g old) i v) link
      new_filled l =
          let n = length-set (grown g old) i v in
          let s : get_or (set (grown g old) i v) i 0 ≡ v = get_or-set_same (grown g old) i v 0 inside in
          let t : 1 ≤ g.tail = held.some in
          (was_empty l, above, omega arith, omega arith)

      pub fill_held : IsHeld old (with_pointer g place k v)
      fill_held = go (ltb place g.tail) refl
        where
          go : (b : Bool) → ltb place g.tail ≡ b → IsHeld old (cond b (grown_of g.tail g.more (g.links ++ link ∷ [])) (grown_of g.tail (set g.more (8 * (place - g.tail) + k) v) g.links))
          go true e =
              let l : place < g.tail = ltb-true place g.tail e in
              let w : grown (grown_of g.tail g.more (g.links ++ link ∷ [])) old ≡ set (grown g old) i v =
              subst (λ b. grown (cond b (grown_of g.tail g.more (g.links ++ link ∷ [])) (grown_of g.tail (set g.more (8 * (place - g.tail) + k) v) g.links)) old ≡ set (grown g old) i v) e fill_words in
              record {
                some = held.some;
                tail = held.tail;
                filled = subst (λ ws. AllByRecursion (IsFilled old g.tail ws) (g.links ++ link ∷ [])) (sym w) (filled_last old g.tail (set (grown g old) i v) g.links link kept (new_filled (omega arith)));
                differ = subst Once (sym (map-append store_of g.links (link ∷ []))) (once_more (map store_of g.links) i v held.differ (unnamed old g.tail (grown g old) g.links i held.filled empty));
              }
          go false e =
              let w : grown (grown_of g.tail (set g.more (8 * (place - g.tail) + k) v) g.links) old ≡ set (grown g old) i v =
              subst (λ b. grown (cond b (grown_of g.tail g.more (g.links ++ link ∷ [])) (grown_of g.tail (set g.more (8 * (place - g.tail) + k) v) g.links)) old ≡ set (grown g old) i v) e fill_words in
              record {
                some = held.some;
                tail = held.tail;
                filled = subst (λ ws. AllByRecursion (IsFilled old g.tail ws) g.links) (sym w) kept;
                differ = held.differ;
              }
