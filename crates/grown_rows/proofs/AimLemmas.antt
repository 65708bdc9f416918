-- A record behind the others fills the empty pointers that are to lead to it, and no others.
use Rattle.std.proofs.Common.{◌≡◌, ℕ, zero, suc, ◌+◌, ◌-◌, ◌*◌, ◌/◌, ◌%◌, ◌<◌, ◌≤◌, Bool, true, false, cond, leb, List, [], ◌∷◌, ◌++◌, length, get_or, Some, refl, sym, ◌∙◌, ap, ap₂, subst, inl, inr, ◌⊎◌, arith, append-nil}
use Rattle.std.specs.List.{slice_get, AllByRecursion}
use Rattle.std.proofs.lemmas.Bool.{cases_Bool, leb-true, leb-false}
use Rattle.std.proofs.Math.Dec.{eqb-suc-zero}
use Rattle.std.proofs.lemmas.Option.{slice_get-get_or}
use Rattle.op_model.specs.declared.base.Dataset.{Dataset}
use Rattle.record_rows.specs.Rows.{Row, HeaderRow}
use Rattle.record_rows.specs.Chains.{Aim, Nowhere, First, Next, aims}
use Rattle.record_rows.specs.Words.{place_from, row_words, words_from, words_of}
use Rattle.record_rows.specs.Growth.{new_place, filled, stored, names_word}
use Rattle.record_rows.proofs.GrowthLemmas.{grown_fixed, grown_pointer}
use Rattle.record_rows.proofs.StoreLemmas.{AllWanted, stored-words_of}
use Rattle.row_append.specs.Ends.{IsHeaded}
use Rattle.row_append.specs.Tails.{word_number}
use Rattle.row_append.specs.declared.tail.Tail.{Tail}
use Rattle.grown_rows.specs.Growths.{stores_to}
use Rattle.grown_rows.specs.Aimed.{passes, IsAimed}

-- where the pointer leads with the new record
new_at : (tail : ℕ) (new : Row) (aim : Aim) → new_place tail (new ∷ []) aim ≡ cond (passes aim new) tail 0
unfolding new_place place_from passes
new_at tail new Nowhere = refl
new_at tail new (First test) = refl
new_at tail new (Next test) = refl

filled_some : (pointer place : ℕ) → filled (suc pointer) place ≡ suc pointer
unfolding filled
filled_some pointer place = rw (eqb-suc-zero pointer) refl

module _ (d : Dataset) (s c : ℕ) (rest : List Row) (new : Row) where
  abbrev old : List Row
  old = HeaderRow d s c ∷ rest

  abbrev tail : ℕ
  tail = length (HeaderRow d s c ∷ rest)

  -- a pointer with the new record behind
  pub grown_at : (p k : ℕ) (row : Row) → slice_get old p ≡ Some row → k < 4
      → get_or (words_of (old ++ new ∷ [])) (8 * p + (4 + k)) 0 ≡ filled (get_or (words_of old) (8 * p + (4 + k)) 0) (cond (passes (get_or (aims row) k Nowhere) new) tail 0)
  grown_at p k row h l = grown_pointer d s c rest (new ∷ []) p k row h l ∙ ap (filled (get_or (words_of old) (8 * p + (4 + k)) 0)) (new_at tail new (get_or (aims row) k Nowhere))

  Covered : List Tail → ℕ → Type 0
  Covered tails i = (get_or (words_of old) i 0 ≡ get_or (words_of (old ++ new ∷ [])) i 0) ⊎ (names_word (stores_to tail tails) i ≡ true)

  wanted : (tails : List Tail) → AllByRecursion (λ t. IsAimed old new (word_number t)) tails → AllWanted (words_of (old ++ new ∷ [])) (stores_to tail tails)
  unfolding stores_to filled
  wanted [] all = tt
  wanted (t ∷ tails) all =
      let a : IsAimed old new (word_number t) = all.0 in
      let e : get_or (words_of old) (8 * a.place + (4 + a.k)) 0 ≡ 0 = ap (λ j. get_or (words_of old) j 0) (sym a.number) ∙ a.empty in
      (ap (λ j. get_or (words_of (old ++ new ∷ [])) j 0) a.number ∙ (grown_at a.place a.k a.row a.there a.pointer ∙ ap₂ filled e (ap (λ b. cond b tail 0) a.passing)), wanted tails all.1)

  module _ (tails : List Tail) (only : (i : ℕ) → IsAimed old new i → names_word (stores_to tail tails) i ≡ true) where
    pointer_covered : (p k : ℕ) (r : Row) → slice_get old p ≡ Some r → k < 4 → (i : ℕ) → i ≡ 8 * p + (4 + k) → Covered tails i
    unfolding Covered filled
    pointer_covered p k r h l i n = go (get_or (words_of old) i 0) refl (passes (get_or (aims r) k Nowhere) new) refl
      where
        grown : get_or (words_of (old ++ new ∷ [])) i 0 ≡ filled (get_or (words_of old) i 0) (cond (passes (get_or (aims r) k Nowhere) new) tail 0)
        grown = subst (λ j. get_or (words_of (old ++ new ∷ [])) j 0 ≡ filled (get_or (words_of old) j 0) (cond (passes (get_or (aims r) k Nowhere) new) tail 0)) (sym n) (grown_at p k r h l)

        go : (w : ℕ) → get_or (words_of old) i 0 ≡ w → (b : Bool) → passes (get_or (aims r) k Nowhere) new ≡ b → Covered tails i
        go (suc w) z b e = inl (sym (grown ∙ ap (λ x. filled x (cond (passes (get_or (aims r) k Nowhere) new) tail 0)) z ∙ (filled_some w (cond (passes (get_or (aims r) k Nowhere) new) tail 0) ∙ sym z)))
        go zero z false e = inl (z ∙ sym (grown ∙ ap₂ filled z (ap (λ t. cond t tail 0) e)))
        go zero z true e = inr (only i (record { place = p; k = k; row = r; there = h; pointer = l; number = n; passing = e; empty = z }))

    covered : (i : ℕ) → i < 8 * length old → Covered tails i
    unfolding Covered
    covered i l =
        let p : ℕ = i / 8 in
        let j : ℕ = i % 8 in
        let e : i ≡ 8 * p + j = omega arith in
        let r : Row = get_or old p new in
        let h : slice_get old p ≡ Some r = slice_get-get_or old p new (omega arith) in
        elim (cases_Bool (leb 4 j)) [
          | inl g ↦
              let m : 4 ≤ j = leb-true 4 j g in
              let f : i ≡ 8 * p + (4 + (j - 4)) = omega arith in
              subst (Covered tails) (sym f) (pointer_covered p (j - 4) r h (omega arith) (8 * p + (4 + (j - 4))) refl)
          | inr g ↦
              let m : j < 4 = leb-false 4 j g in
              inl (subst (λ x. get_or (words_of old) x 0 ≡ get_or (words_of (old ++ new ∷ [])) x 0) (sym e) (sym (grown_fixed d s c rest (new ∷ []) p j r h m)))
        ]

    pushed : AllByRecursion (λ t. IsAimed old new (word_number t)) tails → stored (stores_to tail tails) (words_of old) ++ row_words (old ++ new ∷ []) tail new [] ≡ words_of (old ++ new ∷ [])
    unfolding words_from Covered
    pushed all =
        ap (λ ws. stored (stores_to tail tails) (words_of old) ++ ws) (sym (append-nil (row_words (old ++ new ∷ []) tail new [])))
        ∙ stored-words_of old (new ∷ []) (stores_to tail tails) (wanted tails all) covered

-- the same of any records that begin with a header
pub aimed_pushed : (rows : List Row) (new : Row) (tails : List Tail) → IsHeaded rows → AllByRecursion (λ t. IsAimed rows new (word_number t)) tails
    → ((i : ℕ) → IsAimed rows new i → names_word (stores_to (length rows) tails) i ≡ true)
    → stored (stores_to (length rows) tails) (words_of rows) ++ row_words (rows ++ new ∷ []) (length rows) new [] ≡ words_of (rows ++ new ∷ [])
aimed_pushed rows new tails h =
    subst (λ rs. AllByRecursion (λ t. IsAimed rs new (word_number t)) tails → ((i : ℕ) → IsAimed rs new i → names_word (stores_to (length rs) tails) i ≡ true)
    → stored (stores_to (length rs) tails) (words_of rs) ++ row_words (rs ++ new ∷ []) (length rs) new [] ≡ words_of (rs ++ new ∷ []))
    (sym h.begins)
    (λ all only. pushed h.dataset h.supervoxels h.chunks h.rest new tails only all)

pub got_last : (rows : List Row) (row : Row) (p : ℕ) (r : Row) → slice_get (rows ++ row ∷ []) p ≡ Some r → (slice_get rows p ≡ Some r) ⊎ ((p ≡ length rows) × (r ≡ row))
got_last [] row zero r h = inr (refl, cc)
got_last [] row (suc p) r h = cc
got_last (x ∷ rows) row zero r h = inl h
got_last (x ∷ rows) row (suc p) r h = elim (got_last rows row p r h) [ inl e ↦ inl e | inr e ↦ inr (ap suc e.0, e.1) ]

filled_zero : (w v : ℕ) → filled w v ≡ 0 → (w ≡ 0) × (v ≡ 0)
unfolding filled
filled_zero zero v e = (refl, e)
filled_zero (suc w) v e = let q : filled (suc w) v ≡ suc w = filled_some w v in let z : suc w ≡ 0 = sym q ∙ e in absurd (omega arith)

-- a pointer of any records that begin with a header, with one more record behind
pub grown_headed : (rows : List Row) (new : Row) → IsHeaded rows → (p k : ℕ) (row : Row) → slice_get rows p ≡ Some row → k < 4
    → get_or (words_of (rows ++ new ∷ [])) (8 * p + (4 + k)) 0 ≡ filled (get_or (words_of rows) (8 * p + (4 + k)) 0) (cond (passes (get_or (aims row) k Nowhere) new) (length rows) 0)
grown_headed rows new h = subst (λ rs. (p k : ℕ) (row : Row) → slice_get rs p ≡ Some row → k < 4
    → get_or (words_of (rs ++ new ∷ [])) (8 * p + (4 + k)) 0 ≡ filled (get_or (words_of rs) (8 * p + (4 + k)) 0) (cond (passes (get_or (aims row) k Nowhere) new) (length rs) 0))
    (sym h.begins) (grown_at h.dataset h.supervoxels h.chunks h.rest new)

-- the k-th pointer of the record that stands last is to lead to the new one
abbrev pub OwnAimed : List Row → Row → Row → ℕ → Type 0
OwnAimed rows last new i = (k : ℕ) × (k < 4) × (passes (get_or (aims last) k Nowhere) new ≡ true) × (i ≡ 8 * length rows + (4 + k))

-- with one more record behind, what is to lead to the next one: what was before and the record didn't fill, and its own pointers
pub aimed_after : (rows : List Row) (last new : Row) (i : ℕ) → IsHeaded rows → IsAimed (rows ++ last ∷ []) new i
    → (IsAimed rows new i × ((p k : ℕ) (row : Row) → slice_get rows p ≡ Some row → k < 4 → i ≡ 8 * p + (4 + k) → passes (get_or (aims row) k Nowhere) last ≡ false)) ⊎ OwnAimed rows last new i
aimed_after rows last new i h a = elim (got_last rows last a.place a.row a.there) [ inl e ↦ inl (earlier e) | inr e ↦ inr (a.k, a.pointer, subst (λ r. passes (get_or (aims r) a.k Nowhere) new ≡ true) e.1 a.passing, subst (λ p. i ≡ 8 * p + (4 + a.k)) e.0 a.number) ]
  where
    grown : (p k : ℕ) (row : Row) → slice_get rows p ≡ Some row → k < 4
        → get_or (words_of (rows ++ last ∷ [])) (8 * p + (4 + k)) 0 ≡ filled (get_or (words_of rows) (8 * p + (4 + k)) 0) (cond (passes (get_or (aims row) k Nowhere) last) (length rows) 0)
    grown = subst (λ rs. (p k : ℕ) (row : Row) → slice_get rs p ≡ Some row → k < 4
        → get_or (words_of (rs ++ last ∷ [])) (8 * p + (4 + k)) 0 ≡ filled (get_or (words_of rs) (8 * p + (4 + k)) 0) (cond (passes (get_or (aims row) k Nowhere) last) (length rs) 0))
        (sym h.begins) (grown_at h.dataset h.supervoxels h.chunks h.rest last)

    some : 1 ≤ length rows
    some = subst (λ rs. 1 ≤ length rs) (sym h.begins) (omega arith)

    not_passed : (b : Bool) → cond b (length rows) 0 ≡ 0 → b ≡ false
    not_passed true e = absurd (let s = some in omega arith)
    not_passed false e = refl

    both : (p k : ℕ) (row : Row) → slice_get rows p ≡ Some row → k < 4 → i ≡ 8 * p + (4 + k) → (get_or (words_of rows) i 0 ≡ 0) × (passes (get_or (aims row) k Nowhere) last ≡ false)
    both p k row t l n =
        let z : get_or (words_of (rows ++ last ∷ [])) (8 * p + (4 + k)) 0 ≡ 0 = ap (λ j. get_or (words_of (rows ++ last ∷ [])) j 0) (sym n) ∙ a.empty in
        let q = filled_zero _ _ (sym (grown p k row t l) ∙ z) in
        (ap (λ j. get_or (words_of rows) j 0) n ∙ q.0, not_passed (passes (get_or (aims row) k Nowhere) last) q.1)

    earlier : slice_get rows a.place ≡ Some a.row
        → IsAimed rows new i × ((p k : ℕ) (row : Row) → slice_get rows p ≡ Some row → k < 4 → i ≡ 8 * p + (4 + k) → passes (get_or (aims row) k Nowhere) last ≡ false)
    earlier e = (
      record { place = a.place; k = a.k; row = a.row; there = e; pointer = a.pointer; number = a.number; passing = a.passing; empty = (both a.place a.k a.row e a.pointer a.number).0 },
      λ p k row t l n. (both p k row t l n).1,
    )
