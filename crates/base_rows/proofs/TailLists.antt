-- Lists of tails, and what is told by them with one more record.
use Rattle.std.proofs.Common.{◌≡◌, ℕ, zero, suc, ◌+◌, ◌<◌, ◌⊎◌, inl, inr, false, eqb, List, [], ◌∷◌, ◌++◌, length, get_or, set, refl, sym, ◌∙◌, ap, subst, arith, add-one}
use Rattle.std.proofs.lemmas.List.{get_or-set_same, get_or-set_other, length-set}
use Rattle.std.proofs.lemmas.Bool.{cases_Bool, eqb-true, eqb-false}
use Rattle.record_rows.specs.Rows.{Row}
use Rattle.row_append.specs.Ends.{Chain, has_part, EndsAt, IsHeaded}
use Rattle.row_append.specs.Tails.{word_number}
use Rattle.row_append.specs.declared.tail.Tail.{Tail}
use Rattle.row_append.proofs.EndLaws.{ends_stay}
use Rattle.row_append.proofs.LastLemmas.{ends_lie}
use Rattle.record_rows.specs.Words.{words_of}
use Rattle.base_rows.specs.Lists.{IsOnce}
use Rattle.base_rows.specs.States.{tails_from, AreTails}

longer : (place word n : ℕ) → tails_from place word (suc n) ≡ tails_from place word n ++ record { spot = place + n; word = word } ∷ []
unfolding tails_from
longer place word zero = let e : place ≡ place + 0 = omega arith in ap (λ q. let t : Tail = record { spot = q; word = word } in t ∷ []) e
longer place word (suc n) =
    let e : place + 1 + n ≡ place + suc n = omega arith in
    let first : Tail = record { spot = place; word = word } in
    ap (λ ts. first ∷ ts) (longer (place + 1) word n ∙ ap (λ q. let t : Tail = record { spot = q; word = word } in tails_from (place + 1) word n ++ t ∷ []) e)

pub tails_more : (place word n : ℕ) → tails_from place word (n + 1) ≡ tails_from place word n ++ record { spot = place + n; word = word } ∷ []
tails_more place word n = rw add-one (longer place word n)

pub length-tails_from : (place word n : ℕ) → length (tails_from place word n) ≡ n
unfolding tails_from
length-tails_from place word zero = refl
length-tails_from place word (suc n) = ap suc (length-tails_from (place + 1) word n)

pub tail_at : (place word n i : ℕ) (t : Tail) → i < n → get_or (tails_from place word n) i t ≡ record { spot = place + i; word = word }
unfolding tails_from
tail_at place word zero i t l = absurd (omega arith)
tail_at place word (suc n) zero t l = let e : place ≡ place + 0 = omega arith in ap (λ q. let t : Tail = record { spot = q; word = word } in t) e
tail_at place word (suc n) (suc i) t l =
    let e : place + 1 + i ≡ place + suc i = omega arith in
    tail_at (place + 1) word n i t (omega arith) ∙ ap (λ q. let t : Tail = record { spot = q; word = word } in t) e

-- where a tail is told anew, or the chain stays as it was
pub tails_told : (chain : ℕ → Chain) (ids : List ℕ) (rows : List Row) (row : Row) (old new : List Tail) → IsHeaded rows → AreTails chain ids rows old → length new ≡ length ids
    → ((i : ℕ) (t : Tail) → i < length ids
    → EndsAt (chain (get_or ids i 0)) (rows ++ row ∷ []) (word_number (get_or new i t))
    ⊎ ((get_or new i t ≡ get_or old i t) × (has_part (chain (get_or ids i 0)) row ≡ false)))
    → AreTails chain ids (rows ++ row ∷ []) new
tails_told chain ids rows row old new h are count each = record {
  count = count;
  each = λ i t l. elim (each i t l) [
    | inl e ↦ e
    | inr o ↦ subst (λ x. EndsAt (chain (get_or ids i 0)) (rows ++ row ∷ []) (word_number x)) (sym o.0) (ends_stay rows row (chain (get_or ids i 0)) _ h (are.each i t l) o.1)
  ];
}

-- where one tail is told anew, and the record is no part of the other ids' chains
pub tail_set : (chain : ℕ → Chain) (ids : List ℕ) (rows : List Row) (row : Row) (old : List Tail) (j : ℕ) (new : Tail) → IsHeaded rows → AreTails chain ids rows old → IsOnce ids → j < length ids
    → EndsAt (chain (get_or ids j 0)) (rows ++ row ∷ []) (word_number new) → ((u : ℕ) → (get_or ids j 0 ≡ u → ⊥) → has_part (chain u) row ≡ false)
    → AreTails chain ids (rows ++ row ∷ []) (set old j new)
tail_set chain ids rows row old j new h are once l ends apart =
    tails_told chain ids rows row old (set old j new) h are (length-set old j new ∙ are.count)
    (λ i t m. elim (cases_Bool (eqb i j)) [
      | inl e ↦
          let q : i ≡ j = eqb-true i j e in
          let g : get_or (set old j new) j t ≡ new = get_or-set_same old j new t (let c = are.count in omega (arith, c, l)) in
          inl (subst (λ k. EndsAt (chain (get_or ids k 0)) (rows ++ row ∷ []) (word_number (get_or (set old j new) k t))) (sym q)
          (subst (λ y. EndsAt (chain (get_or ids j 0)) (rows ++ row ∷ []) (word_number y)) (sym g) ends))
      | inr f ↦
          let a = eqb-false i j f in
          inr (get_or-set_other old j i new t a, apart (get_or ids i 0) (λ q. a (once i j m l (sym q))))
    ])

-- where the chain of one of the ids ends
pub end_given : (chain : ℕ → Chain) (ids : List ℕ) (rows : List Row) (tails : List Tail) (i v : ℕ) (t : Tail) → AreTails chain ids rows tails → i < length ids → get_or ids i 0 ≡ v
    → t ≡ get_or tails i t → EndsAt (chain v) rows (word_number t)
end_given chain ids rows tails i v t a l e g =
    subst (λ u. EndsAt (chain u) rows (word_number t)) e (subst (λ y. EndsAt (chain (get_or ids i 0)) rows (word_number y)) (sym g) (a.each i t l))

-- it is one of the words
pub end_within : (chain : ℕ → Chain) (ids : List ℕ) (rows : List Row) (words : List ℕ) (tails : List Tail) (i : ℕ) (t : Tail) → AreTails chain ids rows tails → words ≡ words_of rows
    → i < length ids → t ≡ get_or tails i t → word_number t < length words
end_within chain ids rows words tails i t a w l e =
    subst (λ ws. word_number t < length ws) (sym w) (ends_lie rows (chain (get_or ids i 0)) (word_number t) (end_given chain ids rows tails i (get_or ids i 0) t a l refl e))
