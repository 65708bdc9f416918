-- Where chains end, one more of them.
use Rattle.std.proofs.Common.{◌≡◌, ℕ, ◌+◌, ◌<◌, ◌≤◌, List, [], ◌∷◌, ◌++◌, length, take, get_or, refl, sym, ◌∙◌, ap, subst, inl, inr, arith}
use Rattle.std.proofs.lemmas.Bool.{cases_lt}
use Rattle.std.proofs.lemmas.List.{get_or_append_left, get_or_push, length_push, take_more}
use Rattle.record_rows.specs.Rows.{Row}
use Rattle.row_append.specs.Ends.{Chain, EndsAt}
use Rattle.row_append.specs.Tails.{word_number}
use Rattle.row_append.specs.declared.tail.Tail.{Tail}
use Rattle.base_rows.specs.States.{AreTails}
use Rattle.entry_rows.specs.States.{ArePointers}

more : (chain : ℕ → Chain) (ids : List ℕ) (rows : List Row) (x : ℕ) (tails : List Tail) (t : Tail) → AreTails chain ids rows tails → EndsAt (chain x) rows (word_number t) → AreTails chain (ids ++ x ∷ []) rows (tails ++ t ∷ [])
more chain ids rows x tails t a e = record {
  count = (let n = a.count in let p = length_push tails t in let q = length_push ids x in omega (arith, n, p, q));
  each = λ i other l. elim (cases_lt i (length ids)) [
    | inl h ↦
        let n = a.count in
        subst (λ v. EndsAt (chain v) rows (word_number (get_or (tails ++ t ∷ []) i other))) (sym (get_or_append_left ids (x ∷ []) 0 i h))
        (subst (λ u. EndsAt (chain (get_or ids i 0)) rows (word_number u)) (sym (get_or_append_left tails (t ∷ []) other i (omega (arith, n, h)))) (a.each i other h))
    | inr h ↦
        let n = a.count in
        let q = length_push ids x in
        let at : i ≡ length ids = omega (arith, l, q, h) in
        subst (λ v. EndsAt (chain v) rows (word_number (get_or (tails ++ t ∷ []) i other))) (sym (get_or_push ids x 0 i (sym at)))
        (subst (λ u. EndsAt (chain x) rows (word_number u)) (sym (get_or_push tails t other i (omega (arith, n, at)))) e)
  ];
}

pub tails_more : (chain : ℕ → Chain) (ids : List ℕ) (rows : List Row) (k x : ℕ) (tails after : List Tail) (t : Tail) → k < length ids → x ≡ get_or ids k x → after ≡ tails ++ t ∷ [] → AreTails chain (take k ids) rows tails → EndsAt (chain x) rows (word_number t)
    → AreTails chain (take (k + 1) ids) rows after
tails_more chain ids rows k x tails after t l q p a e =
    subst (λ ts. AreTails chain (take (k + 1) ids) rows ts) (sym p)
    (subst (λ vs. AreTails chain vs rows (tails ++ t ∷ [])) (ap (λ y. take k ids ++ y ∷ []) q ∙ sym (take_more ids k x l)) (more chain (take k ids) rows x tails t a e))

pub tails_none : (chain : ℕ → Chain) (ids : List ℕ) (rows : List Row) (tails : List Tail) → tails ≡ [] → AreTails chain (take 0 ids) rows tails
tails_none chain ids rows tails p = subst (λ ts. AreTails chain [] rows ts) (sym p) (record { count = refl; each = λ i other l. absurd (omega (arith, l)) })

pub pointers_more : (tails after : List Tail) (t : Tail) → after ≡ tails ++ t ∷ [] → ArePointers tails → 4 ≤ t.word → t.word < 8 → ArePointers after
pointers_more tails after t p a low high = subst ArePointers (sym p) go
  where
    go : ArePointers (tails ++ t ∷ [])
    go i other l = elim (cases_lt i (length tails)) [
      | inl h ↦ subst (λ (u : Tail). (4 ≤ u.word) × (u.word < 8)) (sym (get_or_append_left tails (t ∷ []) other i h)) (a i other h)
      | inr h ↦ let n = length_push tails t in subst (λ (u : Tail). (4 ≤ u.word) × (u.word < 8)) (sym (get_or_push tails t other i (omega (arith, l, n, h)))) (low, high)
    ]

pub pointers_none : (tails : List Tail) → tails ≡ [] → ArePointers tails
pointers_none tails p = subst ArePointers (sym p) (λ i t l. absurd (omega (arith, l)))
