-- Where each number of a list stands in it, counted from 1.
use Rattle.std.proofs.Common.{◌≡◌, ℕ, ◌+◌, ◌-◌, ◌<◌, ◌≤◌, true, List, [], ◌∷◌, ◌++◌, length, get_or, set, replicate, take, sym, ◌∙◌, ap, subst, inl, inr, arith, length-append, length-set, add-one}
use Rattle.std.proofs.Math.Seq.{take-suc}
use Rattle.std.proofs.lemmas.List.{get_or-set_same, get_or-set_other, length-replicate, get_or-replicate, get_or_append_left, get_or-append-add, length-take}
use Rattle.std.proofs.lemmas.Bool.{cases_eq}
use Rattle.graph_model.specs.Lists.{has}
use Rattle.graph_model.proofs.ListLemmas.{has_cases, has_head, has_none}
use Rattle.op_model.proofs.LinkLemmas.{append_cases, append_left, append_right}
use Rattle.made_links.specs.Ranks.{AreRanks}

zero_at : (n i : ℕ) → i < n → get_or (replicate {A = ℕ} n 0) i 0 ≡ 0
zero_at n i l = get_or-replicate n i 0 0 l

pub no_ranks : (places : ℕ) (ranks : List ℕ) → ranks ≡ replicate places 0 → AreRanks places [] ranks
no_ranks places ranks e = subst (AreRanks places []) (sym e) (record {
  count = length-replicate {A = ℕ} places 0;
  there = λ i h. has_none i h;
  only = λ i l m. absurd (let z = zero_at places i l in omega (arith, z, m));
})

ranks_push : (places x : ℕ) (xs ranks : List ℕ) → x < places → AreRanks places xs ranks → AreRanks places (xs ++ x ∷ []) (set ranks x (length xs + 1))
ranks_push places x xs ranks low are = record {
  count = length-set ranks x (length xs + 1) ∙ are.count;
  there = λ i h. elim (cases_eq i x) [
    | inl e ↦ (let r = here i e in let p : get_or (set ranks x (length xs + 1)) i 0 - 1 ≡ length xs = omega (arith, r) in (omega (arith, r), omega (arith, r, longer), ap (λ n. get_or (xs ++ x ∷ []) n 0) p ∙ (last ∙ sym e)))
    | inr n ↦ elim (append_cases xs (x ∷ []) i h) [
      | inl g ↦ old i n g
      | inr g ↦ elim (has_cases x [] i g) [ inl e ↦ absurd (n (sym e)) | inr none ↦ has_none i none ]
    ]
  ];
  only = λ i l m. elim (cases_eq i x) [
    | inl e ↦ append_right xs (x ∷ []) i (subst (λ y. has (x ∷ []) y ≡ true) (sym e) (has_head x []))
    | inr n ↦ append_left xs (x ∷ []) i (are.only i l (let r = other i n in omega (arith, r, m)))
  ];
}
  where
    longer : length (xs ++ x ∷ []) ≡ length xs + 1
    longer = length-append xs (x ∷ [])

    fits : x < length ranks
    fits = let c = are.count in omega (arith, c)

    last : get_or (xs ++ x ∷ []) (length xs) 0 ≡ x
    last = let e : length xs + 0 ≡ length xs = omega arith in sym (ap (λ n. get_or (xs ++ x ∷ []) n 0) e) ∙ get_or-append-add xs (x ∷ []) 0 0

    here : (i : ℕ) → i ≡ x → get_or (set ranks x (length xs + 1)) i 0 ≡ length xs + 1
    here i e = ap (λ k. get_or (set ranks x (length xs + 1)) k 0) e ∙ get_or-set_same ranks x (length xs + 1) 0 fits

    other : (i : ℕ) → (i ≡ x → ⊥) → get_or (set ranks x (length xs + 1)) i 0 ≡ get_or ranks i 0
    other i n = get_or-set_other ranks x i (length xs + 1) 0 n

    old : (i : ℕ) → (i ≡ x → ⊥) → has xs i ≡ true
        → (0 < get_or (set ranks x (length xs + 1)) i 0) × (get_or (set ranks x (length xs + 1)) i 0 ≤ length (xs ++ x ∷ [])) × (get_or (xs ++ x ∷ []) (get_or (set ranks x (length xs + 1)) i 0 - 1) 0 ≡ i)
    old i n h =
        let r = other i n in
        let t = are.there i h in
        let some = t.0 in
        let most = t.1 in
        let within : get_or ranks i 0 - 1 < length xs = omega (arith, some, most) in (
          omega (arith, r, some),
          omega (arith, r, most, longer),
          ap (λ k. get_or (xs ++ x ∷ []) (k - 1) 0) r ∙ (get_or_append_left xs (x ∷ []) 0 (get_or ranks i 0 - 1) within ∙ t.2),
        )

-- one place more has its rank
pub ranks_more : (places : ℕ) (leasts : List ℕ) (rank : ℕ) (ranks new : List ℕ) → rank < length leasts → get_or leasts rank 0 < places → AreRanks places (take rank leasts) ranks
    → new ≡ set ranks (get_or leasts rank 0) (rank + 1) → AreRanks places (take (rank + 1) leasts) new
ranks_more places leasts rank ranks new l low are e =
    let n : length (take rank leasts) ≡ rank = let t = length-take rank leasts in omega (arith, t) in
    subst (λ ys. AreRanks places ys new) (sym (rw add-one (take-suc leasts rank 0 l)))
    (subst (AreRanks places (take rank leasts ++ get_or leasts rank 0 ∷ [])) (sym (e ∙ ap (λ k. set ranks (get_or leasts rank 0) (k + 1)) (sym n))) (ranks_push places (get_or leasts rank 0) (take rank leasts) ranks low are))
