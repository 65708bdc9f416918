-- Where each number of a list stands in it.
use Rattle.std.proofs.Common.{◌≡◌, ℕ, ◌+◌, ◌<◌, ◌≤◌, true, List, [], ◌∷◌, ◌++◌, length, map, get_or, set, replicate, take, sym, ◌∙◌, ap, subst, inl, inr, arith, length-append, length-set}
use Rattle.std.proofs.lemmas.List.{get_or-set_same, get_or-set_other, length-replicate, get_or-replicate, get_or_append_left, get_or-append-add, length-map, length-take, map_more}
use Rattle.std.proofs.lemmas.List.Elements.{All-set}
use Rattle.std.proofs.lemmas.Bool.{cases_eq}
use Rattle.graph_model.specs.Lists.{has}
use Rattle.graph_model.proofs.ListLemmas.{has_cases, has_none}
use Rattle.op_model.proofs.LinkLemmas.{append_cases}
use Rattle.octree_layers.specs.declared.numbering.Made.{Made}
use Rattle.hierarchy_build.specs.Links.{AreRanks}

pub no_ranks : (places : ℕ) (ranks : List ℕ) → ranks ≡ replicate places 0 → AreRanks places [] ranks
no_ranks places ranks e = subst (AreRanks places []) (sym e) (record {
  count = length-replicate places 0;
  low = λ i d l. let z : get_or (replicate places 0) i d ≡ 0 = get_or-replicate places i 0 d (let n = length-replicate {A = ℕ} places 0 in omega (arith, n)) in omega (arith, z);
  there = λ i h. has_none i h;
})

ranks_push : (places x : ℕ) (xs ranks : List ℕ) → x < places → AreRanks places xs ranks → AreRanks places (xs ++ x ∷ []) (set ranks x (length xs))
ranks_push places x xs ranks low are = record {
  count = length-set ranks x (length xs) ∙ are.count;
  low = All-set (λ r. r ≤ length (xs ++ x ∷ [])) ranks x (length xs) (omega (arith, longer)) (λ i d l. let m = are.low i d l in omega (arith, m, longer));
  there = there;
}
  where
    longer : length (xs ++ x ∷ []) ≡ length xs + 1
    longer = length-append xs (x ∷ [])

    here : x < length ranks
    here = let c = are.count in omega (arith, c)

    last : get_or (xs ++ x ∷ []) (length xs) 0 ≡ x
    last = let e : length xs + 0 ≡ length xs = omega arith in sym (ap (λ n. get_or (xs ++ x ∷ []) n 0) e) ∙ get_or-append-add xs (x ∷ []) 0 0

    own : (i : ℕ) → i ≡ x → (get_or (set ranks x (length xs)) i 0 < length (xs ++ x ∷ [])) × (get_or (xs ++ x ∷ []) (get_or (set ranks x (length xs)) i 0) 0 ≡ i)
    own i e =
        let r : get_or (set ranks x (length xs)) i 0 ≡ length xs = ap (λ k. get_or (set ranks x (length xs)) k 0) e ∙ get_or-set_same ranks x (length xs) 0 here in
        (omega (arith, r, longer), ap (λ n. get_or (xs ++ x ∷ []) n 0) r ∙ (last ∙ sym e))

    other : (i : ℕ) → (i ≡ x → ⊥) → has xs i ≡ true → (get_or (set ranks x (length xs)) i 0 < length (xs ++ x ∷ [])) × (get_or (xs ++ x ∷ []) (get_or (set ranks x (length xs)) i 0) 0 ≡ i)
    other i n h =
        let r : get_or (set ranks x (length xs)) i 0 ≡ get_or ranks i 0 = get_or-set_other ranks x i (length xs) 0 n in
        let t = are.there i h in
        let l = t.0 in
        (omega (arith, r, l, longer), ap (λ n. get_or (xs ++ x ∷ []) n 0) r ∙ (get_or_append_left xs (x ∷ []) 0 (get_or ranks i 0) l ∙ t.1))

    there : (i : ℕ) → has (xs ++ x ∷ []) i ≡ true → (get_or (set ranks x (length xs)) i 0 < length (xs ++ x ∷ [])) × (get_or (xs ++ x ∷ []) (get_or (set ranks x (length xs)) i 0) 0 ≡ i)
    there i h = elim (cases_eq i x) [
      | inl e ↦ own i e
      | inr n ↦ elim (append_cases xs (x ∷ []) i h) [
        | inl g ↦ other i n g
        | inr g ↦ elim (has_cases x [] i g) [ inl e ↦ own i (sym e) | inr none ↦ has_none i none ]
      ]
    ]

-- one more node has its rank
pub ranks_more : (places : ℕ) (made : List Made) (rank : ℕ) (d : Made) (ranks new : List ℕ) → rank < length made → (get_or made rank d).least < places → AreRanks places (map (λ m. m.least) (take rank made)) ranks
    → new ≡ set ranks (get_or made rank d).least rank → AreRanks places (map (λ m. m.least) (take (rank + 1) made)) new
ranks_more places made rank d ranks new l low are e =
    let xs : List ℕ = map (λ (m : Made). m.least) (take rank made) in
    let n : length xs ≡ rank = length-map (take rank made) (λ (m : Made). m.least) ∙ (let t = length-take rank made in omega (arith, t)) in
    subst (λ ys. AreRanks places ys new) (sym (map_more (λ (m : Made). m.least) made rank d l))
    (subst (AreRanks places (xs ++ (get_or made rank d).least ∷ [])) (sym (e ∙ ap (set ranks (get_or made rank d).least) (sym n))) (ranks_push places (get_or made rank d).least xs ranks low are))
