-- What a cut weighs, and its glue, link by link of its list.
use Rattle.std.proofs.Common.{◌≡◌, ℕ, zero, suc, ◌+◌, ◌<◌, ◌≤◌, ◌||◌, Bool, true, false, cond, List, [], ◌∷◌, length, get_or, nat_eq, Some, None, is_none, sym, refl, ap, ◌∙◌, inl, inr, arith, eq-or-lt_of_le, All, eq-eqb, ne_eqb}
use Rattle.std.specs.List.{sum_by}
use Rattle.std.proofs.lemmas.List.Sums.{sum_by-cons}
use Rattle.std.proofs.lemmas.Bool.{cases_Bool, cases_lt, false_from_ne_true}
use Rattle.graph_model.specs.Lists.{has}
use Rattle.graph_model.specs.Wires.{Wire, wire, weight_of, total}
use Rattle.graph_model.specs.Cuts.{weight, marked_weight}
use Rattle.graph_model.proofs.ListLemmas.{any_default}
use Rattle.graph_model.proofs.Walks.{has_decides}
use Rattle.graph_model.proofs.Totals.{total_same, total_none}
use Rattle.flow_net.specs.Net.{IsAscending, first_below}
use Rattle.flow_net.specs.Verdict.{cuts_glue}
use Rattle.flow_net.proofs.Searches.{rises, first_below_at, below_none_from}

-- a set with one number more
total_more : (x : ℕ → Bool) (f : ℕ → ℕ) (c m : ℕ) → c < m → x c ≡ false →
    total (λ k. cond (nat_eq c k || x k) (f k) 0) m ≡ f c + total (λ k. cond (x k) (f k) 0) m
total_more x f c zero l o = absurd (omega arith)
total_more x f c (suc m) l o = let b : c ≤ m = omega arith in elim (eq-or-lt_of_le b) [
  | inl e ↦
      let t : nat_eq c m ≡ true = eq-eqb c m e in
      let n : x m ≡ false = ap x (sym e) ∙ o in
      let s : total (λ k. cond (nat_eq c k || x k) (f k) 0) m ≡ total (λ k. cond (x k) (f k) 0) m =
      total_same _ _ m (λ k j. let d : nat_eq c k ≡ false = ne_eqb c k (λ g. absurd (omega arith)) in rw d refl) in
      let g : f c ≡ f m = ap f e in
      rw (t, n, s) (omega arith)
  | inr h ↦
      let d : nat_eq c m ≡ false = ne_eqb c m (λ g. absurd (omega arith)) in
      let i = total_more x f c m h o in
      rw d (omega arith)
]

ascends_on : (c : ℕ) (cs : List ℕ) → IsAscending (c ∷ cs) → IsAscending cs
ascends_on c cs a j k h l = a (suc j) (suc k) (omega arith) (omega arith)

first_apart : (c : ℕ) (cs : List ℕ) → IsAscending (c ∷ cs) → has cs c ≡ false
first_apart c cs a = false_from_ne_true _ (λ t.
    let (k, l, e) = (has_decides cs c).0 t in
    let z : get_or cs k c ≡ get_or cs k 0 = any_default cs k c 0 l in
    let r : c < get_or cs k 0 = a 0 (suc k) (omega arith) (omega arith) in
    absurd (omega arith))

-- the rooms of an ascending list add up to the weight of its set
pub weight_listed : (ws : List Wire) (cut : List ℕ) → IsAscending cut → All (λ k. k < length ws) cut →
    sum_by (λ k. weight_of (wire ws k).room) cut ≡ weight ws (has cut)
weight_listed ws [] a b = sym (total_none (marked_weight ws (has [])) (length ws) (λ k l. refl))
weight_listed ws (c ∷ cs) a b =
    let f : ℕ → ℕ = λ k. weight_of (wire ws k).room in
    sum_by-cons f c cs ∙ (ap (λ n. f c + n) (weight_listed ws cs (ascends_on c cs a) (λ k d l. b (suc k) d (omega arith)))
    ∙ sym (total_more (has cs) f c (length ws) (b 0 c (omega arith)) (first_apart c cs a)))

at_least : (xs : List ℕ) → IsAscending xs → (i : ℕ) → i < length xs → i ≤ get_or xs i 0
at_least xs a zero l = omega arith
at_least xs a (suc i) l =
    let h : i ≤ get_or xs i 0 = at_least xs a i (omega arith) in
    let r : get_or xs i 0 < get_or xs (suc i) 0 = a i (suc i) (omega arith) l in
    omega arith

-- ascending numbers below m are at most m
pub ascending_few : (m : ℕ) (xs : List ℕ) → IsAscending xs → All (λ k. k < m) xs → length xs ≤ m
ascending_few m [] a b = omega arith
ascending_few m (x ∷ xs) a b =
    let n = length xs in
    let l : n < length (x ∷ xs) = omega arith in
    let h : n ≤ get_or (x ∷ xs) n 0 = at_least (x ∷ xs) a n l in
    let u : get_or (x ∷ xs) n 0 < m = b n 0 l in
    omega arith

glue_at : (ws : List Wire) (cut : List ℕ) (k : ℕ) → has cut k ≡ true → is_none (wire ws k).room ≡ true → cuts_glue ws cut k ≡ true
glue_at ws cut k h n = rw (h, n) refl

not_glue : (ws : List Wire) (cut : List ℕ) (k : ℕ) → (has cut k ≡ true → is_none (wire ws k).room ≡ false) → cuts_glue ws cut k ≡ false
not_glue ws cut k h = elim (cases_Bool (has cut k)) [
  | inl t ↦ let n = h t in rw (t, n) refl
  | inr f ↦ rw f refl
]

module _ (ws : List Wire) (cut : List ℕ) (m : ℕ) (a : IsAscending cut) where
  -- the first of the list that is glue is the least
  pub glue_hit : (i : ℕ) → i < length cut → ((j : ℕ) → j < i → is_none (wire ws (get_or cut j 0)).room ≡ false) →
      is_none (wire ws (get_or cut i 0)).room ≡ true → get_or cut i 0 < m → first_below (cuts_glue ws cut) m ≡ Some (get_or cut i 0)
  glue_hit i l before n w =
      let k = get_or cut i 0 in
      let h : has cut k ≡ true = (has_decides cut k).1 (i, l, any_default cut i k 0 l) in
      first_below_at (cuts_glue ws cut) k m (glue_at ws cut k h n)
      (λ j b. not_glue ws cut j (λ t.
      let (p, q, e) = (has_decides cut j).0 t in
      let z : get_or cut p 0 ≡ j = any_default cut p 0 j q ∙ e in
      elim (cases_lt p i) [
        | inl s ↦ ap (λ v. is_none (wire ws v).room) (sym z) ∙ before p s
        | inr s ↦ let r = rises cut a i p s q in absurd (omega arith)
      ])) w

  pub glue_none : ((j : ℕ) → j < length cut → is_none (wire ws (get_or cut j 0)).room ≡ false) → first_below (cuts_glue ws cut) m ≡ None
  glue_none none = below_none_from (cuts_glue ws cut) m (λ j b. not_glue ws cut j (λ t.
      let (p, q, e) = (has_decides cut j).0 t in
      let z : get_or cut p 0 ≡ j = any_default cut p 0 j q ∙ e in
      ap (λ v. is_none (wire ws v).room) (sym z) ∙ none p q))
