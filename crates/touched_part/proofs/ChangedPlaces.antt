-- A changed pair among those that ascend.
use Rattle.std.proofs.Common.{◌≡◌, ℕ, zero, suc, ◌<◌, ◌≤◌, Bool, true, false, ◌&&◌, ltb, List, [], ◌∷◌, length, map, get_or, sym, ◌∙◌, subst, inl, inr, arith, lt-ltb}
use Rattle.std.specs.List.{list_any}
use Rattle.std.specs.List.Sorted.{IsPartitionedBy}
use Rattle.std.proofs.lemmas.Bool.{and_from, and_parts, cases_lt, false≢true, ltb-true, or_cases, or_left, or_right}
use Rattle.graph_model.proofs.ListLemmas.{same_bool}
use Rattle.op_model.specs.declared.base.Pair.{Pair}
use Rattle.op_model.specs.declared.entry.Changed.{Changed}
use Rattle.op_model.specs.Cuts.{PairsAscend}
use Rattle.op_model.specs.Edges.{pair_before, same_pair}
use Rattle.op_model.proofs.OrderLemmas.{before_trans}
use Rattle.part_laws.specs.Touched.{changes}
use Rattle.part_laws.proofs.ChangedLinks.{before_apart, same_is}

first_before : (p : Pair) (cs : List Changed) (j : ℕ) (d : Changed) → PairsAscend (p ∷ map (λ c. c.pair) cs) → j < length cs → pair_before p (get_or cs j d).pair ≡ true
first_before p [] j d a l = absurd (omega arith)
first_before p (c ∷ cs) zero d a l = a.0
first_before p (c ∷ cs) (suc j) d a l = before_trans p c.pair (get_or cs j d).pair a.0 (first_before c.pair cs j d a.1 (omega arith))

tail : (p : Pair) (cs : List Changed) → PairsAscend (p ∷ map (λ c. c.pair) cs) → PairsAscend (map (λ c. c.pair) cs)
tail p [] a = tt
tail p (c ∷ cs) a = a.1

ascend_at : (cs : List Changed) (i j : ℕ) (d : Changed) → PairsAscend (map (λ c. c.pair) cs) → i < j → j < length cs → pair_before (get_or cs i d).pair (get_or cs j d).pair ≡ true
ascend_at [] i j d a l m = absurd (omega arith)
ascend_at (c ∷ cs) i zero d a l m = absurd (omega arith)
ascend_at (c ∷ cs) zero (suc j) d a l m = first_before c.pair cs j d a (omega arith)
ascend_at (c ∷ cs) (suc i) (suc j) d a l m = ascend_at cs i j d (tail c.pair cs a) (omega arith) (omega arith)

pub parted : (cs : List Changed) (p : Pair) → PairsAscend (map (λ c. c.pair) cs) → IsPartitionedBy (λ x. pair_before x.pair p) cs
parted cs p a i j d l m h =
    elim (cases_lt i j) [
      | inl less ↦ before_trans (get_or cs i d).pair (get_or cs j d).pair p (ascend_at cs i j d a less m) h
      | inr more ↦ let e : j ≡ i = omega arith in subst (λ k. pair_before (get_or cs k d).pair p ≡ true) e h
    ]

at_some : (cs : List Changed) (p : Pair) (d : Changed) → changes cs p ≡ true → (i : ℕ) × (i < length cs) × (same_pair (get_or cs i d).pair p ≡ true)
unfolding changes
at_some [] p d h = absurd (false≢true h)
at_some (c ∷ cs) p d h = elim (or_cases (same_pair c.pair p) (list_any (λ x. same_pair x.pair p) cs) h) [
  | inl k ↦ (0, (omega arith), k)
  | inr k ↦ let r = at_some cs p d k in (suc r.0, (let l = r.1 in omega arith), r.2)
]

from_at : (cs : List Changed) (p : Pair) (d : Changed) (i : ℕ) → i < length cs → same_pair (get_or cs i d).pair p ≡ true → changes cs p ≡ true
unfolding changes
from_at [] p d i l h = absurd (omega arith)
from_at (c ∷ cs) p d zero l h = or_left (same_pair c.pair p) _ h
from_at (c ∷ cs) p d (suc i) l h = or_right (same_pair c.pair p) _ (from_at cs p d i (omega arith) h)

same_self : (p q : Pair) → same_pair p q ≡ true → pair_before p q ≡ true → ⊥
same_self p q s b = false≢true (sym (before_apart p q b) ∙ subst (λ x. same_pair x p ≡ true) (same_is p q s) (subst (λ x. same_pair p x ≡ true) (sym (same_is p q s)) s))

pub found_changed : (cs : List Changed) (p : Pair) (at : ℕ) (r : Bool) (d : Changed) → PairsAscend (map (λ c. c.pair) cs)
    → ((i : ℕ) (x : Changed) → i < at → i < length cs → pair_before (get_or cs i x).pair p ≡ true) → ((i : ℕ) (x : Changed) → at ≤ i → i < length cs → pair_before (get_or cs i x).pair p ≡ false)
    → r ≡ (ltb at (length cs) && same_pair (get_or cs at d).pair p) → r ≡ changes cs p
found_changed cs p at r d a low high e = e ∙ same_bool (ltb at (length cs) && same_pair (get_or cs at d).pair p) (changes cs p)
    (λ h. let q = and_parts (ltb at (length cs)) (same_pair (get_or cs at d).pair p) h in from_at cs p d at (ltb-true at (length cs) q.0) q.1)
    (λ h. let s = at_some cs p d h in there s.0 s.1 s.2)
  where
    there : (i : ℕ) → i < length cs → same_pair (get_or cs i d).pair p ≡ true → (ltb at (length cs) && same_pair (get_or cs at d).pair p) ≡ true
    there i l s = elim (cases_lt i at) [
      | inl less ↦ absurd (same_self (get_or cs i d).pair p s (low i d less l))
      | inr more ↦ elim (cases_lt at i) [
        | inl less ↦
            absurd (false≢true (sym (high at d (omega arith) (omega arith)) ∙ subst (λ x. pair_before (get_or cs at d).pair x ≡ true) (same_is (get_or cs i d).pair p s) (ascend_at cs at i d a less l)))
        | inr same ↦ let q : i ≡ at = omega arith in and_from _ _ (lt-ltb at (length cs) (omega arith)) (subst (λ k. same_pair (get_or cs k d).pair p ≡ true) q s)
      ]
    ]
