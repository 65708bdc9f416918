-- Numbers in order, each once.
use Rattle.std.proofs.Common.{◌≡◌, ℕ, ◌<◌, Bool, true, false, cond, ◌||◌, eqb, List, [], ◌∷◌, refl, sym, ◌∙◌, ap, subst, nat_cmp, Less}
use Rattle.std.proofs.lemmas.Bool.{eqb-true}
use Rattle.std.specs.List.{dedup, dedup_from}
use Rattle.std.specs.List.Sorted.{IsPermutation, IsSorted, IsStrictlySortedBy}
use Rattle.std.specs.List.Retain.{IsFiltered, DiffersFromLast}
use Rattle.std.specs.Ordering.{MatchOrdering}
use Rattle.std.specs.Cmp.{nat_cmp_total, unsigned_ties, ranks}
use Rattle.std.proofs.lemmas.List.Filters.{dedup_is}
use Rattle.std.proofs.lemmas.List.Kept.{IsStrictlySortedBy-dedup}
use Rattle.std.proofs.lemmas.List.Sorted.{list_any-IsPermutation}
use Rattle.graph_model.specs.Lists.{has}
use Rattle.op_model.specs.Valid.{IsAscending}

less_is : (x y : ℕ) → nat_cmp x y ≡ Less → x < y
less_is x y e = subst (λ o. MatchOrdering o (x < y) (x ≡ y) (y < x)) e (ranks x y)

strict_ascends : (xs : List ℕ) → IsStrictlySortedBy nat_cmp xs → IsAscending xs
unfolding IsStrictlySortedBy
strict_ascends [] s = tt
strict_ascends (x ∷ []) s = tt
strict_ascends (x ∷ y ∷ ys) s = (less_is x y s.0.0, strict_ascends (y ∷ ys) s.1)

-- a number once more tells nothing
again : (a b c : Bool) → a ≡ b → (a || (b || c)) ≡ (b || c)
again true true c e = refl
again false false c e = refl
again true false c e = cc
again false true c e = cc

kept_from : (k : ℕ) (xs : List ℕ) (p : ℕ) → has (dedup_from eqb k xs) p ≡ has (k ∷ xs) p
kept_from k [] p = refl
kept_from k (x ∷ xs) p = go (eqb x k) refl (kept_from k xs p) (kept_from x xs p)
  where
    go : (t : Bool) → eqb x k ≡ t → has (dedup_from eqb k xs) p ≡ has (k ∷ xs) p → has (dedup_from eqb x xs) p ≡ has (x ∷ xs) p
        → has (cond t (dedup_from eqb k xs) (k ∷ dedup_from eqb x xs)) p ≡ has (k ∷ x ∷ xs) p
    go true e one two = one ∙ sym (again (eqb k p) (eqb x p) (has xs p) (ap (λ y. eqb y p) (sym (eqb-true x k e))) ∙ ap (λ y. eqb y p || has xs p) (eqb-true x k e))
    go false e one two = ap (λ h. eqb k p || h) two

kept_all : (xs : List ℕ) (p : ℕ) → has (dedup eqb xs) p ≡ has xs p
kept_all [] p = refl
kept_all (x ∷ xs) p = kept_from x xs p

module _ (xs sorted once : List ℕ) (moved : IsPermutation xs sorted) (order : IsSorted nat_cmp sorted) (kept : IsFiltered (DiffersFromLast eqb) [] sorted once) where
  pub once_ascends : IsAscending once
  once_ascends = subst IsAscending (sym (dedup_is eqb sorted once kept)) (strict_ascends (dedup eqb sorted) (IsStrictlySortedBy-dedup nat_cmp_total unsigned_ties sorted order))

  pub once_same : (p : ℕ) → has once p ≡ has xs p
  once_same p = ap (λ ys. has ys p) (dedup_is eqb sorted once kept) ∙ (kept_all sorted p ∙ sym (list_any-IsPermutation (λ y. eqb y p) xs sorted moved))
