-- Lists that are sorted and have each member once.
use Rattle.std.specs.Prelude.{IsPermutation}
use Rattle.std.proofs.Common.{◌≡◌, ℕ, suc, ◌+◌, ◌<◌, eqb, List, [], ◌∷◌, get_or, subst, sym, arith, nat_cmp}
use Rattle.std.specs.List.{dedup}
use Rattle.std.specs.List.Sorted.{IsSorted, IsStrictlyIncreasing}
use Rattle.std.proofs.lemmas.List.Kept.{Contains-dedup_nat, Contains-from_dedup}
use Rattle.std.proofs.lemmas.List.Sorted.{Contains-permutation, IsPermutation-sym}
use Rattle.std.proofs.lemmas.Map.Keys.{IsStrictlyIncreasing-dedup}
use Rattle.graph_model.specs.Lists.{has}
use Rattle.graph_model.proofs.ListLemmas.{same_bool}
use Rattle.graph_model.proofs.Walks.{has_decides}
use Rattle.op_model.specs.Valid.{IsAscending}

rising : (xs : List ℕ) → IsStrictlyIncreasing xs → IsAscending xs
rising [] h = tt
rising (x ∷ []) h = tt
rising (x ∷ y ∷ ys) h = (
  h 0 (omega arith),
  rising (y ∷ ys) (λ k l. let e : suc k + 1 ≡ suc (k + 1) = omega arith in subst (λ n. get_or (y ∷ ys) k 0 < get_or (x ∷ y ∷ ys) n 0) e (h (suc k) (omega arith))),
)

pub once_ascends : (xs ys : List ℕ) → IsSorted nat_cmp xs → ys ≡ dedup eqb xs → IsAscending ys
once_ascends xs ys sorted e = subst (λ zs. IsAscending zs) (sym e) (rising (dedup eqb xs) (IsStrictlyIncreasing-dedup xs sorted))

pub once_same : (list xs ys : List ℕ) → IsPermutation list xs → ys ≡ dedup eqb xs → (v : ℕ) → has ys v ≡ has list v
once_same list xs ys moved e v =
    subst (λ zs. has zs v ≡ has list v) (sym e)
    (same_bool (has (dedup eqb xs) v) (has list v)
    (λ t. (has_decides list v).1 (Contains-permutation _ _ v (IsPermutation-sym _ _ moved) (Contains-from_dedup eqb xs v ((has_decides (dedup eqb xs) v).0 t))))
    (λ t. (has_decides (dedup eqb xs) v).1 (Contains-dedup_nat xs v (Contains-permutation _ _ v moved ((has_decides list v).0 t)))))
