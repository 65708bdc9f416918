-- Ascending lists, and the locks of roots.
use Rattle.std.proofs.Common.{◌≡◌, ℕ, suc, ◌≤◌, ◌<◌, Bool, true, false, cond, eqb, ltb, List, [], ◌∷◌, map, refl, sym, inl, inr, arith}
use Rattle.std.specs.List.{AllByRecursion}
use Rattle.std.proofs.lemmas.Bool.{eqb-false, ltb-true, ltb-false, cases_eq}
use Rattle.node_ids.specs.Ids.{LayoutForm}
use Rattle.graph_model.specs.Lists.{has}
use Rattle.op_model.specs.Valid.{IsAscending}
use Rattle.op_model.specs.Operations.{put_id, ascending}
use Rattle.op_model.specs.Locks.{lock_of, locks_of}
use Rattle.op_model.proofs.LegalLemmas.{ascending_has}
use Rattle.op_model.proofs.MadeLemmas.{ascending_only}

-- the first one is as great as this, and they ascend
abbrev From : ℕ → List ℕ → Type 0
From x [] = Unit {0}
From x (y ∷ ys) = x ≤ y

put_from : (z x : ℕ) (ys : List ℕ) → z ≤ x → From z ys → From z (put_id x ys)
unfolding put_id
put_from z x [] l f = l
put_from z x (y ∷ ys) l f = go (eqb x y) (ltb x y)
  where
    go : (s t : Bool) → From z (cond s (y ∷ ys) (cond t (x ∷ y ∷ ys) (y ∷ put_id x ys)))
    go true t = f
    go false true = l
    go false false = f

before_from : (y : ℕ) (ys : List ℕ) → From (suc y) ys → IsAscending ys → IsAscending (y ∷ ys)
before_from y [] f a = tt
before_from y (x ∷ xs) f a = (f, a)

from_before : (y : ℕ) (ys : List ℕ) → IsAscending (y ∷ ys) → From (suc y) ys × IsAscending ys
from_before y [] a = (tt, tt)
from_before y (x ∷ xs) a = (a.0, a.1)

put_ascends : (x : ℕ) (ys : List ℕ) → IsAscending ys → IsAscending (put_id x ys)
unfolding put_id
put_ascends x [] a = tt
put_ascends x (y ∷ ys) a = go (eqb x y) refl (ltb x y) refl (from_before y ys a) (put_ascends x ys)
  where
    go : (s : Bool) → eqb x y ≡ s → (t : Bool) → ltb x y ≡ t → From (suc y) ys × IsAscending ys → (IsAscending ys → IsAscending (put_id x ys)) → IsAscending (cond s (y ∷ ys) (cond t (x ∷ y ∷ ys) (y ∷ put_id x ys)))
    go true e t f p ih = a
    go false e true f p ih = (ltb-true x y f, a)
    go false e false f p ih =
        let l : y ≤ x = ltb-false x y f in
        let n : x ≡ y → ⊥ = eqb-false x y e in
        before_from y (put_id x ys) (put_from (suc y) x ys (elim (cases_eq x y) [ inl q ↦ absurd (n q) | inr k ↦ less l k ]) p.0) (ih p.1)
      where
        less : y ≤ x → (x ≡ y → ⊥) → suc y ≤ x
        less l k = grind arith

pub ascending_ascends : (xs : List ℕ) → IsAscending (ascending xs)
unfolding ascending
ascending_ascends [] = tt
ascending_ascends (x ∷ xs) = put_ascends x (ascending xs) (ascending_ascends xs)

put_all : (P : ℕ → Type 0) (x : ℕ) (ys : List ℕ) → P x → AllByRecursion P ys → AllByRecursion P (put_id x ys)
unfolding put_id
put_all P x [] p a = (p, tt)
put_all P x (y ∷ ys) p a = go (eqb x y) (ltb x y) (put_all P x ys p)
  where
    go : (s t : Bool) → (AllByRecursion P ys → AllByRecursion P (put_id x ys)) → AllByRecursion P (cond s (y ∷ ys) (cond t (x ∷ y ∷ ys) (y ∷ put_id x ys)))
    go true t ih = a
    go false true ih = (p, a)
    go false false ih = (a.0, ih a.1)

pub ascending_all : (P : ℕ → Type 0) (xs : List ℕ) → AllByRecursion P xs → AllByRecursion P (ascending xs)
unfolding ascending
ascending_all P [] a = tt
ascending_all P (x ∷ xs) a = put_all P x (ascending xs) a.0 (ascending_all P xs a.1)

below_64 : (layout : LayoutForm) (rs : List ℕ) → AllByRecursion (λ n. n < 64) (map (lock_of layout) rs)
unfolding lock_of
below_64 layout [] = tt
below_64 layout (r ∷ rs) = (omega arith, below_64 layout rs)

same_has : (s t : Bool) → (s ≡ true → t ≡ true) → (t ≡ true → s ≡ true) → s ≡ t
same_has true t f g = sym (f refl)
same_has false true f g = g refl
same_has false false f g = refl

pub locks_listed : (layout : LayoutForm) (rs : List ℕ)
    → IsAscending (locks_of layout rs) × AllByRecursion (λ n. n < 64) (locks_of layout rs) × ((n : ℕ) → has (locks_of layout rs) n ≡ has (map (lock_of layout) rs) n)
unfolding locks_of
locks_listed layout rs =
    let ns : List ℕ = map (lock_of layout) rs in
    (ascending_ascends ns, ascending_all (λ n. n < 64) ns (below_64 layout rs), λ n. same_has _ _ (ascending_only ns n) (ascending_has ns n))
