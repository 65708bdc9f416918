-- How many numbers a list keeps that has each of them once.
use Rattle.std.proofs.Common.{◌≡◌, ℕ, ◌+◌, ◌<◌, Bool, true, false, cond, not, ◌||◌, eqb, List, [], ◌∷◌, ◌++◌, length, refl, sym, ◌∙◌, ap, subst, inl, inr, ◌⊎◌, arith, ne_eqb}
use Rattle.std.specs.List.{filter}
use Rattle.std.proofs.lemmas.Bool.{false_from_ne_true, eqb-true, eqb-false}
use Rattle.graph_model.specs.Lists.{has}
use Rattle.graph_model.proofs.ListLemmas.{contra, has_cases, has_head, has_none, has_tail, filter_has, filter_only}
use Rattle.op_model.specs.Operations.{ascending}
use Rattle.op_model.specs.Valid.{IsAscending}
use Rattle.op_model.proofs.LinkLemmas.{append_cases}
use Rattle.op_model.proofs.LockLemmas.{ascending_ascends}
use Rattle.op_model.proofs.RootLemmas.{filter_all}
use Rattle.layer_laws.proofs.OrderLemmas.{ascending_above}

-- the list has each of its numbers once
abbrev pub Once : List ℕ → Type 0
Once [] = Unit {0}
Once (x ∷ xs) = (has xs x ≡ false) × Once xs

once_tail : (x : ℕ) (xs : List ℕ) → IsAscending (x ∷ xs) → IsAscending xs
once_tail x [] a = tt
once_tail x (y ∷ ys) a = a.1

ascends_once : (xs : List ℕ) → IsAscending xs → Once xs
ascends_once [] a = tt
ascends_once (x ∷ xs) a =
    (false_from_ne_true _ (λ h. let l : x < x = ascending_above xs x x a h in absurd (omega arith)), ascends_once xs (once_tail x xs a))

pub ascending_once : (xs : List ℕ) → Once (ascending xs)
ascending_once xs = ascends_once (ascending xs) (ascending_ascends xs)

pub filter_once : (t : ℕ → Bool) (xs : List ℕ) → Once xs → Once (filter t xs)
filter_once t [] o = tt
filter_once t (x ∷ xs) o = go (t x) (filter_once t xs o.1)
  where
    go : (s : Bool) → Once (filter t xs) → Once (cond s (x ∷ filter t xs) (filter t xs))
    go true ih = (false_from_ne_true _ (λ h. contra (has xs x) (filter_only t xs x h).0 o.0), ih)
    go false ih = ih

pub append_once : (xs ys : List ℕ) → Once xs → Once ys → ((x : ℕ) → has xs x ≡ true → has ys x ≡ true → ⊥) → Once (xs ++ ys)
append_once [] ys o p apart = p
append_once (x ∷ xs) ys o p apart = (
  false_from_ne_true _ (λ h. elim (append_cases xs ys x h) [ inl k ↦ contra (has xs x) k o.0 | inr k ↦ apart x (has_head x xs) k ]),
  append_once xs ys o.1 p (λ y h k. apart y (has_tail x xs y h) k),
)

-- without one of its numbers it has one less
drop_one : (r : ℕ) (xs : List ℕ) → Once xs → has xs r ≡ true → length (filter (λ x. not (eqb r x)) xs) + 1 ≡ length xs
drop_one r [] o h = has_none r h
drop_one r (x ∷ xs) o h = go (eqb r x) refl (has_cases x xs r h) (drop_one r xs o.1)
  where
    test : ℕ → Bool
    test y = not (eqb r y)

    rest : (y : ℕ) → has xs y ≡ true → r ≡ x → test y ≡ true
    rest y k q = ap not (ne_eqb r y (λ e. contra (has xs x) (subst (λ z. has xs z ≡ true) (sym e ∙ q) k) o.0))

    go : (s : Bool) → eqb r x ≡ s → (x ≡ r) ⊎ (has xs r ≡ true) → (has xs r ≡ true → length (filter test xs) + 1 ≡ length xs) → length (cond (not s) (x ∷ filter test xs) (filter test xs)) + 1 ≡ length (x ∷ xs)
    go true q c ih = let all : filter test xs ≡ xs = filter_all test xs (λ y k. rest y k (eqb-true r x q)) in let n : length (filter test xs) ≡ length xs = ap length all in omega arith
    go false q (inl e) ih = absurd (eqb-false r x q (sym e))
    go false q (inr k) ih = let n : length (filter test xs) + 1 ≡ length xs = ih k in omega arith

-- two tests, one behind the other
filter_both : (r : ℕ) (rs xs : List ℕ) → filter (λ x. not (has (r ∷ rs) x)) xs ≡ filter (λ x. not (eqb r x)) (filter (λ x. not (has rs x)) xs)
filter_both r rs [] = refl
filter_both r rs (x ∷ xs) = go (eqb r x) refl (has rs x) (filter_both r rs xs)
  where
    kept : List ℕ
    kept = filter (λ y. not (has rs y)) xs

    go : (s : Bool) → eqb r x ≡ s → (t : Bool) → filter (λ y. not (has (r ∷ rs) y)) xs ≡ filter (λ y. not (eqb r y)) kept
        → cond (not (s || t)) (x ∷ filter (λ y. not (has (r ∷ rs) y)) xs) (filter (λ y. not (has (r ∷ rs) y)) xs) ≡ filter (λ y. not (eqb r y)) (cond (not t) (x ∷ kept) kept)
    go true q true ih = ih
    go true q false ih = ih ∙ sym (ap (λ s. cond (not s) (x ∷ filter (λ y. not (eqb r y)) kept) (filter (λ y. not (eqb r y)) kept)) q)
    go false q true ih = ih
    go false q false ih = ap (λ ys. x ∷ ys) ih ∙ sym (ap (λ s. cond (not s) (x ∷ filter (λ y. not (eqb r y)) kept) (filter (λ y. not (eqb r y)) kept)) q)

-- and without several of them so many less
pub drop_each : (rs xs : List ℕ) → Once rs → Once xs → ((r : ℕ) → has rs r ≡ true → has xs r ≡ true) → length (filter (λ x. not (has rs x)) xs) + length rs ≡ length xs
drop_each [] xs p o within = let n : length (filter (λ x. not (has [] x)) xs) ≡ length xs = ap length (filter_all (λ x. not (has [] x)) xs (λ x h. refl)) in omega arith
drop_each (r ∷ rs) xs p o within =
    let kept : List ℕ = filter (λ x. not (has rs x)) xs in
    let ih : length kept + length rs ≡ length xs = drop_each rs xs p.1 o (λ x h. within x (has_tail r rs x h)) in
    let there : has kept r ≡ true = filter_has (λ x. not (has rs x)) xs r (within r (has_head r rs)) (ap not p.0) in
    let one : length (filter (λ x. not (eqb r x)) kept) + 1 ≡ length kept = drop_one r kept (filter_once (λ x. not (has rs x)) xs o) there in
    let both : length (filter (λ x. not (has (r ∷ rs) x)) xs) ≡ length (filter (λ x. not (eqb r x)) kept) = ap length (filter_both r rs xs) in
    omega arith
