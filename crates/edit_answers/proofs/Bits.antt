-- The numbers of a mask are its bits, ascending.
use Rattle.std.proofs.Common.{◌≡◌, ℕ, zero, suc, ◌+◌, ◌<◌, ◌≤◌, Bool, true, false, cond, List, ◌∷◌, refl, sym, ◌∙◌, ap, subst, inl, inr, ◌⊎◌, arith}
use Rattle.std.proofs.lemmas.Bool.{cases_lt}
use Rattle.node_ids.specs.Ids.{LayoutForm}
use Rattle.graph_model.specs.Lists.{has}
use Rattle.graph_model.proofs.ListLemmas.{has_head, has_tail, has_cases, has_none}
use Rattle.op_model.specs.Locks.{locks_of}
use Rattle.op_model.specs.Valid.{IsAscending}
use Rattle.op_model.proofs.LegalLemmas.{all_has}
use Rattle.op_model.proofs.LockLemmas.{locks_listed}
use Rattle.layer_laws.proofs.OrderLemmas.{ascending_cons, same_ascending}
use Rattle.client_events.specs.Masks.{in_mask, numbers, numbers_among}
use Rattle.root_masks.specs.Masks.{has_bit, HasLocks}

-- the numbers from n on are at least n, and bits of the mask
among_bits : (mask n k w : ℕ) → has (numbers_among mask n k) w ≡ true → (n ≤ w) × (in_mask mask w ≡ true)
unfolding numbers_among
among_bits mask n zero w h = has_none w h
among_bits mask n (suc k) w h = go (in_mask mask n) refl h (among_bits mask (n + 1) k w)
  where
    go : (t : Bool) → in_mask mask n ≡ t → has (cond t (n ∷ numbers_among mask (n + 1) k) (numbers_among mask (n + 1) k)) w ≡ true
        → (has (numbers_among mask (n + 1) k) w ≡ true → (n + 1 ≤ w) × (in_mask mask w ≡ true)) → (n ≤ w) × (in_mask mask w ≡ true)
    go true q g ih = elim (has_cases n (numbers_among mask (n + 1) k) w g) [
      | inl e ↦ (let s : n ≡ w = e in omega arith, ap (in_mask mask) (sym e) ∙ q)
      | inr r ↦ (let l = (ih r).0 in omega arith, (ih r).1)
    ]
    go false q g ih = (let l = (ih g).0 in omega arith, (ih g).1)

-- a bit of the mask is one of so many numbers from n on
bit_among : (mask n k w : ℕ) → n ≤ w → w < n + k → in_mask mask w ≡ true → has (numbers_among mask n k) w ≡ true
unfolding numbers_among
bit_among mask n zero w l h b = absurd (omega arith)
bit_among mask n (suc k) w l h b = here (cases_lt n w) (λ x y. bit_among mask (n + 1) k w x y b)
  where
    here : (n < w) ⊎ (w ≤ n) → (n + 1 ≤ w → w < n + 1 + k → has (numbers_among mask (n + 1) k) w ≡ true) → has (cond (in_mask mask n) (n ∷ numbers_among mask (n + 1) k) (numbers_among mask (n + 1) k)) w ≡ true
    here (inl m) ih = go (in_mask mask n) (ih (omega arith) (omega arith))
      where
        go : (t : Bool) → has (numbers_among mask (n + 1) k) w ≡ true → has (cond t (n ∷ numbers_among mask (n + 1) k) (numbers_among mask (n + 1) k)) w ≡ true
        go true ih = has_tail n (numbers_among mask (n + 1) k) w ih
        go false ih = ih
    here (inr m) ih =
        let s : w ≡ n = omega arith in
        subst (λ x. has (cond (in_mask mask n) (n ∷ numbers_among mask (n + 1) k) (numbers_among mask (n + 1) k)) x ≡ true) (sym s)
        (ap (λ t. has (cond t (n ∷ numbers_among mask (n + 1) k) (numbers_among mask (n + 1) k)) n) (ap (in_mask mask) (sym s) ∙ b) ∙ has_head n (numbers_among mask (n + 1) k))

among_ascends : (mask n k : ℕ) → IsAscending (numbers_among mask n k)
unfolding numbers_among
among_ascends mask n zero = tt
among_ascends mask n (suc k) = go (in_mask mask n) (among_ascends mask (n + 1) k)
  where
    go : (t : Bool) → IsAscending (numbers_among mask (n + 1) k) → IsAscending (cond t (n ∷ numbers_among mask (n + 1) k) (numbers_among mask (n + 1) k))
    go true ih = ascending_cons n (numbers_among mask (n + 1) k) (λ w h. let l = (among_bits mask (n + 1) k w h).0 in omega arith) ih
    go false ih = ih

same_bit : (mask n : ℕ) → in_mask mask n ≡ has_bit mask n
unfolding in_mask has_bit
same_bit mask n = refl

-- the locks of some roots are the numbers of a mask that has them and no other
pub masks_list : (layout : LayoutForm) (roots : List ℕ) (mask : ℕ) → HasLocks layout roots mask → locks_of layout roots ≡ numbers mask 0
unfolding numbers
masks_list layout roots mask l =
    let listed = locks_listed layout roots in
    same_ascending (locks_of layout roots) (numbers_among mask 0 64) listed.0 (among_ascends mask 0 64)
    (λ w h. (let low : w < 64 = all_has (λ n. n < 64) (locks_of layout roots) w listed.1 h in
    bit_among mask 0 64 w (omega arith) (omega arith) (same_bit mask w ∙ (l w ∙ (sym (listed.2 w) ∙ h)))))
    (λ w h. listed.2 w ∙ (sym (l w) ∙ (sym (same_bit mask w) ∙ (among_bits mask 0 64 w h).1)))
