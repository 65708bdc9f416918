-- The numbers of a mask, one after the other.
use Rattle.std.proofs.Common.{◌≡◌, ℕ, suc, ◌+◌, ◌-◌, ◌<◌, ◌≤◌, true, false, cond, ◌&&◌, eqb, List, [], ◌∷◌, ◌∙◌, ap, arith, eq-eqb}
use Rattle.std.specs.Prelude.{slice_index}
use Rattle.std.specs.List.{list_all}
use Rattle.std.proofs.lemmas.Bool.{cond-true, cond-false, ne_eqb}
use Rattle.client_events.specs.Masks.{in_mask, numbers_among, numbers, are_held}

numbers_step : (mask n : ℕ) → n < 64 → numbers mask n ≡ cond (in_mask mask n) (n ∷ numbers mask (n + 1)) (numbers mask (n + 1))
unfolding numbers numbers_among
numbers_step mask n l =
    let e : 64 - n ≡ suc (64 - (n + 1)) = omega arith in
    ap (numbers_among mask n) e

pub numbers_in : (mask n : ℕ) → n < 64 → in_mask mask n ≡ true → numbers mask n ≡ n ∷ numbers mask (n + 1)
numbers_in mask n l e = numbers_step mask n l ∙ cond-true (in_mask mask n) _ _ e

pub numbers_out : (mask n : ℕ) → n < 64 → in_mask mask n ≡ false → numbers mask n ≡ numbers mask (n + 1)
numbers_out mask n l e = numbers_step mask n l ∙ cond-false (in_mask mask n) _ _ e

pub numbers_end : (mask n : ℕ) → 64 ≤ n → numbers mask n ≡ []
unfolding numbers numbers_among
numbers_end mask n l = let e : 64 - n ≡ 0 = omega arith in ap (numbers_among mask n) e

pub held_end : (locks : List ℕ) (client mask n : ℕ) → 64 ≤ n → are_held locks client (numbers mask n) ≡ true
unfolding are_held
held_end locks client mask n l = ap (list_all (λ m. eqb (slice_index locks m) client)) (numbers_end mask n l)

pub held_out : (locks : List ℕ) (client mask n : ℕ) → n < 64 → in_mask mask n ≡ false → are_held locks client (numbers mask n) ≡ are_held locks client (numbers mask (n + 1))
held_out locks client mask n l e = ap (are_held locks client) (numbers_out mask n l e)

pub held_in : (locks : List ℕ) (client mask n : ℕ) → n < 64 → in_mask mask n ≡ true → are_held locks client (numbers mask n) ≡ (eqb (slice_index locks n) client && are_held locks client (numbers mask (n + 1)))
unfolding are_held
held_in locks client mask n l e = ap (list_all (λ m. eqb (slice_index locks m) client)) (numbers_in mask n l e)

pub held_more : (locks : List ℕ) (client mask n : ℕ) → n < 64 → in_mask mask n ≡ true → slice_index locks n ≡ client → are_held locks client (numbers mask n) ≡ are_held locks client (numbers mask (n + 1))
held_more locks client mask n l e q = held_in locks client mask n l e ∙ ap (λ t. t && are_held locks client (numbers mask (n + 1))) (eq-eqb (slice_index locks n) client q)

pub held_not : (locks : List ℕ) (client mask n : ℕ) → n < 64 → in_mask mask n ≡ true → (slice_index locks n ≡ client → ⊥) → are_held locks client (numbers mask n) ≡ false
held_not locks client mask n l e q = held_in locks client mask n l e ∙ ap (λ t. t && are_held locks client (numbers mask (n + 1))) (ne_eqb (slice_index locks n) client q)
