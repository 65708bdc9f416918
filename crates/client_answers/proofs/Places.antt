-- One client's answers among all.
use Rattle.std.proofs.Common.{◌≡◌, ℕ, zero, suc, pred, ◌+◌, ◌-◌, ◌<◌, ◌≤◌, List, [], ◌∷◌, length, get_or, Some, None, refl, sym, ◌∙◌, ap, subst, arith}
use Rattle.std.specs.Prelude.{slice_get, slice_set, Result, Ok, Err, OnOk, OnErr}
use Rattle.op_model.specs.declared.reply.Reply.{Reply}
use Rattle.pcg_base.specs.Causes.{HasCause, Rose}
use Rattle.pcg_base.specs.States.{SinkState}
use Rattle.client_answers.specs.declared.answers.ClientAnswers.{ClientAnswers}
use Rattle.client_answers.specs.declared.answers.AllAnswers.{AllAnswers}
use Rattle.client_answers.specs.Answers.{AtClient, fault_sum}

module _ {K : Type 0} where
  item_at : (xs : List (ClientAnswers K)) (k : ℕ) (d : ClientAnswers K) → k < length xs → slice_get xs k ≡ Some (get_or xs k d)
  item_at [] k d l = absurd (omega (arith, l))
  item_at (x ∷ xs) zero d l = refl
  item_at (x ∷ xs) (suc k) d l = item_at xs k d (omega (arith, l))

  none_at : (xs : List (ClientAnswers K)) (k : ℕ) → length xs ≤ k → slice_get xs k ≡ None
  none_at [] k l = refl
  none_at (x ∷ xs) zero l = absurd (omega (arith, l))
  none_at (x ∷ xs) (suc k) l = none_at xs k (omega (arith, l))

  pub no_client : (P : ClientAnswers K → Reply → ClientAnswers K → Type 0) (old new : AllAnswers K) (client place : ℕ) (r : Reply) → place ≡ client - 1 → length old.list.items ≤ place
      → AtClient P old client r new (slice_get old.list.items (pred client))
  no_client P old new client place r e l = rw (none_at old.list.items (pred client) (omega (arith, e, l))) tt

  pub at_client : (P : ClientAnswers K → Reply → ClientAnswers K → Type 0) (old new : AllAnswers K) (client place : ℕ) (r : Reply) (x z d : ClientAnswers K) → place ≡ client - 1 → place < length old.list.items
      → x ≡ get_or old.list.items place d → P x r z → new.list.items ≡ slice_set old.list.items place z → AtClient P old client r new (slice_get old.list.items (pred client))
  at_client P old new client place r x z d e l at p set =
      let k : place ≡ pred client = omega (arith, e) in
      let there : slice_get old.list.items (pred client) ≡ Some x = subst (λ n. slice_get old.list.items n ≡ Some x) k (item_at old.list.items place d l ∙ ap (λ y. Some y) (sym at)) in
      rw there (z, p, set ∙ ap (λ n. slice_set old.list.items n z) k)

  sum_set : (state : K → SinkState) (xs : List (ClientAnswers K)) (k : ℕ) (z d : ClientAnswers K) → k < length xs
      → fault_sum state (slice_set xs k z) + (state (get_or xs k d).sink).faults ≡ fault_sum state xs + (state z.sink).faults
  unfolding fault_sum
  sum_set state [] k z d l = absurd (omega (arith, l))
  sum_set state (x ∷ xs) zero z d l = omega arith
  sum_set state (x ∷ xs) (suc k) z d l = let h = sum_set state xs k z d (omega (arith, l)) in omega (arith, h)

  part_low : (state : K → SinkState) (xs : List (ClientAnswers K)) (k : ℕ) (d : ClientAnswers K) → k < length xs → (state (get_or xs k d).sink).faults ≤ fault_sum state xs
  unfolding fault_sum
  part_low state [] k d l = absurd (omega (arith, l))
  part_low state (x ∷ xs) zero d l = omega arith
  part_low state (x ∷ xs) (suc k) d l = let h = part_low state xs k d (omega (arith, l)) in omega (arith, h)

-- a part of a sum rose, and so did the sum
rose_all : (a b m n : ℕ) → m + a ≡ n + b → a ≤ n → Rose a b → Rose n m
rose_all a b m n e l r = omega (arith, e, l, r)

still_all : {T E : Type 0} (a b m n : ℕ) (r : Result T E) → m + a ≡ n + b → OnOk r (b ≡ a) → OnOk r (m ≡ n)
still_all a b m n (Ok v) s h = omega (arith, s, h)
still_all a b m n (Err e) s h = tt

failed_all : {T E : Type 0} (a b m n : ℕ) (r : Result T E) → m + a ≡ n + b → a ≤ n → OnErr r (Rose a b) → OnErr r (Rose n m)
failed_all a b m n (Ok v) s l h = tt
failed_all a b m n (Err e) s l h = rose_all a b m n s l h

module _ {K : Type 0} where
  pub cause_all : {T E : Type 0} (state : K → SinkState) (xs : List (ClientAnswers K)) (k : ℕ) (x z d : ClientAnswers K) (result : Result T E) → k < length xs → x ≡ get_or xs k d
      → HasCause (state x.sink).faults (state z.sink).faults result → HasCause (fault_sum state xs) (fault_sum state (slice_set xs k z)) result
  cause_all state xs k x z d result l at h =
      let s : fault_sum state (slice_set xs k z) + (state x.sink).faults ≡ fault_sum state xs + (state z.sink).faults = subst (λ y. fault_sum state (slice_set xs k z) + (state y.sink).faults ≡ fault_sum state xs + (state z.sink).faults) (sym at) (sum_set state xs k z d l) in
      let low : (state x.sink).faults ≤ fault_sum state xs = subst (λ y. (state y.sink).faults ≤ fault_sum state xs) (sym at) (part_low state xs k d l) in
      record {
        later = (let b = h.later in omega (arith, s, b));
        still = still_all (state x.sink).faults (state z.sink).faults (fault_sum state (slice_set xs k z)) (fault_sum state xs) result s h.still;
        failed = failed_all (state x.sink).faults (state z.sink).faults (fault_sum state (slice_set xs k z)) (fault_sum state xs) result s low h.failed;
      }
