-- The faults of clients, one after the other.
use Rattle.std.proofs.Common.{◌≡◌, ℕ, zero, suc, ◌+◌, ◌≤◌, List, [], ◌∷◌, ◌++◌, length, drop, Option, Some, None, refl, sym, ◌∙◌, ap, subst, arith, length-append}
use Rattle.std.specs.Prelude.{slice_get}
use Rattle.std.proofs.lemmas.List.{append-nil, append_assoc}
use Rattle.std.proofs.lemmas.Option.{same_Some}
use Rattle.pcg_base.specs.declared.reading.StreamEnd.{StreamEnd}
use Rattle.call_lines.specs.declared.summary.Fault.{Fault}
use Rattle.call_lines.specs.declared.summary.ClientFault.{ClientFault}
use Rattle.client_answers.specs.declared.answers.ClientAnswers.{ClientAnswers}
use Rattle.session_results.specs.Begun.{faults_told}
use Rattle.session_results.specs.Results.{fault_at, fault_for}

at_most_one : (client : ℕ) (fault : Option Fault) → length (fault_at client fault) ≤ 1
at_most_one client None = omega arith
at_most_one client (Some fault) = omega arith

pub count_more : (k client : ℕ) (fault : Option Fault) (done now : List ClientFault) → length done ≤ k → now ≡ done ++ fault_at client fault → length now ≤ k + 1
count_more k client fault done now l s =
    let a : length now ≡ length (done ++ fault_at client fault) = ap length s in
    let c = length-append done (fault_at client fault) in
    let m = at_most_one client fault in
    omega (arith, l, a, c, m)

module _ {K : Type 0} where
  -- the next client's fault
  next : (n k : ℕ) (xs : List (ClientAnswers K)) (es : List StreamEnd) (x : ClientAnswers K) (e : StreamEnd) → slice_get xs k ≡ Some x → slice_get es k ≡ Some e
      → faults_told n (drop k xs) (drop k es) ≡ fault_at n (fault_for x.failed e) ++ faults_told (n + 1) (drop (k + 1) xs) (drop (k + 1) es)
  unfolding faults_told
  next n k [] es x e p q = cc
  next n k (y ∷ ys) [] x e p q = cc
  next n zero (y ∷ ys) (f ∷ fs) x e p q =
      ap (λ (z : ClientAnswers K). fault_at n (fault_for z.failed f) ++ faults_told (n + 1) ys fs) (same_Some y x p) ∙ ap (λ z. fault_at n (fault_for x.failed z) ++ faults_told (n + 1) ys fs) (same_Some f e q)
  next n (suc k) (y ∷ ys) (f ∷ fs) x e p q =
      let i : suc (k + 1) ≡ suc k + 1 = omega arith in
      subst (λ j. faults_told n (drop k ys) (drop k fs) ≡ fault_at n (fault_for x.failed e) ++ faults_told (n + 1) (drop j (y ∷ ys)) (drop j (f ∷ fs))) i (next n k ys fs x e p q)

  none_left : (n k : ℕ) (xs : List (ClientAnswers K)) (es : List StreamEnd) → length xs ≤ k → faults_told n (drop k xs) (drop k es) ≡ []
  unfolding faults_told
  none_left n zero [] es l = refl
  none_left n (suc k) [] es l = refl
  none_left n zero (x ∷ xs) es l = absurd (omega (arith, l))
  none_left n (suc k) (x ∷ xs) [] l = nil (drop k xs)
    where
      nil : (ys : List (ClientAnswers K)) → faults_told n ys [] ≡ []
      nil [] = refl
      nil (y ∷ ys) = refl
  none_left n (suc k) (x ∷ xs) (e ∷ es) l = none_left n k xs es (omega (arith, l))

  -- one more client was told of
  pub fault_more : (k : ℕ) (xs : List (ClientAnswers K)) (es : List StreamEnd) (x : ClientAnswers K) (e : StreamEnd) (done now all : List ClientFault) → slice_get xs k ≡ Some x → slice_get es k ≡ Some e
      → done ++ faults_told (k + 1) (drop k xs) (drop k es) ≡ all → now ≡ done ++ fault_at (k + 1) (fault_for x.failed e) → now ++ faults_told (k + 1 + 1) (drop (k + 1) xs) (drop (k + 1) es) ≡ all
  fault_more k xs es x e done now all p q i s =
      ap (λ fs. fs ++ faults_told (k + 1 + 1) (drop (k + 1) xs) (drop (k + 1) es)) s
      ∙ (append_assoc done (fault_at (k + 1) (fault_for x.failed e)) (faults_told (k + 1 + 1) (drop (k + 1) xs) (drop (k + 1) es)) ∙ (ap (λ fs. done ++ fs) (sym (next (k + 1) k xs es x e p q)) ∙ i))

  -- all were told of
  pub faults_all : (k : ℕ) (xs : List (ClientAnswers K)) (es : List StreamEnd) (done all : List ClientFault) → length xs ≤ k → done ++ faults_told (k + 1) (drop k xs) (drop k es) ≡ all → done ≡ all
  faults_all k xs es done all l i = sym (append-nil done) ∙ (ap (λ fs. done ++ fs) (sym (none_left (k + 1) k xs es l)) ∙ i)
