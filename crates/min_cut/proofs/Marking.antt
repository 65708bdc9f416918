-- Marks of the numbers in a list.
use Rattle.std.proofs.Common.{◌≡◌, ℕ, ◌+◌, ◌<◌, ◌≤◌, Bool, true, false, List, length, get_or, set, sym, ap, ◌∙◌, inl, inr, arith, get_or-set_same}
use Rattle.std.proofs.lemmas.List.{get_or-set_other}
use Rattle.std.proofs.lemmas.Bool.{cases_Bool, cases_eq, false≢true}
use Rattle.graph_model.specs.Lists.{has}
use Rattle.graph_model.proofs.Walks.{has_decides}
use Rattle.graph_model.proofs.ListLemmas.{any_default}
use Rattle.min_cut.specs.Queue.{marked}

pub stands_in : (xs : List ℕ) (j : ℕ) → j < length xs → has xs (get_or xs j 0) ≡ true
stands_in xs j l = (has_decides xs (get_or xs j 0)).1 (j, l, any_default xs j (get_or xs j 0) 0 l)

-- those below place i are marked, and nothing else
pub record MarkedBelow (xs : List ℕ) (marks : List Bool) (i : ℕ) : Type 0 where
  pub only : (v : ℕ) → marked marks v ≡ true → has xs v ≡ true
  pub each : (j : ℕ) → j < i → marked marks (get_or xs j 0) ≡ true

pub marked_none : (xs : List ℕ) (marks : List Bool) → ((v : ℕ) → marked marks v ≡ false) → MarkedBelow xs marks 0
marked_none xs marks n = record { only = λ v e. absurd (false≢true (sym (n v) ∙ e)); each = λ j l. absurd (omega arith) }

pub marked_more : (xs : List ℕ) (marks : List Bool) (i : ℕ) → i < length xs → get_or xs i 0 < length marks → MarkedBelow xs marks i → MarkedBelow xs (set marks (get_or xs i 0) true) (i + 1)
marked_more xs marks i l m b = record {
  only = λ v e. elim (cases_eq v (get_or xs i 0)) [
    | inl q ↦ ap (has xs) q ∙ stands_in xs i l
    | inr d ↦ b.only v (sym (get_or-set_other marks (get_or xs i 0) v true false d) ∙ e)
  ];
  each = λ j k. elim (cases_eq (get_or xs j 0) (get_or xs i 0)) [
    | inl q ↦ ap (marked (set marks (get_or xs i 0) true)) q ∙ get_or-set_same marks (get_or xs i 0) true false m
    | inr d ↦
        let n : j < i = not_last j i k (λ e. d (ap (λ x. get_or xs x 0) e)) in
        get_or-set_other marks (get_or xs i 0) (get_or xs j 0) true false d ∙ b.each j n
  ];
}
  where
    not_last : (j i : ℕ) → j < i + 1 → (j ≡ i → ⊥) → j < i
    not_last j i l d = omega arith

pub marked_all : (xs : List ℕ) (marks : List Bool) (i : ℕ) → length xs ≤ i → MarkedBelow xs marks i → (v : ℕ) → marked marks v ≡ has xs v
marked_all xs marks i l b v = elim (cases_Bool (marked marks v)) [
  | inl t ↦ t ∙ sym (b.only v t)
  | inr f ↦ elim (cases_Bool (has xs v)) [
    | inl t ↦ let (j, k, e) = (has_decides xs v).0 t in let h = b.each j (omega arith) in absurd (false≢true (sym f ∙ (ap (marked marks) (sym (any_default xs j 0 v k ∙ e)) ∙ h)))
    | inr g ↦ f ∙ sym g
  ]
]
