-- Lists that share no number.
use Rattle.std.proofs.Common.{◌≡◌, ℕ, true, false, eqb, List, [], ◌∷◌, subst, eqb-true, inl, inr}
use Rattle.std.specs.List.{list_any}
use Rattle.std.proofs.lemmas.Bool.{false≢true, or_cases, or_parts}
use Rattle.graph_model.specs.Lists.{has}

pub apart : (to from : List ℕ) → list_any (λ s. has to s) from ≡ false → (v : ℕ) → has from v ≡ true → has to v ≡ false
apart to [] none v h = absurd (false≢true h)
apart to (s ∷ from) none v h =
    let parts = or_parts (has to s) (list_any (λ x. has to x) from) none in
    elim (or_cases (eqb s v) (has from v) h) [
      | inl e ↦ subst (λ x. has to x ≡ false) (eqb-true s v e) parts.0
      | inr later ↦ apart to from parts.1 v later
    ]
