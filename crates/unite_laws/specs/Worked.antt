-- Examples: no clause of `run` is made of them.
-- The worked log of `layer_laws`: what its merge unites, and what two changed pairs with one end would unite.
use Rattle.std.specs.Prelude.{◌≡◌, true, false, List, [], ◌∷◌}
use Rattle.op_model.specs.declared.entry.Changed.{Changed}
use Rattle.layer_laws.specs.Worked.{p, r, s, base, given, before, merged}
use Rattle.unite_laws.specs.Uniting.{is_changed, unites, AreUnited, AreUnitedIds}

abbrev pub twice : List Changed
twice = record { pair = record { a = p; b = s }; active = true } ∷ record { pair = record { a = r; b = s }; active = true } ∷ []

pub record WorkedUnions : Type 0 where
  pub changed_pair : is_changed merged s r ≡ true
  pub unites_far : unites given base merged before 4 p r ≡ true
  pub unites_here : unites given base merged before 3 s r ≡ true
  pub unites_above : unites given base merged before 2 s r ≡ false
  pub united : AreUnited given base merged before 4 (p ∷ s ∷ []) ((0, 1) ∷ [])
  pub united_apart : AreUnited given base merged before 2 (r ∷ s ∷ []) []
  pub united_ids : AreUnitedIds given base merged before 4 (r ∷ s ∷ []) ((1, 0) ∷ [])
  pub united_twice : AreUnited given base twice before 4 (p ∷ s ∷ r ∷ []) ((0, 1) ∷ (2, 1) ∷ (2, 0) ∷ [])
