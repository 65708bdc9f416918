-- Every fact computes.
use Rattle.std.proofs.Common.{◌≡◌, ◌∙◌, sym, eqb, eq-eqb, false, ℕ, zero, suc, ◌<◌, ◌≤◌, true, List, [], ◌∷◌, get_or, refl, subst, inl, inr, arith, IsTrue, ◌⊎◌}
use Rattle.chunk_geometry.specs.Levels.{level as level_of}
use Rattle.components.specs.Joining.{meet, JoinedBelow}
use Rattle.std.specs.List.{range_with_len}
use Rattle.graph_model.proofs.Components.{Joined_one}
use Rattle.op_model.proofs.Opened.{definitions as opened}
use Rattle.layer_laws.specs.Levels.{level, chunk_above, meets, leaves, steps, leads_out, leaving}
use Rattle.layer_laws.specs.Building.{least_leaf}
use Rattle.layer_laws.specs.Remaking.{found_in}
use Rattle.std.proofs.lemmas.Bool.{false≢true, leb-true}
use Rattle.graph_model.specs.Lists.{has}
use Rattle.graph_model.proofs.ListLemmas.{has_cases, has_none}
use Rattle.op_model.specs.Labels.{touches, node}
use Rattle.op_model.specs.Operations.{ends}
use Rattle.unite_laws.specs.Uniting.{is_changed, unites, AreUnited, AreUnitedIds}
use Rattle.layer_laws.specs.Worked.{p, r, s, base, given, before, merged}
use Rattle.unite_laws.specs.Worked.{twice}
use Rattle.unite_laws.proofs.UniteLemmas.{same_by_firsts}
use Rattle.unite_laws.proofs.laws.worked_unions.Goals as goal

-- opens all definitions at once
definitions : ℕ
unfolding opened level_of meet level chunk_above meets leaves steps leads_out leaving least_leaf found_in is_changed unites
definitions = 0

-- one of two
either : (P : ℕ → Type 0) (x y w : ℕ) → has (x ∷ y ∷ []) w ≡ true → P x → P y → P w
either P x y w h px py =
    elim (has_cases x (y ∷ []) w h) [ inl e ↦ subst P e px | inr g ↦ elim (has_cases y [] w g) [ inl e ↦ subst P e py | inr n ↦ has_none w n ] ]

pub united : AreUnited given base merged before 4 (p ∷ s ∷ []) ((0, 1) ∷ [])
unfolding definitions
united = record {
  known = λ x h. either (λ y. has base.supervoxels y ≡ true) p s x h refl refl;
  same = same;
  touched = touched;
  held = λ x h.
      either (λ y. (i : ℕ) × (i < 2) × IsTrue (has (leaves given base before 4 (get_or (p ∷ s ∷ []) i 0)) y)) r s x h (0, omega arith, refl) (1, omega arith, refl);
  given = (inr (r, s, refl, refl, refl, leb-true _ _ refl), tt);
  all = ((λ m. (0, 1, omega arith, omega arith, refl, refl, refl)), tt);
}
  where
    same : (i j : ℕ) → i < 2 → j < 2 → IsTrue (has (leaves given base before 4 (get_or (p ∷ s ∷ []) i 0)) (get_or (p ∷ s ∷ []) j 0)) → JoinedBelow 2 ((0, 1) ∷ []) i j
    same zero zero hi hj h = Joined_one (meet ((0, 1) ∷ [])) (range_with_len 0 2) 0 refl
    same zero (suc zero) hi hj h = absurd (false≢true h)
    same (suc zero) zero hi hj h = absurd (false≢true h)
    same (suc zero) (suc zero) hi hj h = Joined_one (meet ((0, 1) ∷ [])) (range_with_len 0 2) 1 refl
    same (suc (suc i)) j hi hj h = absurd (omega arith)
    same zero (suc (suc j)) hi hj h = absurd (omega arith)
    same (suc zero) (suc (suc j)) hi hj h = absurd (omega arith)

    touched : (i : ℕ) → i < 2 → IsTrue (touches merged (leaves given base before 4 (get_or (p ∷ s ∷ []) i 0)))
    touched zero hi = refl
    touched (suc zero) hi = refl
    touched (suc (suc i)) hi = absurd (omega arith)

pub united_apart : AreUnited given base merged before 2 (r ∷ s ∷ []) []
unfolding definitions
united_apart = record {
  known = λ x h. either (λ y. has base.supervoxels y ≡ true) r s x h refl refl;
  same = same;
  touched = touched;
  held = λ x h.
      either (λ y. (i : ℕ) × (i < 2) × IsTrue (has (leaves given base before 2 (get_or (r ∷ s ∷ []) i 0)) y)) r s x h (0, omega arith, refl) (1, omega arith, refl);
  given = tt;
  all = ((λ m. absurd (high m)), tt);
}
  where
    high : 3 ≤ 2 → ⊥
    high m = omega arith

    same : (i j : ℕ) → i < 2 → j < 2 → IsTrue (has (leaves given base before 2 (get_or (r ∷ s ∷ []) i 0)) (get_or (r ∷ s ∷ []) j 0)) → JoinedBelow 2 [] i j
    same zero zero hi hj h = Joined_one (meet []) (range_with_len 0 2) 0 refl
    same zero (suc zero) hi hj h = absurd (false≢true h)
    same (suc zero) zero hi hj h = absurd (false≢true h)
    same (suc zero) (suc zero) hi hj h = Joined_one (meet []) (range_with_len 0 2) 1 refl
    same (suc (suc i)) j hi hj h = absurd (omega arith)
    same zero (suc (suc j)) hi hj h = absurd (omega arith)
    same (suc zero) (suc (suc j)) hi hj h = absurd (omega arith)

    touched : (i : ℕ) → i < 2 → IsTrue (touches merged (leaves given base before 2 (get_or (r ∷ s ∷ []) i 0)))
    touched zero hi = refl
    touched (suc zero) hi = refl
    touched (suc (suc i)) hi = absurd (omega arith)

pub united_ids : AreUnitedIds given base merged before 4 (r ∷ s ∷ []) ((1, 0) ∷ [])
unfolding definitions
united_ids = record {
  ended = ended;
  same = same;
  held = λ x h.
      either (λ y. (i : ℕ) × (i < 2) × (node given base before 4 (get_or (r ∷ s ∷ []) i 0) ≡ node given base before 4 y)) r s x h (0, omega arith, refl) (1, omega arith, refl);
  given = ((omega arith, omega arith, inr (s, r, refl, refl, refl, leb-true _ _ refl)), tt);
  all = ((λ m. (0, 1, omega arith, omega arith, refl, refl, refl)), tt);
}
  where
    apart : (x y : ℕ) → eqb x y ≡ false → x ≡ y → ⊥
    apart x y n e = false≢true (sym n ∙ eq-eqb x y e)

    same : (i j : ℕ) → i < 2 → j < 2 → node given base before 4 (get_or (r ∷ s ∷ []) i 0) ≡ node given base before 4 (get_or (r ∷ s ∷ []) j 0) → JoinedBelow 2 ((1, 0) ∷ []) i j
    same zero zero hi hj h = Joined_one (meet ((1, 0) ∷ [])) (range_with_len 0 2) 0 refl
    same zero (suc zero) hi hj h = absurd (apart (node given base before 4 r) (node given base before 4 s) refl h)
    same (suc zero) zero hi hj h = absurd (apart (node given base before 4 s) (node given base before 4 r) refl h)
    same (suc zero) (suc zero) hi hj h = Joined_one (meet ((1, 0) ∷ [])) (range_with_len 0 2) 1 refl
    same (suc (suc i)) j hi hj h = absurd (omega arith)
    same zero (suc (suc j)) hi hj h = absurd (omega arith)
    same (suc zero) (suc (suc j)) hi hj h = absurd (omega arith)

    ended : (i : ℕ) → i < 2 → IsTrue (has (ends merged) (get_or (r ∷ s ∷ []) i 0))
    ended zero hi = refl
    ended (suc zero) hi = refl
    ended (suc (suc i)) hi = absurd (omega arith)

-- the first place of the node of each place
abbrev firsts : List ℕ
firsts = 0 ∷ 1 ∷ 0 ∷ []

-- a node that stands at two places
pub united_twice : AreUnited given base twice before 4 (p ∷ s ∷ r ∷ []) ((0, 1) ∷ (2, 1) ∷ (2, 0) ∷ [])
unfolding definitions
united_twice = record {
  known = known;
  same = same;
  touched = touched;
  held = held;
  given = (inr (p, s, refl, refl, refl, leb-true _ _ refl), (inr (r, s, refl, refl, refl, leb-true _ _ refl), (inl refl, tt)));
  all = ((λ m. (0, 1, omega arith, omega arith, refl, refl, refl)), ((λ m. (2, 1, omega arith, omega arith, refl, refl, refl)), tt));
}
  where
    known : (x : ℕ) → has (p ∷ s ∷ r ∷ []) x ≡ true → has base.supervoxels x ≡ true
    known x h = elim (has_cases p (s ∷ r ∷ []) x h) [ inl e ↦ subst (λ y. has base.supervoxels y ≡ true) e refl | inr g ↦ either (λ y. has base.supervoxels y ≡ true) s r x g refl refl ]

    Held : ℕ → Type 0
    Held y = (i : ℕ) × (i < 3) × IsTrue (has (leaves given base before 4 (get_or (p ∷ s ∷ r ∷ []) i 0)) y)

    held : (x : ℕ) → has (p ∷ s ∷ r ∷ s ∷ []) x ≡ true → Held x
    held x h =
        elim (has_cases p (s ∷ r ∷ s ∷ []) x h) [
          | inl e ↦ subst Held e (0, omega arith, refl)
          | inr g ↦ elim (has_cases s (r ∷ s ∷ []) x g) [
            | inl e ↦ subst Held e (1, omega arith, refl)
            | inr k ↦ either Held r s x k (0, omega arith, refl) (1, omega arith, refl)
          ]
        ]

    touched : (i : ℕ) → i < 3 → IsTrue (touches twice (leaves given base before 4 (get_or (p ∷ s ∷ r ∷ []) i 0)))
    touched zero hi = refl
    touched (suc zero) hi = refl
    touched (suc (suc zero)) hi = refl
    touched (suc (suc (suc i))) hi = absurd (omega arith)

    first : (i : ℕ) → i < 3 → (get_or firsts i 0 < 3) × ((get_or firsts i 0 ≡ i) ⊎ IsTrue (meet ((0, 1) ∷ (2, 1) ∷ (2, 0) ∷ []) i (get_or firsts i 0)))
    first zero hi = (omega arith, inl refl)
    first (suc zero) hi = (omega arith, inl refl)
    first (suc (suc zero)) hi = (omega arith, inr refl)
    first (suc (suc (suc i))) hi = absurd (omega arith)

    alike : (i j : ℕ) → i < 3 → j < 3 → IsTrue (has (leaves given base before 4 (get_or (p ∷ s ∷ r ∷ []) i 0)) (get_or (p ∷ s ∷ r ∷ []) j 0)) → get_or firsts i 0 ≡ get_or firsts j 0
    alike zero zero hi hj h = refl
    alike zero (suc zero) hi hj h = absurd (false≢true h)
    alike zero (suc (suc zero)) hi hj h = refl
    alike zero (suc (suc (suc j))) hi hj h = absurd (omega arith)
    alike (suc zero) zero hi hj h = absurd (false≢true h)
    alike (suc zero) (suc zero) hi hj h = refl
    alike (suc zero) (suc (suc zero)) hi hj h = absurd (false≢true h)
    alike (suc zero) (suc (suc (suc j))) hi hj h = absurd (omega arith)
    alike (suc (suc zero)) zero hi hj h = refl
    alike (suc (suc zero)) (suc zero) hi hj h = absurd (false≢true h)
    alike (suc (suc zero)) (suc (suc zero)) hi hj h = refl
    alike (suc (suc zero)) (suc (suc (suc j))) hi hj h = absurd (omega arith)
    alike (suc (suc (suc i))) j hi hj h = absurd (omega arith)

    same : (i j : ℕ) → i < 3 → j < 3 → IsTrue (has (leaves given base before 4 (get_or (p ∷ s ∷ r ∷ []) i 0)) (get_or (p ∷ s ∷ r ∷ []) j 0))
        → JoinedBelow 3 ((0, 1) ∷ (2, 1) ∷ (2, 0) ∷ []) i j
    same i j hi hj h = same_by_firsts 3 ((0, 1) ∷ (2, 1) ∷ (2, 0) ∷ []) firsts first i j hi hj (alike i j hi hj h)

pub returns : goal.returns
unfolding definitions
returns c = record {
  changed_pair = refl;
  unites_far = refl;
  unites_here = refl;
  unites_above = refl;
  united = united;
  united_apart = united_apart;
  united_ids = united_ids;
  united_twice = united_twice;
}
