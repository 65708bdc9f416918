-- The walk back from a sink.
use Rattle.std.proofs.Common.{◌≡◌, ℕ, zero, suc, ◌+◌, ◌<◌, ◌≤◌, List, [], ◌∷◌, length, set, ℤ, pos, negsuc, ◌+ℤ◌, ◌-ℤ◌, Option, Some, None, nat_eq, sym, refl, ap, ◌∙◌, subst, inl, inr, ◌⊎◌, ◌≢◌, arith, get_or-set_same, eqb-true, zero-le, le_refl}
use Rattle.std.proofs.lemmas.List.{get_or-set_other}
use Rattle.std.proofs.lemmas.Int.{ints}
use Rattle.std.proofs.lemmas.Bool.{cases_eq, cases_Bool, eqb-false}
use Rattle.graph_model.specs.Wires.{Wire, wire}
use Rattle.graph_model.specs.Flows.{amount, forth, back, Fitting}
use Rattle.min_cut.specs.declared.search.Visit.{Visit}
use Rattle.min_cut.specs.Moves.{Moves}
use Rattle.min_cut.specs.Tree.{CanForth, CanBack, visit_at, level_in, level_of, parent_in, IsTree, IsParent, AllFit, Pushed, PushedOver, Carries, HasWidth}
use Rattle.min_cut.proofs.Moves.{moves_none, moves_then, sent_forth, sent_back, grown}

near_forth : (z y : ℤ) (d : ℕ) → y ≡ z +ℤ pos d → (forth y ≤ forth z + d) × (back y ≤ back z)
near_forth (pos n) (pos m) d e = let h : m ≡ n + d = omega (arith, ints) in (omega arith, zero-le)
near_forth (pos n) (negsuc m) d e = absurd (omega (arith, ints))
near_forth (negsuc n) (pos m) d e = let h : m + suc n ≡ d = omega (arith, ints) in (omega arith, zero-le)
near_forth (negsuc n) (negsuc m) d e = let h : m + d ≡ n = omega (arith, ints) in (zero-le, omega arith)

near_absurd : (n m d : ℕ) → pos m ≡ negsuc n -ℤ pos d → ⊥
near_absurd n m d e = omega (arith, ints)

near_back : (z y : ℤ) (d : ℕ) → y ≡ z -ℤ pos d → (forth y ≤ forth z) × (back y ≤ back z + d)
near_back (pos n) (pos m) d e = let h : m + d ≡ n = omega (arith, ints) in (omega arith, zero-le)
near_back (pos n) (negsuc m) d e = let h : suc m + n ≡ d = omega (arith, ints) in (zero-le, omega arith)
near_back (negsuc n) (pos m) d e = absurd (near_absurd n m d e)
near_back (negsuc n) (negsuc m) d e = let h : m ≡ n + d = omega (arith, ints) in (zero-le, omega arith)

one_part : (y : ℤ) → (forth y ≡ 0) ⊎ (back y ≡ 0)
one_part (pos n) = inr refl
one_part (negsuc n) = inl refl

fit_forth : (room : Option ℕ) (z y : ℤ) (d w : ℕ) → Fitting room z → CanForth room z w → d ≤ w → y ≡ z +ℤ pos d → Fitting room y
fit_forth None z y d w f c l e = tt
fit_forth (Some r) z y d w f c l e = let s = near_forth z y d e in let g = grown z y d e in let o = one_part y in (omega arith, omega arith)

fit_back : (room : Option ℕ) (z y : ℤ) (d w : ℕ) → Fitting room z → CanBack room z w → d ≤ w → y ≡ z -ℤ pos d → Fitting room y
fit_back None z y d w f c l e = tt
fit_back (Some r) z y d w f c l e = let s = near_back z y d e in
    let h : z ≡ y +ℤ pos d = omega (arith, ints) in let g = grown y z d h in let o = one_part y in (omega arith, omega arith)

module _ (ws : List Wire) (level : ℕ → ℕ) (old new : List ℤ) (width bound at sink : ℕ) (p : Pushed ws level old new width bound at sink) where
  pushed_on : (k from : ℕ) (z : ℤ) (l : k < length ws) (m : k < length new) → level from < level at → ((wire ws k).a ≡ at) ⊎ ((wire ws k).b ≡ at) →
      Moves ws new (set new k z) width from at → Fitting (wire ws k).room z → (forth z ≤ bound + width) × (back z ≤ bound + width) →
      Pushed ws level old (set new k z) width bound from sink
  pushed_on k from z l m down ends mv fit small = record {
    moves = moves_then ws old new (set new k z) width from at sink p.moves mv;
    untouched = λ j b x y.
        let other : j ≢ k = λ e. elim ends [
          | inl h ↦ let q : level (wire ws j).a ≡ level at = ap (λ i. level (wire ws i).a) e ∙ ap level h in omega arith
          | inr h ↦ let q : level (wire ws j).b ≡ level at = ap (λ i. level (wire ws i).b) e ∙ ap level h in omega arith
        ] in
        get_or-set_other new k j z (pos 0) other ∙ p.untouched j b (omega arith) (omega arith);
    fits = record {
      fits = λ j b. elim (cases_eq j k) [
        | inl e ↦ rw (e, get_or-set_same new k z (pos 0) m) fit
        | inr d ↦ rw (get_or-set_other new k j z (pos 0) d) (p.fits.fits j b)
      ];
      small = λ j b. elim (cases_eq j k) [
        | inl e ↦ rw (e, get_or-set_same new k z (pos 0) m) small
        | inr d ↦ rw (get_or-set_other new k j z (pos 0) d) (p.fits.small j b)
      ];
    };
  }

  -- one link further back
  pub push_step : AllFit ws old bound → length new ≡ length ws → (k from room : ℕ) (newer : List ℤ) → Carries ws old k from at room → width ≤ room →
      level from < level at → PushedOver ws new newer k at width from → Pushed ws level old newer width bound from sink
  push_step fits same k from room newer car wide down o =
      let l = car.below in
      let m : k < length new = omega arith in
      let s = fits.small k l in
      elim (cases_eq (wire ws k).b at) [
        | inl b ↦
            let f = car.forth b in
            let u : amount new k ≡ amount old k = p.untouched k l (below f.0) (same_level b) in
            let z : ℤ = amount new k +ℤ pos width in
            let y : z ≡ amount old k +ℤ pos width = ap (λ t. t +ℤ pos width) u in
            let n = near_forth (amount old k) z width y in
            let mv : Moves ws new (set new k z) width from at = subst (λ t. Moves ws new (set new k z) width from t) b
            (subst (λ t. Moves ws new (set new k z) width t (wire ws k).b) f.0 (sent_forth ws new k l m z width refl)) in
            rw (o.to_b b).1 (pushed_on k from z l m down (inr b) mv (fit_forth (wire ws k).room (amount old k) z width room (fits.fits k l) f.1 wide y) (omega arith, omega arith))
        | inr d ↦
            let f = car.back d in
            let u : amount new k ≡ amount old k = p.untouched k l (same_level f.0) (below f.1) in
            let z : ℤ = amount new k -ℤ pos width in
            let y : z ≡ amount old k -ℤ pos width = ap (λ t. t -ℤ pos width) u in
            let n = near_back (amount old k) z width y in
            let mv : Moves ws new (set new k z) width from at = subst (λ t. Moves ws new (set new k z) width from t) f.0
            (subst (λ t. Moves ws new (set new k z) width t (wire ws k).a) f.1 (sent_back ws new k l m z width refl)) in
            rw (o.to_a d).1 (pushed_on k from z l m down (inl f.0) mv (fit_back (wire ws k).room (amount old k) z width room (fits.fits k l) f.2 wide y) (omega arith, omega arith))
      ]
    where
      same_level : {v : ℕ} → v ≡ at → level v ≤ level at
      same_level e = rw e (le_refl (level at))

      below : {v : ℕ} → v ≡ from → level v ≤ level at
      below e = rw e (omega arith)

pub pushed_none : (ws : List Wire) (level : ℕ → ℕ) (fs : List ℤ) (width bound sink : ℕ) → AllFit ws fs bound → Pushed ws level fs fs width bound sink sink
pushed_none ws level fs width bound sink f = record {
  moves = moves_none ws fs width sink;
  untouched = λ k l a b. refl;
  fits = record { fits = f.fits; small = λ k l. let h = f.small k l in (omega arith, omega arith) };
}

parent_is : (visit : Visit) (k : ℕ) → parent_in (Some visit) ≡ Some k → (0 < visit.level) × (visit.link ≡ k)
parent_is visit k e = elim (cases_Bool (nat_eq visit.level 0)) [
  | inl t ↦ absurd (none_some (rw t at e))
  | inr f ↦ (let n = eqb-false _ _ f in pos_of_ne visit.level n, some_same (rw f at e))
]
  where
    none_some : {A : Type 0} {a : A} → None ≡ Some a → ⊥
    none_some e = cc

    some_same : {A : Type 0} {a b : A} → Some a ≡ Some b → a ≡ b
    some_same e = cc

    pos_of_ne : (n : ℕ) → (n ≡ 0 → ⊥) → 0 < n
    pos_of_ne zero h = absurd (h refl)
    pos_of_ne (suc n) h = omega arith

module _ (ws : List Wire) (sources : List ℕ) (visits : List (Option Visit)) (old new : List ℤ) (width bound at sink : ℕ)
    (tree : IsTree ws sources old visits) (fits : AllFit ws old bound) (p : Pushed ws (level_of visits) old new width bound at sink) (same : length new ≡ length ws) where
  -- the link that a vertex was visited over leads back to one at a lesser level
  pub next : (k from : ℕ) (newer : List ℤ) → HasWidth visits width at → parent_in (visit_at visits at) ≡ Some k → PushedOver ws new newer k at width from →
      Pushed ws (level_of visits) old newer width bound from sink × HasWidth visits width from × (level_of visits from < level_of visits at)
  next k from newer (visit, here, wide) e o =
      let q = parent_is visit k (ap parent_in (sym here) ∙ e) in
      let i = tree.each at visit here in
      let l : k < length ws = subst (λ j. j < length ws) q.1 (i.link q.0) in
      let parent : IsParent visits from visit = elim (cases_eq (wire ws k).b at) [
        | inl b ↦ subst (λ u. IsParent visits u visit) (sym (o.to_b b).0) (subst (λ j. IsParent visits (wire ws j).a visit) q.1 (i.forth_from q.0 (ap (λ j. (wire ws j).b) q.1 ∙ b)).0)
        | inr d ↦ subst (λ u. IsParent visits u visit) (sym (o.to_a d).0) (subst (λ j. IsParent visits (wire ws j).b visit) q.1 (i.back_from q.0 (λ h. d (ap (λ j. (wire ws j).b) (sym q.1) ∙ h))).1)
      ] in
      let car : Carries ws old k from at visit.width = record {
        below = l;
        forth = λ b. (sym (o.to_b b).0, subst (λ j. CanForth (wire ws j).room (amount old j) visit.width) q.1 (i.forth_from q.0 (ap (λ j. (wire ws j).b) q.1 ∙ b)).1);
        back = λ d. let f = i.back_from q.0 (λ h. d (ap (λ j. (wire ws j).b) (sym q.1) ∙ h)) in
            (ap (λ j. (wire ws j).a) (sym q.1) ∙ f.0, sym (o.to_a d).0, subst (λ j. CanBack (wire ws j).room (amount old j) visit.width) q.1 f.2);
      } in
      let down = below from parent.of visit parent.there here parent.before in (
        push_step ws (level_of visits) old new width bound at sink p fits same k from visit.width newer car wide down o,
        (parent.of, parent.there, let w = parent.wide in omega arith),
        down,
      )
    where
      below : (v : ℕ) (of visit : Visit) → visit_at visits v ≡ Some of → visit_at visits at ≡ Some visit → of.level + 1 ≡ visit.level → level_of visits v < level_of visits at
      below v of visit e f b = let x : level_of visits v ≡ of.level = ap level_in e in let y : level_of visits at ≡ visit.level = ap level_in f in omega arith

pub in_range : (visits : List (Option Visit)) (v : ℕ) (visit : Visit) → visit_at visits v ≡ Some visit → v < length visits
in_range [] v visit e = absurd (no e)
  where
    no : None ≡ Some visit → ⊥
    no e = cc
in_range (x ∷ xs) zero visit e = omega arith
in_range (x ∷ xs) (suc v) visit e = let h = in_range xs v visit e in omega arith

pub link_of : (ws : List Wire) (sources : List ℕ) (visits : List (Option Visit)) (fs : List ℤ) (at k : ℕ) → IsTree ws sources fs visits →
    parent_in (visit_at visits at) ≡ Some k → k < length ws
link_of ws sources visits fs at k tree e = go (visit_at visits at) refl e
  where
    go : (o : Option Visit) → visit_at visits at ≡ o → parent_in o ≡ Some k → k < length ws
    go None h e = absurd (no e)
      where
        no : None ≡ Some k → ⊥
        no e = cc
    go (Some visit) h e = let q = parent_is visit k e in subst (λ j. j < length ws) q.1 ((tree.each at visit h).link q.0)

pub at_end : (o : Option Visit) → parent_in o ≡ None → level_in o ≡ 0
at_end None e = refl
at_end (Some visit) e = elim (cases_Bool (nat_eq visit.level 0)) [
  | inl t ↦ eqb-true _ _ t
  | inr f ↦ absurd (no (rw f at e))
]
  where
    no : {a : ℕ} → Some a ≡ None → ⊥
    no e = cc
