-- Whether more can be sent from one vertex to another, computed.
use Rattle.std.proofs.Common.{◌≡◌, ℕ, zero, suc, ◌+◌, ◌<◌, ◌≤◌, Bool, true, false, ◌&&◌, ◌||◌, ltb, nat_eq, List, length, ℤ, Option, Some, None, IfSome, refl, sym, ap, ◌∙◌, inl, inr, arith, eq-eqb, eqb-true, lt-ltb, ltb-true, eq-or-lt_of_le}
use Rattle.std.proofs.lemmas.Bool.{false≢true, or_cases, or_left, or_right, and_parts, and_from}
use Rattle.graph_model.specs.Wires.{Wire, wire}
use Rattle.graph_model.specs.Flows.{amount, forth, back}
use Rattle.graph_model.specs.Residual.{Residual}

-- whether some number below m passes
abbrev some_below : (ℕ → Bool) → ℕ → Bool
some_below p zero = false
some_below p (suc m) = some_below p m || p m

below_sound : (p : ℕ → Bool) (m : ℕ) → some_below p m ≡ true → (k : ℕ) × (k < m) × (p k ≡ true)
below_sound p zero h = absurd (false≢true h)
below_sound p (suc m) h = elim (or_cases (some_below p m) (p m) h) [
  | inl t ↦ let (k, l, e) = below_sound p m t in (k, omega arith, e)
  | inr t ↦ (m, omega arith, t)
]

below_complete : (p : ℕ → Bool) (m k : ℕ) → k < m → p k ≡ true → some_below p m ≡ true
below_complete p zero k l t = absurd (omega arith)
below_complete p (suc m) k l t = let b : k ≤ m = omega arith in elim (eq-or-lt_of_le b) [
  | inl e ↦ or_right (some_below p m) (p m) (ap p (sym e) ∙ t)
  | inr g ↦ or_left (some_below p m) (p m) (below_complete p m k g t)
]

-- whether what runs one way can grow, beside what runs the other way
abbrev can : Option ℕ → ℕ → ℕ → Bool
can None f g = true
can (Some r) f g = ltb f (r + g)

can_sound : (room : Option ℕ) (f g : ℕ) → can room f g ≡ true → IfSome room (λ r. f < r + g)
can_sound None f g t = tt
can_sound (Some r) f g t = ltb-true f (r + g) t

can_complete : (room : Option ℕ) (f g : ℕ) → IfSome room (λ r. f < r + g) → can room f g ≡ true
can_complete None f g h = refl
can_complete (Some r) f g h = lt-ltb f (r + g) h

-- whether more can be sent from u to v over link k
abbrev arc : List Wire → List ℤ → ℕ → ℕ → ℕ → Bool
arc ws fs u v k =
    let w = wire ws k in
    let z = amount fs k in
    (nat_eq w.a u && (nat_eq w.b v && can w.room (forth z) (back z)))
    || (nat_eq w.b u && (nat_eq w.a v && can w.room (back z) (forth z)))

-- whether more can be sent from u to v over some link
unfoldable pub residual : List Wire → List ℤ → ℕ → ℕ → Bool
residual ws fs u v = some_below (arc ws fs u v) (length ws)

pub residual_sound : (ws : List Wire) (fs : List ℤ) (u v : ℕ) → residual ws fs u v ≡ true → Residual ws fs u v
unfolding residual
residual_sound ws fs u v h =
    let (k, l, t) = below_sound (arc ws fs u v) (length ws) h in
    let w = wire ws k in
    let z = amount fs k in (
      k,
      l,
      elim (or_cases (nat_eq w.a u && (nat_eq w.b v && can w.room (forth z) (back z))) (nat_eq w.b u && (nat_eq w.a v && can w.room (back z) (forth z))) t) [
        | inl p ↦ let q = and_parts _ _ p in let r = and_parts _ _ q.1 in inl (eqb-true _ _ q.0, eqb-true _ _ r.0, can_sound w.room (forth z) (back z) r.1)
        | inr p ↦ let q = and_parts _ _ p in let r = and_parts _ _ q.1 in inr (eqb-true _ _ q.0, eqb-true _ _ r.0, can_sound w.room (back z) (forth z) r.1)
      ],
    )

pub residual_complete : (ws : List Wire) (fs : List ℤ) (u v : ℕ) → Residual ws fs u v → residual ws fs u v ≡ true
unfolding residual
residual_complete ws fs u v (k, l, inl (a, b, r)) =
    let w = wire ws k in
    let z = amount fs k in
    below_complete (arc ws fs u v) (length ws) k l (or_left _ _ (and_from _ _ (eq-eqb w.a u a) (and_from _ _ (eq-eqb w.b v b) (can_complete w.room (forth z) (back z) r))))
residual_complete ws fs u v (k, l, inr (b, a, r)) =
    let w = wire ws k in
    let z = amount fs k in
    below_complete (arc ws fs u v) (length ws) k l
    (or_right (nat_eq w.a u && (nat_eq w.b v && can w.room (forth z) (back z))) _ (and_from _ _ (eq-eqb w.b u b) (and_from _ _ (eq-eqb w.a v a) (can_complete w.room (back z) (forth z) r))))
