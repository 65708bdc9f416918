-- The tests of links say whether they are a net.
use Rattle.std.proofs.Common.{◌≡◌, ℕ, zero, suc, ◌+◌, ◌-◌, ◌<◌, ◌≤◌, Bool, true, false, not, ◌&&◌, ◌||◌, List, length, map, nat_eq, nat_lt, min, max, sym, refl, ap, ◌∙◌, inl, inr, ◌⊎◌, ◌↔◌, IsTrue, arith, eq-or-lt_of_le, eq-eqb, ne_eqb, eqb-true, ltb-true, lt-ltb, subst}
use Rattle.std.proofs.Math.Bool.{or-true}
use Rattle.std.proofs.lemmas.Bool.{false≢true, or_cases, and_parts, false_from_ne_true}
use Rattle.flow_net.specs.declared.Link.{Link}
use Rattle.graph_model.specs.Wires.{Wire, wire}
use Rattle.graph_model.specs.Cuts.{each_below}
use Rattle.flow_net.specs.Net.{NetView, IsNet, SamePair, wire_of}
use Rattle.flow_net.specs.Tests.{fits, follows, before, same_pair, is_new}

pub each_at : (p : ℕ → Bool) (m : ℕ) → each_below p m ≡ true → (k : ℕ) → k < m → p k ≡ true
each_at p zero e k l = absurd (omega arith)
each_at p (suc m) e k l = let b : k ≤ m = omega arith in let s = and_parts _ _ e in elim (eq-or-lt_of_le b) [
  | inl h ↦ ap p h ∙ s.1
  | inr h ↦ each_at p m s.0 k h
]

pub each_from : (p : ℕ → Bool) (m : ℕ) → ((k : ℕ) → k < m → p k ≡ true) → each_below p m ≡ true
each_from p zero h = refl
each_from p (suc m) h = rw (each_from p m (λ k l. h k (omega arith)), h m (omega arith)) refl

pub each_more : (p : ℕ → Bool) (k : ℕ) → each_below p k ≡ true → p k ≡ true → each_below p (k + 1) ≡ true
each_more p k e t = each_from p (k + 1) (λ j l. let b : j ≤ k = omega arith in elim (eq-or-lt_of_le b) [
  | inl h ↦ ap p h ∙ t
  | inr h ↦ each_at p k e j h
])

pub each_not : (p : ℕ → Bool) (k m : ℕ) → p k ≡ false → k < m → each_below p m ≡ false
each_not p k m f l = false_from_ne_true _ (λ t. false≢true (sym f ∙ each_at p m t k l))

fits_parts : (n : ℕ) (ws : List Wire) (k : ℕ) → fits n ws k ≡ true → ((wire ws k).a < n) × ((wire ws k).b < n) × ((wire ws k).a ≡ (wire ws k).b → ⊥)
fits_parts n ws k e =
    let s = and_parts _ _ e in
    let t = and_parts _ _ s.0 in
    (ltb-true _ _ t.0, ltb-true _ _ t.1, λ h. false≢true (sym (ap not (eq-eqb _ _ h)) ∙ s.1))

before_parts : (v w : Wire) → before v w ≡ true → (min v.a v.b < min w.a w.b) ⊎ ((min v.a v.b ≡ min w.a w.b) × (max v.a v.b < max w.a w.b))
before_parts v w e = elim (or_cases _ _ e) [
  | inl l ↦ inl (ltb-true _ _ l)
  | inr m ↦ let s = and_parts _ _ m in inr (eqb-true _ _ s.0, ltb-true _ _ s.1)
]

-- one pair comes before another
IsBefore : Wire → Wire → Type 0
IsBefore v w = (min v.a v.b < min w.a w.b) ⊎ ((min v.a v.b ≡ min w.a w.b) × (max v.a v.b < max w.a w.b))

then_before : (u v w : Wire) → IsBefore u v → IsBefore v w → IsBefore u w
unfolding IsBefore
then_before u v w (inl p) (inl q) = inl (omega arith)
then_before u v w (inl p) (inr (q, r)) = inl (omega arith)
then_before u v w (inr (p, s)) (inl q) = inl (omega arith)
then_before u v w (inr (p, s)) (inr (q, r)) = inr (omega arith, omega arith)

before_apart : (v w : Wire) → IsBefore v w → SamePair v w → ⊥
unfolding IsBefore
before_apart v w (inl p) (inl (a, b)) = absurd (omega arith)
before_apart v w (inl p) (inr (a, b)) = absurd (omega arith)
before_apart v w (inr (p, q)) (inl (a, b)) = absurd (omega arith)
before_apart v w (inr (p, q)) (inr (a, b)) = absurd (omega arith)

follows_on : (ws : List Wire) (k : ℕ) → follows ws (suc k) ≡ true → IsBefore (wire ws k) (wire ws (suc k))
unfolding IsBefore
follows_on ws k e =
    let s : suc k - 1 ≡ k = omega arith in
    elim (or_cases _ _ e) [
      | inl z ↦ absurd (let q : suc k ≡ 0 = eqb-true _ _ z in omega arith)
      | inr b ↦ before_parts (wire ws k) (wire ws (suc k)) (ap (λ j. before (wire ws j) (wire ws (suc k))) (sym s) ∙ b)
    ]

in_order : (ws : List Wire) (m : ℕ) → each_below (follows ws) m ≡ true → (j k : ℕ) → j < k → k < m → IsBefore (wire ws j) (wire ws k)
in_order ws m e j zero h l = absurd (omega arith)
in_order ws m e j (suc k) h l =
    let last = follows_on ws k (each_at (follows ws) m e (suc k) l) in
    let b : j ≤ k = omega arith in
    elim (eq-or-lt_of_le b) [
      | inl q ↦ subst (λ i. IsBefore (wire ws i) (wire ws (suc k))) (sym q) last
      | inr s ↦ then_before (wire ws j) (wire ws k) (wire ws (suc k)) (in_order ws m e j k s (omega arith)) last
    ]

same_from : (v w : Wire) → SamePair v w → same_pair v w ≡ true
same_from v w (inl (a, b)) = let p = eq-eqb _ _ a in let q = eq-eqb _ _ b in rw (p, q) refl
same_from v w (inr (a, b)) = let p = eq-eqb _ _ a in let q = eq-eqb _ _ b in rw (p, q) (or-true _)

same_to : (v w : Wire) → same_pair v w ≡ true → SamePair v w
same_to v w e = elim (or_cases _ _ e) [
  | inl l ↦ let s = and_parts _ _ l in inl (eqb-true _ _ s.0, eqb-true _ _ s.1)
  | inr r ↦ let s = and_parts _ _ r in inr (eqb-true _ _ s.0, eqb-true _ _ s.1)
]

new_apart : (ws : List Wire) (j k : ℕ) → is_new ws k ≡ true → j < k → SamePair (wire ws j) (wire ws k) → ⊥
new_apart ws j k e l s = false≢true (sym (ap not (same_from (wire ws j) (wire ws k) s)) ∙ each_at (λ i. not (same_pair (wire ws i) (wire ws k))) k e j l)

module _ (n : ℕ) (links : List Link) where
  abbrev pub net : NetView
  net = record { size = n; links = links }

  tests_net : each_below (fits n (map wire_of links)) (length links) ≡ true →
      (each_below (follows (map wire_of links)) (length links) || each_below (is_new (map wire_of links)) (length links)) ≡ true → IsNet net
  tests_net f g =
      let ws = map wire_of links in
      record {
        below = λ k l. let s = fits_parts n ws k (each_at (fits n ws) (length links) f k l) in (s.0, s.1);
        apart = λ k l. (fits_parts n ws k (each_at (fits n ws) (length links) f k l)).2;
        once = λ j k b l s. elim (or_cases _ _ g) [
          | inl h ↦ before_apart (wire ws j) (wire ws k) (in_order ws (length links) h j k b l) s
          | inr h ↦ new_apart ws j k (each_at (is_new ws) (length links) h k l) b s
        ];
      }

  net_fits : IsNet net → each_below (fits n (map wire_of links)) (length links) ≡ true
  net_fits h =
      let ws = map wire_of links in
      each_from (fits n ws) (length links) (λ k l.
      let s = h.below k l in
      let p : nat_lt (wire ws k).a n ≡ true = lt-ltb _ _ s.0 in
      let q : nat_lt (wire ws k).b n ≡ true = lt-ltb _ _ s.1 in
      let r : nat_eq (wire ws k).a (wire ws k).b ≡ false = ne_eqb _ _ (h.apart k l) in
      rw (p, q, r) refl)

  net_new : IsNet net → each_below (is_new (map wire_of links)) (length links) ≡ true
  net_new h =
      let ws = map wire_of links in
      each_from (is_new ws) (length links) (λ k l. each_from (λ j. not (same_pair (wire ws j) (wire ws k))) k (λ j b.
      let r : same_pair (wire ws j) (wire ws k) ≡ false = false_from_ne_true _ (λ t. h.once j k b l (same_to (wire ws j) (wire ws k) t)) in
      ap not r))

  pub net_is_tested : (r : Bool) → r ≡ (each_below (fits n (map wire_of links)) (length links)
      && (each_below (follows (map wire_of links)) (length links) || each_below (is_new (map wire_of links)) (length links))) → IsTrue r ↔ IsNet net
  net_is_tested r e = (
    λ t. let s = and_parts _ _ (sym e ∙ t) in tests_net s.0 s.1,
    λ h. e ∙ rw (net_fits h, net_new h) (or-true _),
  )
