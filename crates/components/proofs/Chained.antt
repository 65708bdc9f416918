-- Chains of the pairs of each vertex.
use Rattle.std.proofs.Common.{◌≡◌, ◌≢◌, ◌==◌, ℕ, zero, suc, ◌+◌, ◌<◌, ◌≤◌, Bool, true, false, cond, List, [], ◌∷◌, ◌++◌, length, get_or, set, replicate, sym, refl, ap, ◌∙◌, subst, inl, inr, ◌⊎◌, arith, All, add-one, length-set, eq-or-lt_of_le, eq-eqb, ne_eqb}
use Rattle.std.proofs.lemmas.List.{get_or-set_same, get_or-set_other, length-replicate, get_or-replicate, get_or_append_left, length-append}
use Rattle.std.proofs.Math.Seq.{get_or-append_seam}
use Rattle.std.proofs.Math.Bool.{or-true}
use Rattle.std.proofs.lemmas.Bool.{cases_Bool, cases_eq}
use Rattle.components.specs.Chains.{pair, touches, other, last_at, AreLasts, AreNexts}

-- the last pair of a vertex has it, and is one of those
pub last_touches : (pairs : List (ℕ × ℕ)) (u t k : ℕ) → last_at pairs u t ≡ suc k → (k < t) × (touches pairs k u ≡ true)
last_touches pairs u zero k e = absurd (omega arith)
last_touches pairs u (suc t) k e = go (last_touches pairs u t k) (touches pairs t u) refl e
  where
    go : (last_at pairs u t ≡ suc k → (k < t) × (touches pairs k u ≡ true)) → (b : Bool) → touches pairs t u ≡ b → cond b (suc t) (last_at pairs u t) ≡ suc k →
        (k < suc t) × (touches pairs k u ≡ true)
    go ih true f g = let s : t ≡ k = omega arith in (omega arith, subst (λ i. touches pairs i u ≡ true) s f)
    go ih false f g = let h = ih g in (omega (arith, h.0), h.1)

-- no later one of them has it
pub last_none : (pairs : List (ℕ × ℕ)) (u t j : ℕ) → last_at pairs u t ≤ j → j < t → touches pairs j u ≡ false
last_none pairs u zero j l b = absurd (omega arith)
last_none pairs u (suc t) j l b = go (last_none pairs u t j) (touches pairs t u) refl l
  where
    go : (last_at pairs u t ≤ j → j < t → touches pairs j u ≡ false) → (b : Bool) → touches pairs t u ≡ b → cond b (suc t) (last_at pairs u t) ≤ j → touches pairs j u ≡ false
    go ih true f g = absurd (omega arith)
    go ih false f g = let c : j ≤ t = omega arith in elim (eq-or-lt_of_le c) [
      | inl s ↦ ap (λ i. touches pairs i u) s ∙ f
      | inr s ↦ ih g s
    ]

pub last_below : (pairs : List (ℕ × ℕ)) (u t : ℕ) → last_at pairs u t ≤ t
last_below pairs u zero = omega arith
last_below pairs u (suc t) = go (touches pairs t u) (last_below pairs u t)
  where
    go : (b : Bool) → last_at pairs u t ≤ t → cond b (suc t) (last_at pairs u t) ≤ suc t
    go true h = omega arith
    go false h = omega arith

last_hit : (pairs : List (ℕ × ℕ)) (u k : ℕ) → touches pairs k u ≡ true → last_at pairs u (k + 1) ≡ k + 1
last_hit pairs u k t = rw (add-one, t) refl

last_miss : (pairs : List (ℕ × ℕ)) (u k : ℕ) → touches pairs k u ≡ false → last_at pairs u (k + 1) ≡ last_at pairs u k
last_miss pairs u k t = rw (add-one, t) refl

touch_one : (pairs : List (ℕ × ℕ)) (k u : ℕ) → (pair pairs k).0 ≡ u → touches pairs k u ≡ true
touch_one pairs k u e = let h = eq-eqb _ _ e in rw h refl

touch_two : (pairs : List (ℕ × ℕ)) (k u : ℕ) → (pair pairs k).1 ≡ u → touches pairs k u ≡ true
touch_two pairs k u e = let h = eq-eqb _ _ e in rw h (or-true _)

touch_none : (pairs : List (ℕ × ℕ)) (k u : ℕ) → (pair pairs k).0 ≢ u → (pair pairs k).1 ≢ u → touches pairs k u ≡ false
touch_none pairs k u p q = let h = ne_eqb _ _ p in let g = ne_eqb _ _ q in rw (h, g) refl

-- one pair more
module _ (n : ℕ) (pairs : List (ℕ × ℕ)) (k : ℕ) (lasts : List ℕ) (a b : ℕ) (h : AreLasts n pairs k lasts)
    (p : (pair pairs k).0 ≡ a) (q : (pair pairs k).1 ≡ b) (la : a < n) (lb : b < n) where
  abbrev linked : List ℕ
  linked = set (set lasts a (k + 1)) b (k + 1)

  at_two : get_or linked b 0 ≡ k + 1
  at_two = let z = length-set lasts a (k + 1) in let c = h.count in get_or-set_same (set lasts a (k + 1)) b (k + 1) 0 (omega arith)

  at_one : (u : ℕ) → u ≢ b → u ≡ a → get_or linked u 0 ≡ k + 1
  at_one u m e = let c = h.count in
      get_or-set_other (set lasts a (k + 1)) b u (k + 1) 0 m
      ∙ (ap (λ i. get_or (set lasts a (k + 1)) i 0) e ∙ get_or-set_same lasts a (k + 1) 0 (omega arith))

  at_none : (u : ℕ) → u ≢ b → u ≢ a → get_or linked u 0 ≡ get_or lasts u 0
  at_none u m w = get_or-set_other (set lasts a (k + 1)) b u (k + 1) 0 m ∙ get_or-set_other lasts a u (k + 1) 0 w

  last_linked : (u : ℕ) → u < n → get_or linked u 0 ≡ last_at pairs u (k + 1)
  last_linked u l = elim (cases_eq u b) [
    | inl e ↦ ap (λ i. get_or linked i 0) e ∙ (at_two ∙ sym (last_hit pairs u k (touch_two pairs k u (q ∙ sym e))))
    | inr m ↦ elim (cases_eq u a) [
      | inl e ↦ at_one u m e ∙ sym (last_hit pairs u k (touch_one pairs k u (p ∙ sym e)))
      | inr w ↦ at_none u m w ∙ (h.last u l ∙ sym (last_miss pairs u k (touch_none pairs k u (λ s. w (sym s ∙ p)) (λ s. m (sym s ∙ q)))))
    ]
  ]

  pub lasts_more : AreLasts n pairs (k + 1) linked
  lasts_more = record {
    count = length-set (set lasts a (k + 1)) b (k + 1) ∙ (length-set lasts a (k + 1) ∙ h.count);
    last = last_linked;
  }

pub lasts_none : (n : ℕ) (pairs : List (ℕ × ℕ)) → AreLasts n pairs 0 (replicate n 0)
lasts_none n pairs = record { count = length-replicate n 0; last = λ u l. get_or-replicate n u 0 0 l }

pub nexts_more : (pairs : List (ℕ × ℕ)) (k : ℕ) (nexts : List (ℕ × ℕ)) (x : ℕ × ℕ) → AreNexts pairs k nexts → x.0 ≡ last_at pairs (pair pairs k).0 k → x.1 ≡ last_at pairs (pair pairs k).1 k →
    AreNexts pairs (k + 1) (nexts ++ (x ∷ []))
nexts_more pairs k nexts x h p q =
    let c = h.count in
    let last : pair (nexts ++ (x ∷ [])) k ≡ x = subst (λ m. get_or (nexts ++ (x ∷ [])) m (0, 0) ≡ x) c (get_or-append_seam nexts x [] (0, 0)) in
    let same : (j : ℕ) → j < k → pair (nexts ++ (x ∷ [])) j ≡ pair nexts j = λ j l. get_or_append_left nexts (x ∷ []) (0, 0) j (omega arith) in
    record {
      count = length-append nexts (x ∷ []) ∙ ap (λ m. m + 1) c;
      one = λ j l. let b : j ≤ k = omega arith in elim (eq-or-lt_of_le b) [
        | inl e ↦ subst (λ m. (pair (nexts ++ (x ∷ [])) m).0 ≡ last_at pairs (pair pairs m).0 m) (sym e) (ap (λ (y : ℕ × ℕ). y.0) last ∙ p)
        | inr s ↦ ap (λ (y : ℕ × ℕ). y.0) (same j s) ∙ h.one j s
      ];
      other = λ j l. let b : j ≤ k = omega arith in elim (eq-or-lt_of_le b) [
        | inl e ↦ subst (λ m. (pair (nexts ++ (x ∷ [])) m).1 ≡ last_at pairs (pair pairs m).1 m) (sym e) (ap (λ (y : ℕ × ℕ). y.1) last ∙ q)
        | inr s ↦ ap (λ (y : ℕ × ℕ). y.1) (same j s) ∙ h.other j s
      ];
    }

-- the other vertex of a pair
pub other_met : (pairs : List (ℕ × ℕ)) (u w k : ℕ) → ((pair pairs k).0 ≡ u) × ((pair pairs k).1 ≡ w) ⊎ ((pair pairs k).0 ≡ w) × ((pair pairs k).1 ≡ u) →
    (touches pairs k u ≡ true) × (other pairs k u ≡ w)
other_met pairs u w k (inl (e, g)) = (touch_one pairs k u e, let h = eq-eqb _ _ e in rw h g)
other_met pairs u w k (inr (e, g)) = (
  touch_two pairs k u g,
  elim (cases_eq (pair pairs k).0 u) [
    | inl s ↦ let h = eq-eqb _ _ s in rw h (g ∙ (sym s ∙ e))
    | inr s ↦ let h = ne_eqb _ _ s in rw h e
  ],
)

pub other_below : (n : ℕ) (pairs : List (ℕ × ℕ)) (k u : ℕ) → All (λ p. (p.0 < n) × (p.1 < n)) pairs → k < length pairs → other pairs k u < n
other_below n pairs k u a l = let h = a k (0, 0) l in elim (cases_Bool ((pair pairs k).0 == u)) [
  | inl t ↦ rw t h.1
  | inr f ↦ rw f h.0
]
