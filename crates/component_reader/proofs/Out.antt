-- The edges out of a node, found supervoxel by supervoxel: each is one of just one of its leaves.
use Rattle.std.proofs.Common.{◌≡◌, ℕ, ◌<◌, Bool, true, false, cond, ◌&&◌, ◌||◌, eqb, List, [], ◌∷◌, ◌++◌, refl, sym, ◌∙◌, ap, ap₂, subst, inl, inr, arith, eq-eqb}
use Rattle.std.specs.Prelude.{IsPermutation}
use Rattle.std.specs.List.{AllByRecursion, filter, flat_map}
use Rattle.std.proofs.lemmas.Bool.{false≢true, ne_eqb}
use Rattle.std.proofs.lemmas.List.Sorted.{IsPermutation-refl, IsPermutation-sym, IsPermutation-trans, IsPermutation-cons, IsPermutation-middle, IsPermutation-append_right}
use Rattle.op_model.specs.declared.base.Edge.{Edge}
use Rattle.graph_model.specs.Lists.{has}
use Rattle.graph_model.proofs.ListLemmas.{has_cases, has_none}
use Rattle.op_model.proofs.LegalLemmas.{all_has}
use Rattle.record_rows.specs.Walks.{edges_at, is_end}
use Rattle.record_rows.proofs.DifferLemmas.{Differ, all_more, all_each}

permuted : {X : Type 0} (xs ys : List X) → xs ≡ ys → IsPermutation xs ys
permuted xs ys e = subst (λ zs. IsPermutation xs zs) e (IsPermutation-refl xs)

module _ {X : Type 0} (e : X) (g : ℕ → List X) (t : ℕ → Bool) where
  -- an item goes before the others of each number that passes
  abbrev with_item : ℕ → List X
  with_item v = cond (t v) (e ∷ g v) (g v)

  pub put_none : (vs : List ℕ) → AllByRecursion (λ v. t v ≡ false) vs → flat_map with_item vs ≡ flat_map g vs
  put_none [] a = refl
  put_none (v ∷ vs) a = ap₂ (λ (xs ys : List X). xs ++ ys) (ap (λ s. cond s (e ∷ g v) (g v)) a.0) (put_none vs a.1)

  -- where one number alone passes, the item is there once more
  pub put_one : (vs : List ℕ) (u : ℕ) → Differ (λ x y. x < y) vs → has vs u ≡ true → AllByRecursion (λ v. t v ≡ eqb u v) vs → IsPermutation (e ∷ flat_map g vs) (flat_map with_item vs)
  put_one [] u d h a = has_none u h
  put_one (v ∷ vs) u d h a =
      elim (has_cases v vs u h) [
        | inl q ↦ (let s : t v ≡ true = a.0 ∙ eq-eqb u v (sym q) in
            let later : AllByRecursion (λ w. t w ≡ false) vs = both vs a.1 d.0 q in
            permuted _ _ (sym (ap₂ (λ (xs ys : List X). xs ++ ys) (ap (λ b. cond b (e ∷ g v) (g v)) s) (put_none vs later))))
        | inr r ↦ (let l : v < u = all_has (λ w. v < w) vs u d.0 r in
            let s : t v ≡ false = a.0 ∙ ne_eqb u v (λ q. absurd (let m : u ≡ v = q in omega arith)) in
            let front = IsPermutation-sym _ _ (IsPermutation-middle (g v) e (flat_map g vs)) in
            let back = IsPermutation-append_right (g v) (e ∷ flat_map g vs) (flat_map with_item vs) (put_one vs u d.1 r a.1) in
            subst (λ xs. IsPermutation (e ∷ (g v ++ flat_map g vs)) (xs ++ flat_map with_item vs)) (sym (ap (λ b. cond b (e ∷ g v) (g v)) s)) (IsPermutation-trans _ _ _ front back))
      ]
    where
      both : (ws : List ℕ) → AllByRecursion (λ w. t w ≡ eqb u w) ws → AllByRecursion (λ w. v < w) ws → v ≡ u → AllByRecursion (λ w. t w ≡ false) ws
      both [] b l q = tt
      both (w ∷ ws) b l q = (b.0 ∙ ne_eqb u w (λ z. absurd (let m : u ≡ w = z in let k : v < w = l.0 in omega (arith, q))), both ws b.1 l.1 q)

-- a number that isn't among these is none of them
other : (us : List ℕ) (x : ℕ) → has us x ≡ false → AllByRecursion (λ v. eqb x v ≡ false) us
other [] x h = tt
other (u ∷ us) x h = by (eqb u x) refl h (other us x)
  where
    by : (s : Bool) → eqb u x ≡ s → (s || has us x) ≡ false → (has us x ≡ false → AllByRecursion (λ v. eqb x v ≡ false) us) → AllByRecursion (λ v. eqb x v ≡ false) (u ∷ us)
    by true q k ih = absurd (false≢true (sym k))
    by false q k ih = (ne_eqb x u (λ z. absurd (false≢true (sym q ∙ eq-eqb u x (sym z)))), ih k)

-- the edges that pass a test and have an end among these
abbrev pub ends_among : (Edge → Bool) → List ℕ → Edge → Bool
ends_among test vs e = test e && (has vs e.pair.a || has vs e.pair.b)

-- no edge that passes has both ends among these
abbrev pub NotInside : (Edge → Bool) → List ℕ → Edge → Type 0
NotInside test vs e = test e ≡ true → has vs e.pair.a ≡ true → has vs e.pair.b ≡ true → ⊥

-- found at each of these, such edges are found once
pub out_once : (test : Edge → Bool) (vs : List ℕ) (es : List Edge) → Differ (λ x y. x < y) vs → AllByRecursion (NotInside test vs) es
    → IsPermutation (flat_map (λ v. filter test (edges_at es v)) vs) (filter (ends_among test vs) es)
unfolding edges_at is_end
out_once test vs [] d n = permuted _ _ (none vs)
  where
    none : (us : List ℕ) → flat_map (λ v. filter test (edges_at [] v)) us ≡ []
    none [] = refl
    none (u ∷ us) = none us
out_once test vs (e ∷ es) d n =
    subst (λ xs. IsPermutation xs (filter (ends_among test vs) (e ∷ es))) (sym (same vs))
    (go (test e) refl (has vs e.pair.a) refl (has vs e.pair.b) refl (out_once test vs es d n.1))
  where
    g : ℕ → List Edge
    g v = filter test (edges_at es v)

    t : ℕ → Bool
    t v = test e && (eqb e.pair.a v || eqb e.pair.b v)

    step : (v : ℕ) → filter test (edges_at (e ∷ es) v) ≡ cond (t v) (e ∷ g v) (g v)
    step v = by (eqb e.pair.a v || eqb e.pair.b v) (test e) refl
      where
        by : (s p : Bool) → test e ≡ p → filter test (cond s (e ∷ edges_at es v) (edges_at es v)) ≡ cond (p && s) (e ∷ g v) (g v)
        by true true q = ap (λ b. cond b (e ∷ g v) (g v)) q
        by true false q = ap (λ b. cond b (e ∷ g v) (g v)) q
        by false true q = refl
        by false false q = refl

    same : (us : List ℕ) → flat_map (λ v. filter test (edges_at (e ∷ es) v)) us ≡ flat_map (λ v. cond (t v) (e ∷ g v) (g v)) us
    same [] = refl
    same (u ∷ us) = ap₂ (λ (xs ys : List Edge). xs ++ ys) (step u) (same us)

    left : (s : Bool) → (true && (s || false)) ≡ s
    left true = refl
    left false = refl

    all_two : (us : List ℕ) → AllByRecursion (λ v. eqb e.pair.a v ≡ false) us → AllByRecursion (λ v. eqb e.pair.b v ≡ false) us → AllByRecursion (λ v. t v ≡ false) us
    all_two [] a b = tt
    all_two (u ∷ us) a b = (ap₂ (λ s r. test e && (s || r)) a.0 b.0 ∙ last (test e), all_two us a.1 b.1)
      where
        last : (s : Bool) → (s && (false || false)) ≡ false
        last true = refl
        last false = refl

    whole : List Edge
    whole = filter (ends_among test vs) es

    go : (p : Bool) → test e ≡ p → (x : Bool) → has vs e.pair.a ≡ x → (y : Bool) → has vs e.pair.b ≡ y → IsPermutation (flat_map g vs) whole
        → IsPermutation (flat_map (λ v. cond (t v) (e ∷ g v) (g v)) vs) (cond (p && (x || y)) (e ∷ whole) whole)
    go false q x h y k ih = subst (λ xs. IsPermutation xs whole) (sym (put_none e g t vs (all_each (λ v. t v ≡ false) vs (λ v. ap (λ s. s && (eqb e.pair.a v || eqb e.pair.b v)) q)))) ih
    go true q true h true k ih = absurd (n.0 q h k)
    go true q true h false k ih =
        IsPermutation-trans _ _ _
        (IsPermutation-sym _ _ (put_one e g t vs e.pair.a d h (all_more (λ v. eqb e.pair.b v ≡ false) (λ v. t v ≡ eqb e.pair.a v) vs (λ v z. ap₂ (λ s r. s && (eqb e.pair.a v || r)) q z ∙ left (eqb e.pair.a v)) (other vs e.pair.b k))))
        (IsPermutation-cons e (flat_map g vs) whole ih)
    go true q false h true k ih =
        IsPermutation-trans _ _ _
        (IsPermutation-sym _ _ (put_one e g t vs e.pair.b d k (all_more (λ v. eqb e.pair.a v ≡ false) (λ v. t v ≡ eqb e.pair.b v) vs (λ v z. ap₂ (λ s r. s && (r || eqb e.pair.b v)) q z) (other vs e.pair.a h))))
        (IsPermutation-cons e (flat_map g vs) whole ih)
    go true q false h false k ih =
        subst (λ xs. IsPermutation xs whole) (sym (put_none e g t vs (all_two vs (other vs e.pair.a h) (other vs e.pair.b k)))) ih
