-- Lists whose members stand for those of another list, one by one.
use Rattle.std.proofs.Common.{◌≡◌, ℕ, zero, suc, ◌+◌, ◌<◌, ◌≤◌, true, eqb, List, [], ◌∷◌, ◌++◌, length, get_or, take, refl, sym, ◌∙◌, ap, subst, inl, inr, ◌⊎◌, arith}
use Rattle.std.proofs.lemmas.Bool.{or_cases, or_left, or_right}
use Rattle.std.proofs.lemmas.List.{take_all}
use Rattle.std.proofs.lemmas.List.Folds.{list_any-append}
use Rattle.graph_model.specs.Lists.{has}
use Rattle.graph_model.proofs.ListLemmas.{has_cases, has_head, has_none}
use Rattle.op_model.specs.declared.entry.Changed.{Changed}
use Rattle.op_model.specs.Operations.{ends}
use Rattle.touched_paths.specs.Climbing.{Covers}

pub has_front : (xs ys : List ℕ) (v : ℕ) → has xs v ≡ true → has (xs ++ ys) v ≡ true
has_front xs ys v h = list_any-append (λ y. eqb y v) xs ys ∙ or_left (has xs v) (has ys v) h

pub has_back : (xs ys : List ℕ) (v : ℕ) → has ys v ≡ true → has (xs ++ ys) v ≡ true
has_back xs ys v h = list_any-append (λ y. eqb y v) xs ys ∙ or_right (has xs v) (has ys v) h

pub has_parts : (xs ys : List ℕ) (v : ℕ) → has (xs ++ ys) v ≡ true → (has xs v ≡ true) ⊎ (has ys v ≡ true)
has_parts xs ys v h = or_cases (has xs v) (has ys v) (sym (list_any-append (λ y. eqb y v) xs ys) ∙ h)

pub has_last : (xs : List ℕ) (x v : ℕ) → has (xs ++ x ∷ []) v ≡ true → (has xs v ≡ true) ⊎ (x ≡ v)
has_last xs x v h = elim (has_parts xs (x ∷ []) v h) [ inl k ↦ inl k | inr k ↦ elim (has_cases x [] v k) [ inl e ↦ inr e | inr n ↦ has_none v n ] ]

pub take_more : {X : Type 0} (xs : List X) (i : ℕ) (x : X) → i < length xs → x ≡ get_or xs i x → take (i + 1) xs ≡ take i xs ++ x ∷ []
take_more [] i x l e = absurd (omega arith)
take_more (y ∷ xs) zero x l e = ap (λ z. z ∷ []) (sym e)
take_more (y ∷ xs) (suc i) x l e = let q : suc i + 1 ≡ suc (i + 1) = omega arith in ap (λ n. take n (y ∷ xs)) q ∙ ap (λ zs. y ∷ zs) (take_more xs i x (omega arith) e)

pub covers_none : (R : ℕ → ℕ → Type 0) (us ps : List ℕ) → ps ≡ [] → Covers (take 0 us) R ps
covers_none R us ps e = record { given = λ p h. has_none p (subst (λ xs. has xs p ≡ true) e h); all = λ u h. has_none u h }

pub covers_more : (R : ℕ → ℕ → Type 0) (us ps qs : List ℕ) (i u p : ℕ) → i < length us → u ≡ get_or us i u → R p u → qs ≡ ps ++ p ∷ [] → Covers (take i us) R ps → Covers (take (i + 1) us) R qs
covers_more R us ps qs i u p l e r q c = record {
  given = λ x h.
      elim (has_last ps p x (subst (λ xs. has xs x ≡ true) q h)) [
        | inl k ↦ let g = c.given x k in (g.0, subst (λ xs. has xs g.0 ≡ true) (sym t) (has_front (take i us) (u ∷ []) g.0 g.1), g.2)
        | inr k ↦ (u, subst (λ xs. has xs u ≡ true) (sym t) (has_back (take i us) (u ∷ []) u (has_head u [])), subst (λ y. R y u) k r)
      ];
  all = λ v h.
      elim (has_last (take i us) u v (subst (λ xs. has xs v ≡ true) t h)) [
        | inl k ↦ let g = c.all v k in (g.0, subst (λ xs. has xs g.0 ≡ true) (sym q) (has_front ps (p ∷ []) g.0 g.1), g.2)
        | inr k ↦ (p, subst (λ xs. has xs p ≡ true) (sym q) (has_back ps (p ∷ []) p (has_head p [])), subst (R p) k r)
      ];
}
  where
    t : take (i + 1) us ≡ take i us ++ u ∷ []
    t = take_more us i u l e

pub covers_all : (R : ℕ → ℕ → Type 0) (us ps : List ℕ) (i : ℕ) → length us ≤ i → Covers (take i us) R ps → Covers us R ps
covers_all R us ps i l c = subst (λ xs. Covers xs R ps) (take_all i us l) c

-- the same members stand for the same ones
pub covers_same : (R : ℕ → ℕ → Type 0) (us ps qs : List ℕ) → ((p : ℕ) → has qs p ≡ has ps p) → Covers us R ps → Covers us R qs
covers_same R us ps qs s c = record {
  given = λ p h. c.given p (sym (s p) ∙ h);
  all = λ u h. let g = c.all u h in (g.0, s g.0 ∙ g.1, g.2);
}

-- what stands for members that stand for others stands for those
pub covers_through : (R Q S : ℕ → ℕ → Type 0) (us ps qs : List ℕ) → ((q p u : ℕ) → has us u ≡ true → Q q p → R p u → S q u) → Covers us R ps → Covers ps Q qs → Covers us S qs
covers_through R Q S us ps qs f c k = record {
  given = λ q h. let g = k.given q h in let r = c.given g.0 g.1 in (r.0, r.1, f q g.0 r.0 r.1 g.2 r.2);
  all = λ u h. let r = c.all u h in let g = k.all r.0 r.1 in (g.0, g.1, f g.0 r.0 u h g.2 r.2);
}

pub covers_weaker : (R S : ℕ → ℕ → Type 0) (us ps : List ℕ) → ((p u : ℕ) → has us u ≡ true → R p u → S p u) → Covers us R ps → Covers us S ps
covers_weaker R S us ps f c = record {
  given = λ p h. let g = c.given p h in (g.0, g.1, f p g.0 g.1 g.2);
  all = λ u h. let g = c.all u h in (g.0, g.1, f g.0 u h g.2);
}

ends_append : (xs ys : List Changed) → ends (xs ++ ys) ≡ ends xs ++ ends ys
unfolding ends
ends_append [] ys = refl
ends_append (x ∷ xs) ys = ap (λ es. x.pair.a ∷ x.pair.b ∷ es) (ends_append xs ys)

pub ends_more : (cs : List Changed) (i : ℕ) (c : Changed) (old mid new : List ℕ) → i < length cs → c ≡ get_or cs i c → old ≡ ends (take i cs) → mid ≡ old ++ c.pair.a ∷ [] → new ≡ mid ++ c.pair.b ∷ []
    → new ≡ ends (take (i + 1) cs)
unfolding ends
ends_more cs i c old mid new l e o m n =
    n
    ∙ (ap (λ xs. xs ++ c.pair.b ∷ []) (m ∙ ap (λ xs. xs ++ c.pair.a ∷ []) o)
    ∙ (two (ends (take i cs)) c.pair.a c.pair.b ∙ (sym (ends_append (take i cs) (c ∷ [])) ∙ ap ends (sym (take_more cs i c l e)))))
  where
    two : (xs : List ℕ) (x y : ℕ) → (xs ++ x ∷ []) ++ y ∷ [] ≡ xs ++ x ∷ y ∷ []
    two [] x y = refl
    two (z ∷ xs) x y = ap (λ zs. z ∷ zs) (two xs x y)
