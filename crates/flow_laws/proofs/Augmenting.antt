-- One unit more along a walk of the residual net.
use Rattle.std.proofs.Common.{◌≡◌, ℕ, zero, suc, ◌<◌, ◌≤◌, true, false, List, [], ◌∷◌, length, set, ℤ, pos, negsuc, ◌+ℤ◌, ◌-ℤ◌, Option, Some, None, sym, refl, ap, ◌∙◌, subst, inl, inr, ◌⊎◌, arith, get_or-set_same}
use Rattle.std.proofs.lemmas.List.{get_or-set_other, length-set}
use Rattle.std.proofs.lemmas.Int.{ints}
use Rattle.std.proofs.lemmas.Bool.{cases_eq, cases_Bool, false_from_ne_true}
use Rattle.graph_model.specs.Lists.{has}
use Rattle.graph_model.specs.Walks.{IsWalk}
use Rattle.graph_model.specs.Wires.{Wire, wire}
use Rattle.graph_model.specs.Flows.{amount, forth, back, Fitting}
use Rattle.graph_model.specs.Residual.{RoomForth, RoomBack, Residual}
use Rattle.graph_model.proofs.ListLemmas.{contra, has_head, has_tail, has_cases, has_none}
use Rattle.min_cut.specs.Moves.{Moves}
use Rattle.min_cut.proofs.Moves.{moves_none, moves_then, sent_forth, sent_back, grown}

one_part : (z : ℤ) → (forth z ≡ 0) ⊎ (back z ≡ 0)
one_part (pos n) = inr refl
one_part (negsuc n) = inl refl

fits_forth : (room : Option ℕ) (y z : ℤ) → z ≡ y +ℤ pos 1 → Fitting room y → RoomForth room y → Fitting room z
fits_forth None y z e f h = tt
fits_forth (Some r) y z e f h = let g = grown y z 1 e in let o = one_part z in (omega arith, omega arith)

fits_back : (room : Option ℕ) (y z : ℤ) → z ≡ y -ℤ pos 1 → Fitting room y → RoomBack room y → Fitting room z
fits_back None y z e f h = tt
fits_back (Some r) y z e f h =
    let d : y ≡ z +ℤ pos 1 = omega (arith, ints) in let g = grown z y 1 d in let o = one_part z in (omega arith, omega arith)

-- one unit more runs from u to v, over links between vertices of the list alone
pub record Sent (ws : List Wire) (fs gs : List ℤ) (path : List ℕ) (u v : ℕ) : Type 0 where
  pub len : length gs ≡ length ws
  pub fits : (k : ℕ) → k < length ws → Fitting (wire ws k).room (amount gs k)
  pub untouched : (k : ℕ) → (has path (wire ws k).a ≡ false) ⊎ (has path (wire ws k).b ≡ false) → amount gs k ≡ amount fs k
  pub moves : Moves ws fs gs 1 u v

-- the rest of a walk from where it comes to u again
again : (E : ℕ → ℕ → Type 0) (u t : ℕ) (xs : List ℕ) (v : ℕ) → IsWalk E t xs v → has xs u ≡ true
    → (ys : List ℕ) × IsWalk E u ys v × (length ys < length xs) × ((x : ℕ) → has ys x ≡ true → has xs x ≡ true)
again E u t [] v h m = has_none u m
again E u t (x ∷ xs) v (h, r) m = elim (has_cases x xs u m) [
  | inl e ↦ (xs, subst (λ y. IsWalk E y xs v) e r, omega arith, λ y i. has_tail x xs y i)
  | inr i ↦ let (ys, w, l, s) = again E u x xs v r i in (ys, w, omega arith, λ y j. has_tail x xs y (s y j))
]

-- what a longer list doesn't have a shorter one doesn't
lacks : (xs ys : List ℕ) (x : ℕ) → ((y : ℕ) → has ys y ≡ true → has xs y ≡ true) → has xs x ≡ false → has ys x ≡ false
lacks xs ys x f n = false_from_ne_true _ (λ t. contra (has xs x) (f x t) n)

module _ (ws : List Wire) (fs : List ℤ) (same : length fs ≡ length ws) (fit : (k : ℕ) → k < length ws → Fitting (wire ws k).room (amount fs k)) where
  wider : (gs : List ℤ) (xs ys : List ℕ) (u v : ℕ) → ((y : ℕ) → has ys y ≡ true → has xs y ≡ true) → Sent ws fs gs ys u v → Sent ws fs gs xs u v
  wider gs xs ys u v f s = record {
    len = s.len;
    fits = s.fits;
    untouched = λ k o. s.untouched k (elim o [ inl a ↦ inl (lacks xs ys _ f a) | inr b ↦ inr (lacks xs ys _ f b) ]);
    moves = s.moves;
  }

  -- one link more at the start
  module _ (path : List ℕ) (u w v : ℕ) (gs : List ℤ) (there : has path w ≡ true) (s : Sent ws fs gs path w v) where
    onto : (k : ℕ) (z : ℤ) → k < length ws → Moves ws gs (set gs k z) 1 u w → Fitting (wire ws k).room z
        → (((wire ws k).a ≡ u) × ((wire ws k).b ≡ w)) ⊎ (((wire ws k).b ≡ u) × ((wire ws k).a ≡ w)) → Sent ws fs (set gs k z) (u ∷ path) u v
    onto k z l mv f ends =
        let m : k < length gs = let e = s.len in omega arith in
        record {
          len = length-set gs k z ∙ s.len;
          fits = λ j b. elim (cases_eq j k) [
            | inl e ↦ rw (e, get_or-set_same gs k z (pos 0) m) f
            | inr d ↦ rw (get_or-set_other gs k j z (pos 0) d) (s.fits j b)
          ];
          untouched = λ j o.
              get_or-set_other gs k j z (pos 0) (λ e. apart j e o)
              ∙ s.untouched j (elim o [ inl a ↦ inl (lacks (u ∷ path) path _ (has_tail u path) a) | inr b ↦ inr (lacks (u ∷ path) path _ (has_tail u path) b) ]);
          moves = moves_then ws fs gs (set gs k z) 1 u w v s.moves mv;
        }
      where
        held : {x y : ℕ} → x ≡ y → has (u ∷ path) x ≡ true → has (u ∷ path) y ≡ true
        held e h = subst (λ t. has (u ∷ path) t ≡ true) e h

        both : (((wire ws k).a ≡ u) × ((wire ws k).b ≡ w)) ⊎ (((wire ws k).b ≡ u) × ((wire ws k).a ≡ w))
            → (has (u ∷ path) (wire ws k).a ≡ true) × (has (u ∷ path) (wire ws k).b ≡ true)
        both (inl (a, b)) = (held (sym a) (has_head u path), held (sym b) (has_tail u path w there))
        both (inr (b, a)) = (held (sym a) (has_tail u path w there), held (sym b) (has_head u path))

        apart : (j : ℕ) → j ≡ k → (has (u ∷ path) (wire ws j).a ≡ false) ⊎ (has (u ∷ path) (wire ws j).b ≡ false) → ⊥
        apart j e (inl n) = contra _ (both ends).0 (ap (λ i. has (u ∷ path) (wire ws i).a) (sym e) ∙ n)
        apart j e (inr n) = contra _ (both ends).1 (ap (λ i. has (u ∷ path) (wire ws i).b) (sym e) ∙ n)

    link_more : Residual ws fs u w → has path u ≡ false → (hs : List ℤ) × Sent ws fs hs (u ∷ path) u v
    link_more (k, l, inl (a, b, r)) n =
        let m : k < length gs = let e = s.len in omega arith in
        let z : ℤ = amount gs k +ℤ pos 1 in
        let old : amount gs k ≡ amount fs k = s.untouched k (inl (ap (has path) a ∙ n)) in
        let mv : Moves ws gs (set gs k z) 1 u w = subst (λ t. Moves ws gs (set gs k z) 1 u t) b (subst (λ t. Moves ws gs (set gs k z) 1 t (wire ws k).b) a (sent_forth ws gs k l m z 1 refl)) in
        (set gs k z, onto k z l mv (fits_forth (wire ws k).room (amount gs k) z refl (s.fits k l) (subst (RoomForth (wire ws k).room) (sym old) r)) (inl (a, b)))
    link_more (k, l, inr (b, a, r)) n =
        let m : k < length gs = let e = s.len in omega arith in
        let z : ℤ = amount gs k -ℤ pos 1 in
        let old : amount gs k ≡ amount fs k = s.untouched k (inr (ap (has path) b ∙ n)) in
        let mv : Moves ws gs (set gs k z) 1 u w = subst (λ t. Moves ws gs (set gs k z) 1 u t) a (subst (λ t. Moves ws gs (set gs k z) 1 t (wire ws k).a) b (sent_back ws gs k l m z 1 refl)) in
        (set gs k z, onto k z l mv (fits_back (wire ws k).room (amount gs k) z refl (s.fits k l) (subst (RoomBack (wire ws k).room) (sym old) r)) (inr (b, a)))

  none_sent : (u v : ℕ) → u ≡ v → Sent ws fs fs (u ∷ []) u v
  none_sent u v e = record {
    len = same;
    fits = fit;
    untouched = λ k o. refl;
    moves = subst (λ t. Moves ws fs fs 1 u t) e (moves_none ws fs 1 u);
  }

  -- along a walk of the residual net one unit more can be sent
  pub along : (m u : ℕ) (xs : List ℕ) (v : ℕ) → length xs ≤ m → IsWalk (Residual ws fs) u xs v → (gs : List ℤ) × Sent ws fs gs (u ∷ xs) u v
  along zero u [] v l e = (fs, none_sent u v e)
  along zero u (x ∷ xs) v l h = absurd (omega arith)
  along (suc m) u [] v l e = (fs, none_sent u v e)
  along (suc m) u (x ∷ xs) v l (h, r) = elim (cases_Bool (has (x ∷ xs) u)) [
    | inl t ↦
        let (ys, w, s, f) = again (Residual ws fs) u u (x ∷ xs) v (h, r) t in
        let (gs, p) = along m u ys v (omega arith) w in
        (gs, wider gs (u ∷ x ∷ xs) (u ∷ ys) u v (more ys f) p)
    | inr n ↦ let (gs, p) = along m x xs v (omega arith) r in link_more (x ∷ xs) u x v gs (has_head x xs) p h n
  ]
    where
      more : (ys : List ℕ) → ((y : ℕ) → has ys y ≡ true → has (x ∷ xs) y ≡ true) → (y : ℕ) → has (u ∷ ys) y ≡ true → has (u ∷ x ∷ xs) y ≡ true
      more ys f y i = elim (has_cases u ys y i) [
        | inl e ↦ subst (λ t. has (u ∷ x ∷ xs) t ≡ true) e (has_head u (x ∷ xs))
        | inr j ↦ has_tail u (x ∷ xs) y (f y j)
      ]
