-- The source sides of the separating sets of least weight are closed under intersection, so the least cut is one of these sets.
use Rattle.std.proofs.Common.{◌≡◌, ℕ, ◌+◌, ◌<◌, ◌≤◌, Bool, true, false, cond, ◌&&◌, ◌||◌, List, [], ◌∷◌, length, IsSome, sym, refl, ap, ◌∙◌, subst, inl, inr, ◌⊎◌, ◌↔◌, arith, zero-le, le_refl}
use Rattle.std.specs.List.{list_all}
use Rattle.std.proofs.Math.Path.{fun_ext}
use Rattle.std.proofs.Math.Bool.{and-true}
use Rattle.std.proofs.lemmas.Bool.{false≢true, and_from}
use Rattle.graph_model.specs.Wires.{Wire, wire, weight_of}
use Rattle.graph_model.specs.Lists.{has}
use Rattle.graph_model.specs.Cuts.{Linked, OnSourceSide, Separates, IsLeast, InCore, weight, marked_weight, on_source_side, crosses, differ, chosen, least_sets, in_core, least_cut}
use Rattle.graph_model.proofs.Totals.{total_le, total_add}
use Rattle.graph_model.proofs.Walks.{reach_keeps, has_decides}
use Rattle.graph_model.proofs.Duality.{IsSide, side_of_separating}
use Rattle.graph_model.proofs.Optimal.{differ_same}
use Rattle.graph_model.proofs.Least.{least_exists}
use Rattle.graph_model.proofs.Computed.{In, sets, listed_least, least_listed, core_decides, chosen_at, side_agree, separates_agree, weight_agree}

-- a link across the edge of two sides' intersection or union crosses one of them
meet_crosses : (p q r s : Bool) → differ (p && r) (q && s) ≡ true → (differ p q ≡ true) ⊎ (differ r s ≡ true)
meet_crosses true false r s e = inl refl
meet_crosses false true r s e = inl refl
meet_crosses true true r s e = inr e
meet_crosses false false r s e = absurd (false≢true e)

join_crosses : (p q r s : Bool) → differ (p || r) (q || s) ≡ true → (differ p q ≡ true) ⊎ (differ r s ≡ true)
join_crosses true false r s e = inl refl
join_crosses false true r s e = inl refl
join_crosses true true r s e = absurd (false≢true e)
join_crosses false false r s e = inr e

-- intersection and union together are crossed by no more than the two sides are
crossed : (p q r s : Bool) (w : ℕ) → cond (differ (p && r) (q && s)) w 0 + cond (differ (p || r) (q || s)) w 0 ≤ cond (differ p q) w 0 + cond (differ r s) w 0
crossed true true true true w = omega arith
crossed true true true false w = omega arith
crossed true true false true w = omega arith
crossed true true false false w = omega arith
crossed true false true true w = omega arith
crossed true false true false w = omega arith
crossed true false false true w = omega arith
crossed true false false false w = omega arith
crossed false true true true w = omega arith
crossed false true true false w = omega arith
crossed false true false true w = omega arith
crossed false true false false w = omega arith
crossed false false true true w = omega arith
crossed false false true false w = omega arith
crossed false false false true w = omega arith
crossed false false false false w = omega arith

lighter : (p q : Bool) (w : ℕ) → (p ≡ true → q ≡ true) → cond p w 0 ≤ cond q w 0
lighter false q w h = zero-le
lighter true q w h = rw (h refl) (le_refl w)

module _ (ws : List Wire) (sources sinks : List ℕ) where
  -- a set of vertices with every source and no sink, that no glue leaves
  record IsApart (side : ℕ → Bool) : Type 0 where
    holds_sources : (v : ℕ) → has sources v ≡ true → side v ≡ true
    no_sink : (v : ℕ) → has sinks v ≡ true → side v ≡ false
    no_glue : (k : ℕ) → k < length ws → crosses ws side k ≡ true → IsSome (wire ws k).room

  -- and no separating set weighs less than the links that leave it
  record IsLeastSide (side : ℕ → Bool) : Type 0 where
    apart : IsApart side
    least : (y : ℕ → Bool) → Separates ws sources sinks y → weight ws (crosses ws side) ≤ weight ws y

  along : (side : ℕ → Bool) (u v : ℕ) → Linked ws (crosses ws side) u v → side u ≡ true → side v ≡ true
  along side u v (k, l, o, inl (a, b)) s = ap side (sym b) ∙ (sym (differ_same _ _ o) ∙ (ap side a ∙ s))
  along side u v (k, l, o, inr (a, b)) s = ap side (sym a) ∙ (differ_same _ _ o ∙ (ap side b ∙ s))

  -- what the sources reach without the links that leave it is in it
  inside : (side : ℕ → Bool) → IsApart side → (v : ℕ) → OnSourceSide ws sources (crosses ws side) v → side v ≡ true
  inside side a v (s, c, r) = reach_keeps (Linked ws (crosses ws side)) (λ t. side t ≡ true) (along side) s v r
      (a.holds_sources s ((has_decides sources s).1 c))

  edge_separates : (side : ℕ → Bool) → IsApart side → Separates ws sources sinks (crosses ws side)
  edge_separates side a = record {
    no_glue = a.no_glue;
    apart = λ t c r. false≢true (sym (a.no_sink t ((has_decides sinks t).1 c)) ∙ inside side a t r);
  }

  edge_least : (side : ℕ → Bool) → IsLeastSide side → IsLeast ws sources sinks (crosses ws side)
  edge_least side s = record { separates = edge_separates side s.apart; least = s.least }

  -- the source side of a least set
  least_side : (x : ℕ → Bool) → IsLeast ws sources sinks x → IsLeastSide (on_source_side ws sources x)
  least_side x i =
      let side : ℕ → Bool = on_source_side ws sources x in
      let s : IsSide ws sources sinks x side = side_of_separating ws sources sinks x i.separates in
      let marked : (k : ℕ) → k < length ws → crosses ws side k ≡ true → x k ≡ true =
      λ k l c. not_outside (x k) (side (wire ws k).a) (side (wire ws k).b) (s.closed k l) c in
      record {
        apart = record { holds_sources = s.holds_sources; no_sink = s.no_sink; no_glue = λ k l c. i.separates.no_glue k l (marked k l c) };
        least = λ y sep.
            let a = i.least y sep in
            let b : weight ws (crosses ws side) ≤ weight ws x = total_le (marked_weight ws (crosses ws side)) (marked_weight ws x) (length ws)
            (λ k l. lighter (crosses ws side k) (x k) (weight_of (wire ws k).room) (marked k l)) in
            omega arith;
      }
    where
      not_outside : (m p q : Bool) → (m ≡ false → p ≡ q) → differ p q ≡ true → m ≡ true
      not_outside true p q h c = refl
      not_outside false true true h c = c
      not_outside false false false h c = c
      not_outside false true false h c = absurd (false≢true (sym (h refl)))
      not_outside false false true h c = absurd (false≢true (h refl))

  meets : (s t : ℕ → Bool) → IsApart s → IsApart t → IsApart (λ v. s v && t v)
  meets s t a b = record {
    holds_sources = λ v h. and_from _ _ (a.holds_sources v h) (b.holds_sources v h);
    no_sink = λ v h. rw (a.no_sink v h) refl;
    no_glue = λ k l c. elim (meet_crosses (s (wire ws k).a) (s (wire ws k).b) (t (wire ws k).a) (t (wire ws k).b) c) [ inl d ↦ a.no_glue k l d | inr d ↦ b.no_glue k l d ];
  }

  joins : (s t : ℕ → Bool) → IsApart s → IsApart t → IsApart (λ v. s v || t v)
  joins s t a b = record {
    holds_sources = λ v h. rw (a.holds_sources v h) refl;
    no_sink = λ v h. rw (a.no_sink v h, b.no_sink v h) refl;
    no_glue = λ k l c. elim (join_crosses (s (wire ws k).a) (s (wire ws k).b) (t (wire ws k).a) (t (wire ws k).b) c) [ inl d ↦ a.no_glue k l d | inr d ↦ b.no_glue k l d ];
  }

  -- the intersection of two least sides is one
  least_meets : (s t : ℕ → Bool) → IsLeastSide s → IsLeastSide t → IsLeastSide (λ v. s v && t v)
  least_meets s t a b =
      let meet : ℕ → Bool = λ v. s v && t v in
      let join : ℕ → Bool = λ v. s v || t v in
      let f = marked_weight ws (crosses ws meet) in
      let g = marked_weight ws (crosses ws join) in
      let h = marked_weight ws (crosses ws s) in
      let i = marked_weight ws (crosses ws t) in
      let left = total_add f g (length ws) in
      let right = total_add h i (length ws) in
      let sums = total_le (λ k. f k + g k) (λ k. h k + i k) (length ws)
      (λ k l. crossed (s (wire ws k).a) (s (wire ws k).b) (t (wire ws k).a) (t (wire ws k).b) (weight_of (wire ws k).room)) in
      let more = b.least (crosses ws join) (edge_separates join (joins s t a.apart b.apart)) in
      record {
        apart = meets s t a.apart b.apart;
        least = λ y sep. let less = a.least y sep in omega arith;
      }

  -- so is the intersection of the source sides of many least sets
  all_meet : (s : List ℕ) (rest : List (List ℕ)) → ((x : List ℕ) → In (s ∷ rest) x → IsLeast ws sources sinks (has x))
      → IsLeastSide (λ v. list_all (λ x. on_source_side ws sources (has x) v) (s ∷ rest))
  all_meet s [] h =
      let side : ℕ → Bool = on_source_side ws sources (has s) in
      subst IsLeastSide (fun_ext (λ v. sym (and-true (side v)))) (least_side (has s) (h s (inl refl)))
  all_meet s (t ∷ rest) h = least_meets (on_source_side ws sources (has s)) (λ v. list_all (λ x. on_source_side ws sources (has x) v) (t ∷ rest))
      (least_side (has s) (h s (inl refl))) (all_meet t rest (λ x i. h x (inr i)))

  core_least : (x : ℕ → Bool) → Separates ws sources sinks x → IsLeastSide (in_core ws sources sinks)
  core_least x s =
      let (y, i) = least_exists ws sources sinks x s in
      go (least_sets ws (sets ws sources sinks)) (listed_least ws sources sinks) (chosen y (length ws)) (least_listed ws sources sinks y i)
    where
      go : (all : List (List ℕ)) → ((z : List ℕ) → In all z → IsLeast ws sources sinks (has z)) → (z : List ℕ) → In all z
          → IsLeastSide (λ v. list_all (λ s. on_source_side ws sources (has s) v) all)
      go [] h z n = absurd n
      go (t ∷ rest) h z n = all_meet t rest h

  agree_least : (x y : ℕ → Bool) → ((k : ℕ) → k < length ws → x k ≡ y k) → IsLeast ws sources sinks x → IsLeast ws sources sinks y
  agree_least x y a i = record {
    separates = separates_agree ws sources sinks x y a i.separates;
    least = λ z s. subst (λ w. w ≤ weight ws z) (weight_agree ws x y a) (i.least z s);
  }

  -- where a set separates, the least cut does, and no separating set weighs less
  pub cut_is_least : (x : ℕ → Bool) → Separates ws sources sinks x → IsLeast ws sources sinks (has (least_cut ws sources sinks))
  unfolding least_cut
  cut_is_least x s =
      let c = crosses ws (in_core ws sources sinks) in
      agree_least c (has (chosen c (length ws))) (λ k l. sym (chosen_at c (length ws) k l)) (edge_least (in_core ws sources sinks) (core_least x s))

  -- its source side is what the source sides of all least sets have in common
  pub cut_has_core : (x : ℕ → Bool) → Separates ws sources sinks x → (v : ℕ) → OnSourceSide ws sources (has (least_cut ws sources sinks)) v ↔ InCore ws sources sinks v
  unfolding least_cut
  cut_has_core x s v =
      let c = crosses ws (in_core ws sources sinks) in (
        λ o. (core_decides ws sources sinks v).0 (inside (in_core ws sources sinks) (core_least x s).apart v (side_agree ws sources (has (chosen c (length ws))) c (chosen_at c (length ws)) v o)),
        λ i. i (has (least_cut ws sources sinks)) (cut_is_least x s),
      )
