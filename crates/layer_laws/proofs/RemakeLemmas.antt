-- What an entry leaves alone, and what it makes anew.
use Rattle.std.specs.Prelude.{nat_lt}
use Rattle.std.proofs.Common.{◌≡◌, ℕ, ◌+◌, ◌-◌, ◌^◌, ◌<◌, ◌≤◌, Bool, true, false, ◌&&◌, ◌||◌, eqb, List, [], ◌∷◌, refl, sym, ◌∙◌, ap, subst, ◌↔◌, inl, inr, arith, eq-eqb, IsTrue}
use Rattle.std.specs.List.{AllByRecursion, filter}
use Rattle.std.proofs.lemmas.Bool.{false≢true, eqb-true, and_parts, and_right, or_parts, or_from, or_cases, or_left, or_right, cases_lt}
use Rattle.node_ids.specs.Ids.{IsLayout}
use Rattle.op_model.specs.declared.base.Dataset.{Dataset}
use Rattle.op_model.specs.declared.base.Base.{Base}
use Rattle.op_model.specs.declared.base.Edge.{Edge}
use Rattle.op_model.specs.declared.entry.Changed.{Changed}
use Rattle.op_model.specs.declared.entry.Entry.{Entry}
use Rattle.graph_model.specs.Lists.{has}
use Rattle.graph_model.specs.Components.{component_of}
use Rattle.op_model.specs.Edges.{linked, same_pair, edges_after}
use Rattle.op_model.specs.Chunks.{chunk, members}
use Rattle.op_model.specs.Labels.{is_empty, touches, edges, component, is_new, node, Joined}
use Rattle.op_model.specs.Operations.{ends}
use Rattle.graph_model.proofs.ListLemmas.{same_bool, has_head, has_cases, has_none}
use Rattle.graph_model.proofs.Components.{IsClosed as IsClosedBy, component_self, component_closed, component_equal, Joined_carried}
use Rattle.op_model.proofs.EdgeLemmas.{linked_put_changed, filter_put_changed}
use Rattle.op_model.proofs.LabelLemmas.{in_members, kept, label_old}
use Rattle.layer_laws.specs.Levels.{leaves, leads_out, leaving, level, IsSearched, AreChanged}
use Rattle.layer_laws.proofs.StepLemmas.{meets_joined, higher_iff, leaves_one, leaves_node, leaves_iff, leaves_self, leaves_above, steps_join, joined_known, joined_sym, joined_trans}
use Rattle.layer_laws.proofs.NumberLemmas.{found_whole}

-- what touches a list touches each that has its members
pub touches_more : (cs : List Changed) (xs ys : List ℕ) → ((x : ℕ) → has xs x ≡ true → has ys x ≡ true) → touches cs xs ≡ true → touches cs ys ≡ true
unfolding touches
touches_more [] xs ys f h = absurd (false≢true h)
touches_more (c ∷ cs) xs ys f h =
    elim (or_cases (has xs c.pair.a || has xs c.pair.b) (touches cs xs) h) [
      | inl e ↦ or_left (has ys c.pair.a || has ys c.pair.b) (touches cs ys)
          (elim (or_cases (has xs c.pair.a) (has xs c.pair.b) e) [
            | inl k ↦ or_left (has ys c.pair.a) (has ys c.pair.b) (f c.pair.a k)
            | inr k ↦ or_right (has ys c.pair.a) (has ys c.pair.b) (f c.pair.b k)
          ])
      | inr g ↦ or_right (has ys c.pair.a || has ys c.pair.b) (touches cs ys) (touches_more cs xs ys f g)
    ]

-- the end that touches a list
pub touches_end : (cs : List Changed) (xs : List ℕ) → touches cs xs ≡ true → (x : ℕ) × (has xs x ≡ true) × (touches cs (x ∷ []) ≡ true)
unfolding touches
touches_end [] xs h = absurd (false≢true h)
touches_end (c ∷ cs) xs h =
    elim (or_cases (has xs c.pair.a || has xs c.pair.b) (touches cs xs) h) [
      | inl e ↦ elim (or_cases (has xs c.pair.a) (has xs c.pair.b) e) [
        | inl k ↦ (c.pair.a, k, or_left _ _ (or_left _ _ (has_head c.pair.a [])))
        | inr k ↦ (c.pair.b, k, or_left _ _ (or_right (has (c.pair.b ∷ []) c.pair.a) _ (has_head c.pair.b [])))
      ]
      | inr g ↦
          let r = touches_end cs xs g in
          (r.0, r.1, or_right (has (r.0 ∷ []) c.pair.a || has (r.0 ∷ []) c.pair.b) _ r.2)
    ]

-- the ends of changed pairs are what touches a list of one
pub ends_touch : (cs : List Changed) (v : ℕ) → has (ends cs) v ≡ touches cs (v ∷ [])
unfolding touches ends
ends_touch [] v = refl
ends_touch (c ∷ cs) v = shape (eqb c.pair.a v) (eqb v c.pair.a) (eqb_swap c.pair.a v) (eqb c.pair.b v) (eqb v c.pair.b) (eqb_swap c.pair.b v) _ _ (ends_touch cs v)
  where
    eqb_swap : (x y : ℕ) → eqb x y ≡ eqb y x
    eqb_swap x y = same_bool _ _ (λ h. eq-eqb y x (sym (eqb-true x y h))) (λ h. eq-eqb x y (sym (eqb-true y x h)))

    shape : (p p' : Bool) → p ≡ p' → (q q' : Bool) → q ≡ q' → (r r' : Bool) → r ≡ r' → (p || (q || r)) ≡ (((p' || false) || (q' || false)) || r')
    shape true p' e q q' f r r' g = rw (← e) refl
    shape false p' e true q' f r r' g = rw (← e, ← f) refl
    shape false p' e false q' f r r' g = rw (← e, ← f, ← g) refl

-- no edge of a changed pair has an end in a list that the pairs don't touch
all_fail : (xs : List ℕ) (s : Edge → Bool) (cs : List Changed) → touches cs xs ≡ false → AllByRecursion (λ c. (g : Edge) → same_pair g.pair c.pair ≡ true → (s g && (has xs g.pair.a || has xs g.pair.b)) ≡ false) cs
unfolding touches same_pair
all_fail xs s [] t = tt
all_fail xs s (c ∷ cs) t =
    let p = or_parts (has xs c.pair.a || has xs c.pair.b) _ t in
    let q = or_parts (has xs c.pair.a) (has xs c.pair.b) p.0 in (
      (λ g k.
          let r = and_parts (eqb g.pair.a c.pair.a) (eqb g.pair.b c.pair.b) k in
          and_right (s g) _
          (or_from _ _ (ap (has xs) (eqb-true g.pair.a c.pair.a r.0) ∙ q.0) (ap (has xs) (eqb-true g.pair.b c.pair.b r.1) ∙ q.1))),
      all_fail xs s cs p.1,
    )

known_end : (all : List ℕ) (cs : List Changed) → AllByRecursion (λ c. IsTrue (has all c.pair.a) × IsTrue (has all c.pair.b)) cs → (v : ℕ) → has (ends cs) v ≡ true → has all v ≡ true
unfolding ends
known_end all [] known v h = has_none v h
known_end all (c ∷ cs) known v h =
    elim (has_cases c.pair.a (c.pair.b ∷ ends cs) v h) [
      | inl e ↦ subst (λ x. has all x ≡ true) e known.0.0
      | inr g ↦ elim (has_cases c.pair.b (ends cs) v g) [
        | inl e ↦ subst (λ x. has all x ≡ true) e known.0.1
        | inr k ↦ known_end all cs known.1 v k
      ]
    ]

module _ (d : Dataset) (b : Base) where
  -- an entry leaves a component alone that had no end of its changed pairs before
  kept_old : (e : Entry) (log : List Entry) (l u : ℕ) → has b.supervoxels u ≡ true → touches e.changed (component d b log l u) ≡ false → (x : ℕ) → Joined d b (e ∷ log) l u x ↔ Joined d b log l u x
  unfolding component edges edges_after
  kept_old e log l u h t x = (
    (λ j. Joined_carried now before all found (λ v w hv lk hw. closed v w hv (sym (same v w hv) ∙ lk) hw) (λ v w hv. same v w hv) u x self j),
    (λ j. Joined_carried before now all found closed (λ v w hv. sym (same v w hv)) u x self j),
  )
    where
      now : ℕ → ℕ → Bool
      now = linked (edges d b (e ∷ log))

      before : ℕ → ℕ → Bool
      before = linked (edges d b log)

      all : List ℕ
      all = members d b l (chunk d l u)

      found : List ℕ
      found = component_of before all u

      self : has found u ≡ true
      self = component_self before all u (in_members d b l (chunk d l u) u h refl)

      closed : IsClosedBy before all found
      closed = component_closed before all u (in_members d b l (chunk d l u) u h refl)

      same : (v w : ℕ) → has found v ≡ true → now v w ≡ before v w
      same v w hv = linked_put_changed d.merge_affinity e.changed (edges d b log) found v w t hv

  component_old : (e : Entry) (log : List Entry) (l u : ℕ) → has b.supervoxels u ≡ true → touches e.changed (component d b log l u) ≡ false → component d b (e ∷ log) l u ≡ component d b log l u
  unfolding component
  component_old e log l u h t = component_equal (linked (edges d b (e ∷ log))) (linked (edges d b log)) (members d b l (chunk d l u)) u (kept_old e log l u h t)

  component_new : (e : Entry) (log : List Entry) (l u : ℕ) → has b.supervoxels u ≡ true → touches e.changed (component d b (e ∷ log) l u) ≡ false → component d b (e ∷ log) l u ≡ component d b log l u
  unfolding component
  component_new e log l u h t = component_equal (linked (edges d b (e ∷ log))) (linked (edges d b log)) (members d b l (chunk d l u)) u (kept d b e log l u h t)

  told : (e : Entry) (log : List Entry) (l u : ℕ) → has b.supervoxels u ≡ true → touches e.changed (component d b (e ∷ log) l u) ≡ touches e.changed (component d b log l u)
  told e log l u h = go (touches e.changed (component d b (e ∷ log) l u)) refl (touches e.changed (component d b log l u)) refl
    where
      go : (s : Bool) → touches e.changed (component d b (e ∷ log) l u) ≡ s → (t : Bool) → touches e.changed (component d b log l u) ≡ t
          → touches e.changed (component d b (e ∷ log) l u) ≡ touches e.changed (component d b log l u)
      go false p t q = ap (touches e.changed) (component_new e log l u h p)
      go true p true q = p ∙ sym q
      go true p false q = ap (touches e.changed) (component_old e log l u h q)

  module _ (is : IsLayout d.layout) where
    pub told_before : (e : Entry) (log : List Entry) (l v : ℕ) → has b.supervoxels v ≡ true → touches e.changed (leaves d b (e ∷ log) l v) ≡ touches e.changed (leaves d b log l v)
    told_before e log l v h =
        elim (cases_lt 1 l) [
          | inl two ↦
              ap (touches e.changed) (leaves_node d b is (e ∷ log) l v two) ∙ (told e log l v h ∙ sym (ap (touches e.changed) (leaves_node d b is log l v two)))
          | inr one ↦ ap (touches e.changed) (leaves_one d b is (e ∷ log) l v one ∙ sym (leaves_one d b is log l v one))
        ]

    pub same_leaves : (e : Entry) (log : List Entry) (l v : ℕ) → has b.supervoxels v ≡ true → touches e.changed (leaves d b log l v) ≡ false → leaves d b (e ∷ log) l v ≡ leaves d b log l v
    same_leaves e log l v h t =
        elim (cases_lt 1 l) [
          | inl two ↦
              leaves_node d b is (e ∷ log) l v two
              ∙ (component_old e log l v h (ap (touches e.changed) (sym (leaves_node d b is log l v two)) ∙ t) ∙ sym (leaves_node d b is log l v two))
          | inr one ↦ leaves_one d b is (e ∷ log) l v one ∙ sym (leaves_one d b is log l v one)
        ]

    pub same_node : (e f : Entry) (log : List Entry) (l v : ℕ) → 2 ≤ l → has b.supervoxels v ≡ true → touches e.changed (leaves d b (f ∷ log) l v) ≡ false → node d b (e ∷ f ∷ log) l v ≡ node d b (f ∷ log) l v
    unfolding node is_new is_empty
    same_node e f log l v two h t =
        let n : touches e.changed (component d b (e ∷ f ∷ log) l v) ≡ false =
        ap (touches e.changed) (sym (leaves_node d b is (e ∷ f ∷ log) l v two)) ∙ (told_before e (f ∷ log) l v h ∙ t) in
        ap (λ x. chunk d l v + x) (label_old d b e (f ∷ log) l v n)

    -- edges of untouched nodes stay
    pub same_edges : (e : Entry) (log : List Entry) (l v : ℕ) → has b.supervoxels v ≡ true → touches e.changed (leaves d b log l v) ≡ false → leaving d b (e ∷ log) l v ≡ leaving d b log l v
    unfolding leaving leads_out edges edges_after
    same_edges e log l v h t =
        ap (λ xs. filter (λ g. (g.active && nat_lt l (level d g.pair.a g.pair.b)) && (has xs g.pair.a || has xs g.pair.b)) (edges d b (e ∷ log))) (same_leaves e log l v h t)
        ∙ filter_put_changed (leads_out d b log l v) d.merge_affinity e.changed (edges d b log) (fails e.changed t)
      where
        fails : (cs : List Changed) → touches cs (leaves d b log l v) ≡ false → AllByRecursion (λ c. (g : Edge) → same_pair g.pair c.pair ≡ true → leads_out d b log l v g ≡ false) cs
        fails cs t = all_fail (leaves d b log l v) (λ g. g.active && nat_lt l (level d g.pair.a g.pair.b)) cs t

module _ (d : Dataset) (b : Base) (is : IsLayout d.layout) (log : List Entry) (l : ℕ) (two : 2 ≤ l) (low : l < 2 ^ 8) where
  -- a node is changed just where a node below it is
  pub changed_iff : (cs : List Changed) (v : ℕ) → has b.supervoxels v ≡ true
      → IsTrue (touches cs (leaves d b log l v)) ↔ ((w : ℕ) × IsTrue (has (leaves d b log l v) w) × IsTrue (touches cs (leaves d b log (l - 1) w)))
  changed_iff cs v hv = (
    (λ t.
        let x = touches_end cs (leaves d b log l v) t in
        let k = joined_known d b is log l v x.0 ((leaves_iff d b is log l v x.0 two).0 x.1) in
        (x.0, x.1, touches_more cs (x.0 ∷ []) (leaves d b log (l - 1) x.0) (λ y h. only x.0 y h (leaves_self d b is log (l - 1) x.0 k.1)) x.2)),
    (λ p.
        let j = (leaves_iff d b is log l v p.0 two).0 p.1 in
        let k = joined_known d b is log l v p.0 j in
        touches_more cs (leaves d b log (l - 1) p.0) (leaves d b log l v)
        (λ x h. (leaves_iff d b is log l v x two).1 (joined_trans d b is log l v p.0 x j (leaves_above d b is log l p.0 x two low k.1 h))) p.2),
  )
    where
      only : (x y : ℕ) → has (x ∷ []) y ≡ true → has (leaves d b log (l - 1) x) x ≡ true → has (leaves d b log (l - 1) x) y ≡ true
      only x y h s = elim (has_cases x [] y h) [ inl e ↦ subst (λ z. has (leaves d b log (l - 1) x) z ≡ true) e s | inr g ↦ has_none y g ]

  -- joined supervoxels have the same changed node
  same_change : (cs : List Changed) (u v : ℕ) → Joined d b log l u v → touches cs (leaves d b log l u) ≡ true → touches cs (leaves d b log l v) ≡ true
  same_change cs u v j t =
      touches_more cs (leaves d b log l u) (leaves d b log l v)
      (λ x h. (leaves_iff d b is log l v x two).1 (joined_trans d b is log l v u x (joined_sym d b is log l u v j) ((leaves_iff d b is log l u x two).0 h))) t

  pub search_next : (cs : List Changed) (start found : List ℕ) → AreChanged d b cs log (l - 1) start → IsSearched d b log l start found → AreChanged d b cs log l found
  search_next cs start found starts searched v = (
    (λ h.
        let r = searched.reached v h in
        let s = (starts r.0).0 r.1 in
        let j = steps_join d b is log l r.0 v two low r.2 in
        let hv = searched.closed.known v h in
        (hv, (changed_iff cs v hv).1 (r.0, (leaves_iff d b is log l v r.0 two).1 (joined_sym d b is log l r.0 v j), s.1))),
    (λ p.
        let w = (changed_iff cs v p.0).0 p.1 in
        let j = (leaves_iff d b is log l v w.0 two).0 w.1 in
        let k = joined_known d b is log l v w.0 j in
        found_whole d b is log l two low found searched.closed w.0 v (searched.starts w.0 ((starts w.0).1 (k.1, w.2))) (joined_sym d b is log l v w.0 j)),
  )

  pub search_one : (u v : ℕ) (found : List ℕ) → has b.supervoxels u ≡ true → IsSearched d b log l (u ∷ []) found → IsTrue (has found v) ↔ IsTrue (has (leaves d b log l u) v)
  search_one u v found hu searched = (
    (λ h.
        let r = searched.reached v h in
        let j = steps_join d b is log l r.0 v two low r.2 in
        (leaves_iff d b is log l u v two).1
        (elim (has_cases u [] r.0 r.1) [ inl e ↦ subst (λ x. Joined d b log l x v) (sym e) j | inr g ↦ has_none r.0 g ])),
    (λ h. found_whole d b is log l two low found searched.closed u v (searched.starts u (has_head u [])) ((leaves_iff d b is log l u v two).0 h)),
  )

pub first_ends : (d : Dataset) (b : Base) → IsLayout d.layout → (cs : List Changed) (log : List Entry) → AllByRecursion (λ c. IsTrue (has b.supervoxels c.pair.a) × IsTrue (has b.supervoxels c.pair.b)) cs → AreChanged d b cs log 1 (ends cs)
first_ends d b is cs log known v =
    let e : touches cs (leaves d b log 1 v) ≡ has (ends cs) v = ap (touches cs) (leaves_one d b is log 1 v (omega arith)) ∙ sym (ends_touch cs v) in (
      (λ h. (ends_known cs known v h, e ∙ h)),
      (λ p. sym e ∙ p.1),
    )
  where
    ends_known : (cs : List Changed) → AllByRecursion (λ c. IsTrue (has b.supervoxels c.pair.a) × IsTrue (has b.supervoxels c.pair.b)) cs → (v : ℕ) → has (ends cs) v ≡ true → has b.supervoxels v ≡ true
    ends_known cs known v h = known_end b.supervoxels cs known v h

-- the leaves of a node are what a search from one of them finds
pub leaves_searched : (d : Dataset) (b : Base) → IsLayout d.layout → (log : List Entry) (l u : ℕ) → 2 ≤ l → l < 2 ^ 8 → has b.supervoxels u ≡ true → IsSearched d b log l (u ∷ []) (leaves d b log l u)
leaves_searched d b is log l u two low hu = record {
  closed = record {
    known = λ v h. (joined_known d b is log l u v (there v h)).1;
    below = λ v w h k.
        let j = there v h in
        back w (joined_trans d b is log l u v w j (leaves_above d b is log l v w two low (joined_known d b is log l u v j).1 k));
    here = λ v w h hw m.
        let j = there v h in
        back w (joined_trans d b is log l u v w j (meets_joined d b is log l v w low (joined_known d b is log l u v j).1 hw m));
  };
  starts = λ v h. elim (has_cases u [] v h) [ inl e ↦ subst (λ x. has (leaves d b log l u) x ≡ true) e (leaves_self d b is log l u hu) | inr g ↦ has_none v g ];
  reached = λ v h. (u, has_head u [], (higher_iff d b is log l u v two low).0 (there v h));
}
  where
    there : (v : ℕ) → has (leaves d b log l u) v ≡ true → Joined d b log l u v
    there v h = (leaves_iff d b is log l u v two).0 h

    back : (v : ℕ) → Joined d b log l u v → has (leaves d b log l u) v ≡ true
    back v j = (leaves_iff d b is log l u v two).1 j
