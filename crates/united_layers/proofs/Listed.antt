-- The supervoxels of joints, ascending, are representatives, and the joints by their places join them.
use Rattle.std.proofs.Common.{◌≡◌, ◌∙◌, ℕ, ◌+◌, ◌-◌, ◌^◌, ◌<◌, ◌≤◌, Bool, true, false, cond, ◌&&◌, eqb, leb, List, [], ◌∷◌, length, map, get_or, refl, sym, ap, subst, inl, inr, eq-eqb, arith}
use Rattle.std.specs.List.{AllByRecursion, filter, list_any}
use Rattle.std.proofs.lemmas.Bool.{and_from, and_parts, eqb-true, false≢true, le-leb, leb-true, or_cases, or_left, or_right}
use Rattle.graph_model.specs.Lists.{has}
use Rattle.graph_model.proofs.ListLemmas.{has_cases, has_head, has_none, has_tail}
use Rattle.op_model.specs.declared.base.Dataset.{Dataset}
use Rattle.op_model.specs.declared.base.Base.{Base}
use Rattle.op_model.specs.declared.entry.Changed.{Changed}
use Rattle.op_model.specs.declared.entry.Entry.{Entry}
use Rattle.op_model.specs.Chunks.{top}
use Rattle.op_model.specs.Labels.{touches, Joined}
use Rattle.op_model.specs.Valid.{IsAscending, IsBase, IsDataset}
use Rattle.op_model.proofs.ChunkLemmas.{top_low}
use Rattle.record_rows.proofs.DifferLemmas.{all_more}
use Rattle.components.specs.Joining.{meet}
use Rattle.layer_laws.specs.Building.{least_leaf}
use Rattle.layer_laws.specs.Levels.{leaves, level}
use Rattle.layer_laws.proofs.StepLemmas.{leaves_iff, nested}
use Rattle.octree_layers.specs.Places.{place_of}
use Rattle.octree_layers.proofs.Placing.{place_at}
use Rattle.unite_laws.specs.Uniting.{is_changed, unites}
use Rattle.united_layers.specs.declared.joints.Joint.{Joint}
use Rattle.united_layers.specs.declared.joints.PlacedJoint.{PlacedJoint}
use Rattle.united_layers.specs.Representing.{AreRepresentatives, JoinRepresentatives, MeetIn}
use Rattle.united_layers.specs.Jointed.{AreJoints, IsJoint, is_joint, joint_ids, pairs_to, placed}

-- the supervoxels of a joint among others
joint_has : (l u v : ℕ) (js : List Joint) → list_any (is_joint l u v) js ≡ true → (has (joint_ids js) u ≡ true) × (has (joint_ids js) v ≡ true)
unfolding joint_ids
joint_has l u v [] h = absurd (false≢true h)
joint_has l u v (j ∷ js) h =
    elim (or_cases (is_joint l u v j) _ h) [
      | inl q ↦ (
          let p = and_parts (eqb j.layer l) _ q in
          let r = and_parts (eqb j.a u) _ p.1 in (
            subst (λ x. has (j.a ∷ j.b ∷ joint_ids js) x ≡ true) (eqb-true j.a u r.0) (has_head j.a (j.b ∷ joint_ids js)),
            subst (λ x. has (j.a ∷ j.b ∷ joint_ids js) x ≡ true) (eqb-true j.b v r.1) (has_tail j.a (j.b ∷ joint_ids js) j.b (has_head j.b (joint_ids js))),
          ))
      | inr g ↦ (
          let m = joint_has l u v js g in (
            has_tail j.a (j.b ∷ joint_ids js) u (has_tail j.b (joint_ids js) u m.0),
            has_tail j.a (j.b ∷ joint_ids js) v (has_tail j.b (joint_ids js) v m.1),
          ))
    ]

-- what holds of both supervoxels of each joint holds of all of them
both_hold : (P : ℕ → Type 0) (js : List Joint) → AllByRecursion (λ (j : Joint). P j.a × P j.b) js → (v : ℕ) → has (joint_ids js) v ≡ true → P v
unfolding joint_ids
both_hold P [] a v h = has_none v h
both_hold P (j ∷ js) a v h =
    elim (has_cases j.a (j.b ∷ joint_ids js) v h) [
      | inl q ↦ subst P q a.0.0
      | inr g ↦ elim (has_cases j.b (joint_ids js) v g) [ inl q ↦ subst P q a.0.1 | inr k ↦ both_hold P js a.1 v k ]
    ]

-- a joint of a layer up to this one is among the pairs
pair_there : (ids : List ℕ) (layer l u v : ℕ) → l ≤ layer → (js : List Joint) → list_any (is_joint l u v) js ≡ true → meet (pairs_to layer (map (placed ids) js)) (place_of ids u) (place_of ids v) ≡ true
unfolding pairs_to meet
pair_there ids layer l u v le [] h = absurd (false≢true h)
pair_there ids layer l u v le (j ∷ js) h = elim (or_cases (is_joint l u v j) _ h) [ inl q ↦ here q | inr g ↦ later (leb j.layer layer) (pair_there ids layer l u v le js g) ]
  where
    rest : List (ℕ × ℕ)
    rest = pairs_to layer (map (placed ids) js)

    here : is_joint l u v j ≡ true → meet (pairs_to layer (map (placed ids) (j ∷ js))) (place_of ids u) (place_of ids v) ≡ true
    here q =
        let p = and_parts (eqb j.layer l) _ q in
        let r = and_parts (eqb j.a u) _ p.1 in
        let el : j.layer ≡ l = eqb-true j.layer l p.0 in
        let ea : j.a ≡ u = eqb-true j.a u r.0 in
        let eb : j.b ≡ v = eqb-true j.b v r.1 in
        let low : leb j.layer layer ≡ true = le-leb j.layer layer (omega (arith, el, le)) in
        let both : (eqb (place_of ids j.a) (place_of ids u) && eqb (place_of ids j.b) (place_of ids v)) ≡ true =
        and_from _ _ (eq-eqb (place_of ids j.a) (place_of ids u) (ap (place_of ids) ea)) (eq-eqb (place_of ids j.b) (place_of ids v) (ap (place_of ids) eb)) in
        first (leb j.layer layer) low both
      where
        first : (t : Bool) → t ≡ true → (eqb (place_of ids j.a) (place_of ids u) && eqb (place_of ids j.b) (place_of ids v)) ≡ true
            → meet (map (λ (x : PlacedJoint). (x.a, x.b)) (cond t (placed ids j ∷ filter (λ (x : PlacedJoint). leb x.layer layer) (map (placed ids) js)) (filter (λ (x : PlacedJoint). leb x.layer layer) (map (placed ids) js)))) (place_of ids u) (place_of ids v) ≡ true
        first true e both = or_left _ _ (or_left _ _ both)
        first false e both = absurd (false≢true e)

    later : (t : Bool) → meet (pairs_to layer (map (placed ids) js)) (place_of ids u) (place_of ids v) ≡ true
        → meet (map (λ (x : PlacedJoint). (x.a, x.b)) (cond t (placed ids j ∷ filter (λ (x : PlacedJoint). leb x.layer layer) (map (placed ids) js)) (filter (λ (x : PlacedJoint). leb x.layer layer) (map (placed ids) js)))) (place_of ids u) (place_of ids v) ≡ true
    later true m = or_right _ _ m
    later false m = m

-- what holds of each joint of such a layer holds of its pair
pairs_hold : (P : ℕ × ℕ → Type 0) (ids : List ℕ) (layer : ℕ) (js : List Joint) → AllByRecursion (λ (j : Joint). j.layer ≤ layer → P (place_of ids j.a, place_of ids j.b)) js → AllByRecursion P (pairs_to layer (map (placed ids) js))
unfolding pairs_to
pairs_hold P ids layer [] a = tt
pairs_hold P ids layer (j ∷ js) a = go (leb j.layer layer) refl (pairs_hold P ids layer js a.1)
  where
    go : (t : Bool) → leb j.layer layer ≡ t → AllByRecursion P (pairs_to layer (map (placed ids) js))
        → AllByRecursion P (map (λ (x : PlacedJoint). (x.a, x.b)) (cond t (placed ids j ∷ filter (λ (x : PlacedJoint). leb x.layer layer) (map (placed ids) js)) (filter (λ (x : PlacedJoint). leb x.layer layer) (map (placed ids) js))))
    go true e ih = (a.0 (leb-true j.layer layer e), ih)
    go false e ih = ih

module _ (d : Dataset) (b : Base) (valid : IsDataset d) (base : IsBase d b) (changed : List Changed) (log : List Entry) (joints : List Joint) (are : AreJoints d b changed log joints)
    (ids : List ℕ) (up : IsAscending ids) (same : (v : ℕ) → has ids v ≡ has (joint_ids joints) v) where
  -- what is united in a layer is so in each one above it
  unites_up : (l m u v : ℕ) → 2 ≤ l → l ≤ m → m ≤ top d → unites d b changed log l u v ≡ true → unites d b changed log m u v ≡ true
  unfolding unites
  unites_up l m u v two le high h =
      elim (or_cases (has (leaves d b log l u) v) _ h) [
        | inl k ↦ (
            let more : l + (m - l) ≡ m = omega (arith, le) in
            let low : l + (m - l) < 2 ^ 8 = (let q = top_low d in omega (arith, q, high, le)) in
            or_left _ _ ((leaves_iff d b valid.layout log m u v (omega (arith, two, le))).1
            (subst (λ x. Joined d b log x u v) more (nested d b valid.layout log l (m - l) u v (omega (arith, two)) low ((leaves_iff d b valid.layout log l u v two).0 k)))))
        | inr k ↦ (
            let p = and_parts (is_changed changed u v) _ k in
            let q = leb-true (level d u v) l p.1 in
            or_right _ _ (and_from _ _ p.0 (le-leb (level d u v) m (omega (arith, q, le)))))
      ]

  ids_have : (v : ℕ) → has (joint_ids joints) v ≡ true → has ids v ≡ true
  ids_have v h = same v ∙ h

  pub representatives : AreRepresentatives d b changed log ids
  representatives = record {
    ascending = up;
    known = λ v h. both_hold (λ x. has b.supervoxels x ≡ true) joints (all_more (IsJoint d b changed log) (λ (j : Joint). (has b.supervoxels j.a ≡ true) × (has b.supervoxels j.b ≡ true)) joints (λ j i. (i.known_a, i.known_b)) are.given) v (sym (same v) ∙ h);
    own = λ v h. both_hold (λ x. (layer : ℕ) → 1 ≤ layer → layer ≤ top d → touches changed (leaves d b log layer x) ≡ false → least_leaf d b log layer x ≡ x) joints
        (all_more (IsJoint d b changed log) _ joints (λ j i. (i.own_a, i.own_b)) are.given) v (sym (same v) ∙ h);
    children = λ layer v two high hv t.
        ids_have (least_leaf d b log (layer - 1) v) (joint_has layer (least_leaf d b log layer v) (least_leaf d b log (layer - 1) v) joints (are.nodes layer v two high hv t)).1;
  }

  at_place : (v : ℕ) → has (joint_ids joints) v ≡ true → (place_of ids v < length ids) × (get_or ids (place_of ids v) 0 ≡ v)
  at_place v h = place_at ids v (ids_have v h)

  abbrev pairs : ℕ → List (ℕ × ℕ)
  pairs layer = pairs_to layer (map (placed ids) joints)

  met_in : (layer l u v : ℕ) → l ≤ layer → list_any (is_joint l u v) joints ≡ true → MeetIn ids (pairs_to layer (map (placed ids) joints)) u v
  met_in layer l u v le h =
      let m = joint_has l u v joints h in
      let p = at_place u m.0 in
      let q = at_place v m.1 in
      (place_of ids u, place_of ids v, p.0, q.0, p.1, q.1, pair_there ids layer l u v le joints h)

  -- each joint with both its supervoxels in the list
  inside : (js : List Joint) → AllByRecursion (IsJoint d b changed log) js → ((v : ℕ) → has (joint_ids js) v ≡ true → has (joint_ids joints) v ≡ true)
      → AllByRecursion (λ (j : Joint). IsJoint d b changed log j × (has (joint_ids joints) j.a ≡ true) × (has (joint_ids joints) j.b ≡ true)) js
  unfolding joint_ids
  inside [] a f = tt
  inside (j ∷ js) a f = (
    (a.0, f j.a (has_head j.a (j.b ∷ joint_ids js)), f j.b (has_tail j.a (j.b ∷ joint_ids js) j.b (has_head j.b (joint_ids js)))),
    inside js a.1 (λ v h. f v (has_tail j.a (j.b ∷ joint_ids js) v (has_tail j.b (joint_ids js) v h))),
  )

  pub join_them : (layer : ℕ) → layer ≤ top d → JoinRepresentatives d b changed log ids layer (pairs_to layer (map (placed ids) joints))
  join_them layer high = record {
    given = pairs_hold (λ p. (p.0 < length ids) × (p.1 < length ids) × (unites d b changed log layer (get_or ids p.0 0) (get_or ids p.1 0) ≡ true)) ids layer joints
        (all_more _ _ joints (λ j i le.
        let p = at_place j.a i.1 in
        let q = at_place j.b i.2 in
        let u = unites_up j.layer layer j.a j.b i.0.high le high i.0.united in (
          p.0,
          q.0,
          subst (λ x. unites d b changed log layer x (get_or ids (place_of ids j.b) 0) ≡ true) (sym p.1) (subst (λ y. unites d b changed log layer j.a y ≡ true) (sym q.1) u),
        ))
        (inside joints are.given (λ v h. h)));
    nodes = λ l v two le hv t. met_in layer l (least_leaf d b log l v) (least_leaf d b log (l - 1) v) le (are.nodes l v two (omega (arith, le, high)) hv t);
    all = all_more (λ (c : Changed). list_any (is_joint (level d c.pair.a c.pair.b) c.pair.a c.pair.b) joints ≡ true) _ changed (λ c h le. met_in layer (level d c.pair.a c.pair.b) c.pair.a c.pair.b le h) are.pairs;
  }
