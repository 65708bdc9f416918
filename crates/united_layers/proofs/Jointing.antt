-- The joints of retired nodes and of changed pairs, and what they tell of the list of their supervoxels.
use Rattle.std.proofs.Common.{◌≡◌, ◌∙◌, ℕ, ◌+◌, ◌-◌, ◌^◌, ◌<◌, ◌≤◌, Bool, true, ◌&&◌, eqb, leb, List, [], ◌∷◌, ◌++◌, map, Some, refl, sym, ap, subst, inl, inr, eq-eqb, arith}
use Rattle.std.specs.List.{AllByRecursion, flat_map, list_any, slice_get}
use Rattle.std.proofs.lemmas.Bool.{and_from, and_parts, cases_lt, eqb-true, false≢true, le-leb, or_cases, or_left, or_right}
use Rattle.node_ids.specs.Ids.{parts_of}
use Rattle.chunk_geometry.proofs.LayerLemmas.{top_low as two_low}
use Rattle.graph_model.specs.Lists.{has, head_or}
use Rattle.graph_model.proofs.ListLemmas.{has_cases, has_head, has_none, has_tail, head_same}
use Rattle.op_model.specs.declared.base.Dataset.{Dataset}
use Rattle.op_model.specs.declared.base.Base.{Base}
use Rattle.op_model.specs.declared.entry.Changed.{Changed}
use Rattle.op_model.specs.declared.entry.Entry.{Entry}
use Rattle.op_model.specs.Chunks.{layers, layers_from, top}
use Rattle.op_model.specs.Edges.{joins}
use Rattle.op_model.specs.Labels.{node, touches, Joined}
use Rattle.op_model.specs.Legal.{Legal}
use Rattle.op_model.specs.Operations.{ends}
use Rattle.op_model.specs.Valid.{IsBase, IsDataset}
use Rattle.op_model.proofs.ChunkLemmas.{top_low}
use Rattle.op_model.proofs.LegalLemmas.{all_has}
use Rattle.record_rows.specs.Rows.{Row, NodeRow, Node}
use Rattle.record_rows.specs.LogRows.{children_of, rows_of}
use Rattle.record_rows.specs.Versions.{child_at}
use Rattle.record_rows.specs.Walks.{children_in}
use Rattle.record_rows.proofs.DifferLemmas.{all_append, all_flat, all_map, all_more}
use Rattle.record_rows.proofs.LinkLemmas.{children_all, layer_down}
use Rattle.record_rows.proofs.OnceLemmas.{layers_from_differ}
use Rattle.record_rows.proofs.PrefixNodes.{layer_has}
use Rattle.record_rows.proofs.RowFacts.{any_left, any_right}
use Rattle.layer_laws.specs.Building.{least_leaf}
use Rattle.layer_laws.specs.Levels.{leaves, level}
use Rattle.layer_laws.proofs.BuildLemmas.{leaf_in, leaf_least, leaf_same, same_leaves_of}
use Rattle.layer_laws.proofs.LevelLemmas.{level_bounds}
use Rattle.layer_laws.proofs.RemakeLemmas.{ends_touch, touches_end, touches_more}
use Rattle.layer_laws.proofs.StepLemmas.{joined_known, joined_trans, leaves_above, leaves_iff, leaves_node, leaves_one, leaves_self, leaves_sym, nested}
use Rattle.node_reader.specs.Spreads.{id_leaves}
use Rattle.node_reader.proofs.LeafMeaning.{node_id_layer}
use Rattle.entry_rows.specs.Retiring.{AreOnPaths}
use Rattle.unite_laws.specs.Uniting.{is_changed, unites}
use Rattle.united_layers.specs.declared.joints.Joint.{Joint}
use Rattle.united_layers.specs.Representing.{IsOwn}
use Rattle.united_layers.specs.Jointed.{AreJoints, IsJoint, all_joints, is_joint, node_joint, pair_joint, place_joints}
use Rattle.united_layers.proofs.Gathering.{place_is}
use Rattle.united_layers.proofs.Kids.{child_leaves, children_into, kids_now}

-- some member of a list passes a test that one does
pub any_map : {X Y : Type 0} (f : X → Y) (test : Y → Bool) (xs : List X) → list_any (λ x. test (f x)) xs ≡ true → list_any test (map f xs) ≡ true
any_map f test [] h = h
any_map f test (x ∷ xs) h = elim (or_cases (test (f x)) _ h) [ inl q ↦ or_left (test (f x)) _ q | inr g ↦ or_right (test (f x)) _ (any_map f test xs g) ]

any_has : (test : ℕ → Bool) (xs : List ℕ) (x : ℕ) → has xs x ≡ true → test x ≡ true → list_any test xs ≡ true
any_has test [] x h t = has_none x h
any_has test (y ∷ ys) x h t = elim (has_cases y ys x h) [ inl q ↦ or_left (test y) _ (ap test q ∙ t) | inr g ↦ or_right (test y) _ (any_has test ys x g t) ]

any_flat : {Y : Type 0} (f : ℕ → List Y) (test : Y → Bool) (xs : List ℕ) (x : ℕ) → has xs x ≡ true → list_any test (f x) ≡ true → list_any test (flat_map f xs) ≡ true
any_flat f test [] x h t = has_none x h
any_flat f test (y ∷ ys) x h t =
    elim (has_cases y ys x h) [
      | inl q ↦ any_left test (f y) (flat_map f ys) (subst (λ k. list_any test (f k) ≡ true) (sym q) t)
      | inr g ↦ any_right test (f y) (flat_map f ys) (any_flat f test ys x g t)
    ]

pub any_find : {X : Type 0} (P : X → Type 0) (test : X → Bool) (xs : List X) → AllByRecursion P xs → list_any test xs ≡ true → (x : X) × P x × (test x ≡ true)
any_find P test [] a h = absurd (false≢true h)
any_find P test (x ∷ xs) a h = elim (or_cases (test x) _ h) [ inl q ↦ (x, a.0, q) | inr g ↦ any_find P test xs a.1 g ]

joint_is : (layer u v : ℕ) (j : Joint) → is_joint layer u v j ≡ true → (j.layer ≡ layer) × (j.a ≡ u) × (j.b ≡ v)
joint_is layer u v j h =
    let p = and_parts (eqb j.layer layer) _ h in
    let q = and_parts (eqb j.a u) _ p.1 in
    (eqb-true j.layer layer p.0, eqb-true j.a u q.0, eqb-true j.b v q.1)

is_the_joint : (layer u v : ℕ) (j : Joint) → j.layer ≡ layer → j.a ≡ u → j.b ≡ v → is_joint layer u v j ≡ true
is_the_joint layer u v j l a b = and_from _ _ (eq-eqb j.layer layer l) (and_from _ _ (eq-eqb j.a u a) (eq-eqb j.b v b))

same_changed : (cs : List Changed) (c : Changed) → list_any (λ x. joins x.pair c.pair.a c.pair.b) (c ∷ cs) ≡ true
unfolding joins
same_changed cs c = or_left _ _ (or_left _ _ (and_from _ _ (eq-eqb c.pair.a c.pair.a refl) (eq-eqb c.pair.b c.pair.b refl)))

module _ (d : Dataset) (b : Base) (valid : IsDataset d) (base : IsBase d b) (changed : List Changed) (log : List Entry) (ends_are : (x : ℕ) → has (ends changed) x ≡ true → has b.supervoxels x ≡ true) where
  below_top : (l : ℕ) → l ≤ top d → l < 2 ^ 8
  below_top l h = let q = top_low d in omega (arith, q, h)

  -- a leaf of a node is one of each node above it
  leaves_up : (l m u v : ℕ) → 1 ≤ l → l ≤ m → m ≤ top d → has b.supervoxels u ≡ true → has (leaves d b log l u) v ≡ true → has (leaves d b log m u) v ≡ true
  leaves_up l m u v one le high hu h = elim (cases_lt 1 l) [
    | inl two ↦ (
        let more : l + (m - l) ≡ m = omega (arith, le) in
        let low : l + (m - l) < 2 ^ 8 = (let q = below_top m high in omega (arith, q, le)) in
        (leaves_iff d b valid.layout log m u v (omega (arith, two, le))).1
        (subst (λ k. Joined d b log k u v) more (nested d b valid.layout log l (m - l) u v one low ((leaves_iff d b valid.layout log l u v (omega (arith, two))).0 h))))
    | inr z ↦ (
        let q : u ≡ v = single u v (subst (λ ls. has ls v ≡ true) (leaves_one d b valid.layout log l u (omega (arith, z))) h) in
        subst (λ x. has (leaves d b log m u) x ≡ true) q (leaves_self d b valid.layout log m u hu))
  ]
    where
      single : (u v : ℕ) → has (u ∷ []) v ≡ true → u ≡ v
      single u v x = elim (has_cases u [] v x) [ inl q ↦ q | inr g ↦ has_none v g ]

  end_touches : (x : ℕ) (xs : List ℕ) → has (ends changed) x ≡ true → has xs x ≡ true → touches changed xs ≡ true
  end_touches x xs h k = touches_more changed (x ∷ []) xs (λ y g. elim (has_cases x [] y g) [ inl q ↦ subst (λ z. has xs z ≡ true) q k | inr n ↦ has_none y n ]) (sym (ends_touch changed x) ∙ h)

  -- The least leaf of a node is that of each of its nodes below. So it is a representative if an end is in all those above.
  own_of : (l s w x : ℕ) → 1 ≤ l → l ≤ top d → has b.supervoxels w ≡ true → s ≡ least_leaf d b log l w → has (ends changed) x ≡ true
      → ((m : ℕ) → l < m → m ≤ top d → has (leaves d b log m s) x ≡ true) → IsOwn d b changed log s
  own_of l s w x one high hw q hx up m first last t = elim (cases_lt l m) [
    | inl more ↦ absurd (false≢true (sym t ∙ end_touches x (leaves d b log m s) hx (up m more last)))
    | inr le ↦ (
        let in_w : has (leaves d b log l w) s ≡ true = subst (λ y. has (leaves d b log l w) y ≡ true) (sym q) (leaf_in d b valid.layout base.ascending log l w hw) in
        let hs : has b.supervoxels s ≡ true = leaf_known l w s one hw in_w in
        let y : ℕ = least_leaf d b log m s in
        let in_s : has (leaves d b log m s) y ≡ true = leaf_in d b valid.layout base.ascending log m s hs in
        let over : has (leaves d b log l s) y ≡ true = leaves_up m l s y first le high hs in_s in
        let same = same_leaves_of d b valid.layout base.ascending log l w s in_w in
        let low : s ≤ y = subst (λ z. z ≤ y) (sym q) (leaf_least d b valid.layout base.ascending log l w y (subst (λ ls. has ls y ≡ true) (sym same) over)) in
        let high_y : y ≤ s = leaf_least d b valid.layout base.ascending log m s s (leaves_self d b valid.layout log m s hs) in
        both y s high_y low)
  ]
    where
      both : (x y : ℕ) → x ≤ y → y ≤ x → x ≡ y
      both x y p q = omega arith

      leaf_known : (l w s : ℕ) → 1 ≤ l → has b.supervoxels w ≡ true → has (leaves d b log l w) s ≡ true → has b.supervoxels s ≡ true
      leaf_known l w s one hw h = elim (cases_lt 1 l) [
        | inl two ↦ (joined_known d b valid.layout log l w s ((leaves_iff d b valid.layout log l w s (omega (arith, two))).0 h)).1
        | inr z ↦ elim (has_cases w [] s (subst (λ ls. has ls s ≡ true) (leaves_one d b valid.layout log l w (omega (arith, z))) h)) [ inl q ↦ subst (λ y. has b.supervoxels y ≡ true) q hw | inr g ↦ has_none s g ]
      ]

  -- an end is a representative
  end_own : (x : ℕ) → has (ends changed) x ≡ true → IsOwn d b changed log x
  unfolding least_leaf top head_or
  end_own x hx =
      own_of 1 x x x (omega arith) (let t = two_low d.grid in omega (arith, t)) (ends_are x hx) (sym (ap (head_or x) (leaves_one d b valid.layout log 1 x (omega arith)))) hx
      (λ m more last. leaves_self d b valid.layout log m x (ends_are x hx))

  -- the joint of a node that holds an end with a child, the one that holds w
  node_is : (l x w : ℕ) → 2 ≤ l → l ≤ top d → has (ends changed) x ≡ true → has (leaves d b log l x) w ≡ true
      → IsJoint d b changed log (record { layer = l; a = least_leaf d b log l x; b = least_leaf d b log (l - 1) w })
  unfolding unites
  node_is l x w two high hx hw =
      let hk : has b.supervoxels x ≡ true = ends_are x hx in
      let low = below_top l high in
      let wk : has b.supervoxels w ≡ true = (joined_known d b valid.layout log l x w ((leaves_iff d b valid.layout log l x w two).0 hw)).1 in
      let a : ℕ = least_leaf d b log l x in
      let c : ℕ = least_leaf d b log (l - 1) w in
      let in_a : has (leaves d b log l x) a ≡ true = leaf_in d b valid.layout base.ascending log l x hk in
      let ak : has b.supervoxels a ≡ true = (joined_known d b valid.layout log l x a ((leaves_iff d b valid.layout log l x a two).0 in_a)).1 in
      let in_c : has (leaves d b log (l - 1) w) c ≡ true = leaf_in d b valid.layout base.ascending log (l - 1) w wk in
      let w_c : Joined d b log l w c = leaves_above d b valid.layout log l w c two low wk in_c in
      let x_c : has (leaves d b log l x) c ≡ true =
      (leaves_iff d b valid.layout log l x c two).1 (joined_trans d b valid.layout log l x w c ((leaves_iff d b valid.layout log l x w two).0 hw) w_c) in
      let ck : has b.supervoxels c ≡ true = (joined_known d b valid.layout log l x c ((leaves_iff d b valid.layout log l x c two).0 x_c)).1 in
      let a_c : has (leaves d b log l a) c ≡ true = subst (λ ls. has ls c ≡ true) (same_leaves_of d b valid.layout base.ascending log l x a in_a) x_c in
      record {
        high = two;
        known_a = ak;
        known_b = ck;
        united = or_left (has (leaves d b log l a) c) (is_changed changed a c && leb (level d a c) l) a_c;
        own_a = own_of l a x x (omega (arith, two)) high hk refl hx (λ m more last. leaves_up l m a x (omega (arith, two)) (omega (arith, more)) last ak (leaves_sym d b valid.layout log l x a hk in_a));
        own_b = own_of (l - 1) c w x (omega (arith, two)) (omega (arith, high)) wk refl hx
            (λ m more last. leaves_up l m c x (omega (arith, two)) (omega (arith, more, two)) last ck (leaves_sym d b valid.layout log l x c hk x_c));
      }

  -- that of a changed pair
  pair_is : (c : Changed) → is_changed changed c.pair.a c.pair.b ≡ true → has (ends changed) c.pair.a ≡ true → has (ends changed) c.pair.b ≡ true → IsJoint d b changed log (pair_joint d c)
  unfolding unites
  pair_is c h ha hb =
      let m = level_bounds d valid.layout c.pair.a c.pair.b in
      record {
        high = m.0;
        known_a = ends_are c.pair.a ha;
        known_b = ends_are c.pair.b hb;
        united = or_right (has (leaves d b log (level d c.pair.a c.pair.b) c.pair.a) c.pair.b) _ (and_from _ _ h (le-leb (level d c.pair.a c.pair.b) (level d c.pair.a c.pair.b) (omega arith)));
        own_a = end_own c.pair.a ha;
        own_b = end_own c.pair.b hb;
      }

  pairs_are : (cs : List Changed) → ((u v : ℕ) → is_changed cs u v ≡ true → is_changed changed u v ≡ true) → ((x : ℕ) → has (ends cs) x ≡ true → has (ends changed) x ≡ true) → AllByRecursion (λ c. IsJoint d b changed log (pair_joint d c)) cs
  unfolding ends is_changed
  pairs_are [] f g = tt
  pairs_are (c ∷ cs) f g = (
    pair_is c (f c.pair.a c.pair.b (same_changed cs c)) (g c.pair.a (has_head c.pair.a (c.pair.b ∷ ends cs))) (g c.pair.b (has_tail c.pair.a (c.pair.b ∷ ends cs) c.pair.b (has_head c.pair.b (ends cs)))),
    pairs_are cs (λ u v h. f u v (or_right _ _ h)) (λ x h. g x (has_tail c.pair.a (c.pair.b ∷ ends cs) x (has_tail c.pair.b (ends cs) x h))),
  )

  pairs_there : (cs : List Changed) (before : List Joint) → AllByRecursion (λ c. list_any (is_joint (level d c.pair.a c.pair.b) c.pair.a c.pair.b) (before ++ map (pair_joint d) cs) ≡ true) cs
  pairs_there cs before =
      all_more (λ c. list_any (is_joint (level d c.pair.a c.pair.b) c.pair.a c.pair.b) (map (pair_joint d) cs) ≡ true)
      (λ c. list_any (is_joint (level d c.pair.a c.pair.b) c.pair.a c.pair.b) (before ++ map (pair_joint d) cs) ≡ true) cs
      (λ c h. any_right (is_joint (level d c.pair.a c.pair.b) c.pair.a c.pair.b) before (map (pair_joint d) cs) h) (own cs)
    where
      own : (cs : List Changed) → AllByRecursion (λ c. list_any (is_joint (level d c.pair.a c.pair.b) c.pair.a c.pair.b) (map (pair_joint d) cs) ≡ true) cs
      own [] = tt
      own (c ∷ cs) = (
        or_left _ _ (is_the_joint (level d c.pair.a c.pair.b) c.pair.a c.pair.b (pair_joint d c) refl refl refl),
        all_more (λ x. list_any (is_joint (level d x.pair.a x.pair.b) x.pair.a x.pair.b) (map (pair_joint d) cs) ≡ true)
            (λ x. list_any (is_joint (level d x.pair.a x.pair.b) x.pair.a x.pair.b) (pair_joint d c ∷ map (pair_joint d) cs) ≡ true) cs (λ x h. or_right _ _ h) (own cs),
      )

-- what the records of the retired nodes give
module _ (d : Dataset) (b : Base) (valid : IsDataset d) (base : IsBase d b) (e f : Entry) (older : List Entry) (legal : Legal d b (f ∷ older)) (places : List ℕ) (on_paths : AreOnPaths d b (f ∷ older) e places) where
  abbrev log : List Entry
  log = f ∷ older

  abbrev rows : List Row
  rows = rows_of d b (f ∷ older)

  -- a child's joint, by its least leaf and that of the node
  child_joint : (p : ℕ) (n : Node) → slice_get (rows_of d b (f ∷ older)) p ≡ Some (NodeRow n) → (l x w : ℕ) → has (layers d) l ≡ true → has b.supervoxels x ≡ true → n.id ≡ node d b (f ∷ older) l x → has (leaves d b (f ∷ older) l x) w ≡ true
      → node_joint d (rows_of d b (f ∷ older)) n (child_at d b (f ∷ older) l w) ≡ record { layer = l; a = least_leaf d b (f ∷ older) l x; b = least_leaf d b (f ∷ older) (l - 1) w }
  unfolding least_leaf
  child_joint p n h l x w hl hx q hw =
      let two = (layer_down d l hl).0 in
      let kids = kids_now d b valid base f older legal p n h l x hl hx q in
      let wk = (joined_known d b valid.layout (f ∷ older) l x w ((leaves_iff d b valid.layout (f ∷ older) l x w two).0 hw)).1 in
      let el : (parts_of d.layout n.id).layer ≡ l = ap (λ i. (parts_of d.layout i).layer) q ∙ node_id_layer d b valid base f older legal l x hl hx in
      let told : n.leaves ≡ leaves d b (f ∷ older) l x = kids.0 ∙ sym (leaves_node d b valid.layout (f ∷ older) l x two) in
      let ea : head_or 0 n.leaves ≡ head_or x (leaves d b (f ∷ older) l x) = ap (head_or 0) told ∙ head_same 0 x (leaves d b (f ∷ older) l x) x (leaves_self d b valid.layout (f ∷ older) l x hx) in
      let eb : head_or 0 (id_leaves (rows_of d b (f ∷ older)) (child_at d b (f ∷ older) l w)) ≡ head_or w (leaves d b (f ∷ older) (l - 1) w) =
      ap (head_or 0) (child_leaves d b valid base f older legal l w hl wk) ∙ head_same 0 w (leaves d b (f ∷ older) (l - 1) w) w (leaves_self d b valid.layout (f ∷ older) (l - 1) w wk) in
      λ i. record { layer = el i; a = ea i; b = eb i }

  high_layer : (l : ℕ) → has (layers d) l ≡ true → l ≤ top d
  unfolding layers top
  high_layer l h =
      let q = all_has (λ k. (2 ≤ k) × (k < 2 + (top d - 1))) (layers_from 2 (top d - 1)) l (layers_from_differ 2 (top d - 1)).0 h in
      let m = two_low d.grid in
      let z = q.1 in
      omega (arith, z, m)

  node_joints_are : (p : ℕ) → has places p ≡ true → AllByRecursion (IsJoint d b e.changed (f ∷ older)) (place_joints d (rows_of d b (f ∷ older)) p)
  node_joints_are p h =
      let g = on_paths.given p h in
      let l : ℕ = g.0 in
      let x : ℕ = g.1 in
      let n : Node = g.2 in
      let hx : has b.supervoxels x ≡ true = on_paths.known x g.4 in
      let two = (layer_down d l g.3).0 in
      let kids = kids_now d b valid base f older legal p n g.5 l x g.3 hx g.6 in
      subst (AllByRecursion (IsJoint d b e.changed (f ∷ older))) (sym (place_is d (rows_of d b (f ∷ older)) p n g.5))
      (all_map (node_joint d (rows_of d b (f ∷ older)) n) (IsJoint d b e.changed (f ∷ older)) (children_in (rows_of d b (f ∷ older)) n.id)
      (subst (AllByRecursion (λ c. IsJoint d b e.changed (f ∷ older) (node_joint d (rows_of d b (f ∷ older)) n c))) (sym kids.1)
      (all_more (λ c. (u : ℕ) × (has n.leaves u ≡ true) × (c ≡ child_at d b (f ∷ older) l u)) (λ c. IsJoint d b e.changed (f ∷ older) (node_joint d (rows_of d b (f ∷ older)) n c)) (children_of d b (f ∷ older) l n.leaves)
      (λ c q.
      let hw : has (leaves d b (f ∷ older) l x) q.0 ≡ true = subst (λ ls. has ls q.0 ≡ true) (kids.0 ∙ sym (leaves_node d b valid.layout (f ∷ older) l x two)) q.1 in
      subst (λ y. IsJoint d b e.changed (f ∷ older) (node_joint d (rows_of d b (f ∷ older)) n y)) (sym q.2)
      (subst (IsJoint d b e.changed (f ∷ older)) (sym (child_joint p n g.5 l x q.0 g.3 hx g.6 hw))
      (node_is d b valid base e.changed (f ∷ older) on_paths.known l x q.0 two (high_layer l g.3) g.4 hw)))
      (children_all d b valid base (f ∷ older) l n.leaves))))

  node_there : (l v : ℕ) → 2 ≤ l → l ≤ top d → has b.supervoxels v ≡ true → touches e.changed (leaves d b (f ∷ older) l v) ≡ true
      → list_any (is_joint l (least_leaf d b (f ∷ older) l v) (least_leaf d b (f ∷ older) (l - 1) v)) (flat_map (place_joints d (rows_of d b (f ∷ older))) places) ≡ true
  node_there l v two high hv t =
      let s = touches_end e.changed (leaves d b (f ∷ older) l v) t in
      let x : ℕ = s.0 in
      let hx : has (ends e.changed) x ≡ true = ends_touch e.changed x ∙ s.2 in
      let xk : has b.supervoxels x ≡ true = on_paths.known x hx in
      let hl = layer_has d l two high in
      let g = on_paths.all l x hl hx in
      let p : ℕ = g.0 in
      let n : Node = g.1 in
      let x_v : has (leaves d b (f ∷ older) l x) v ≡ true = leaves_sym d b valid.layout (f ∷ older) l v x hv s.1 in
      let kids = kids_now d b valid base f older legal p n g.3 l x hl xk g.4 in
      let in_n : has n.leaves v ≡ true = subst (λ ls. has ls v ≡ true) (sym (kids.0 ∙ sym (leaves_node d b valid.layout (f ∷ older) l x two))) x_v in
      let test : Joint → Bool = is_joint l (least_leaf d b (f ∷ older) l v) (least_leaf d b (f ∷ older) (l - 1) v) in
      let one : test (node_joint d (rows_of d b (f ∷ older)) n (child_at d b (f ∷ older) l v)) ≡ true =
      subst (λ j. test j ≡ true) (sym (child_joint p n g.3 l x v hl xk g.4 x_v))
      (is_the_joint l (least_leaf d b (f ∷ older) l v) (least_leaf d b (f ∷ older) (l - 1) v) (record { layer = l; a = least_leaf d b (f ∷ older) l x; b = least_leaf d b (f ∷ older) (l - 1) v })
      refl (sym (leaf_same d b valid.layout base.ascending (f ∷ older) l v x xk s.1)) refl) in
      any_flat (place_joints d (rows_of d b (f ∷ older))) test places p g.2
      (subst (λ js. list_any test js ≡ true) (sym (place_is d (rows_of d b (f ∷ older)) p n g.3))
      (any_map (node_joint d (rows_of d b (f ∷ older)) n) test (children_in (rows_of d b (f ∷ older)) n.id)
      (any_has (λ c. test (node_joint d (rows_of d b (f ∷ older)) n c)) (children_in (rows_of d b (f ∷ older)) n.id) (child_at d b (f ∷ older) l v)
      (subst (λ cs. has cs (child_at d b (f ∷ older) l v) ≡ true) (sym kids.1) (children_into d b (f ∷ older) l v n.leaves in_n)) one)))

  all_places : (ps : List ℕ) → ((p : ℕ) → has ps p ≡ true → has places p ≡ true) → AllByRecursion (λ p. AllByRecursion (IsJoint d b e.changed (f ∷ older)) (place_joints d (rows_of d b (f ∷ older)) p)) ps
  all_places [] h = tt
  all_places (p ∷ ps) h = (node_joints_are p (h p (has_head p ps)), all_places ps (λ q k. h q (has_tail p ps q k)))

  pub joints_are : AreJoints d b e.changed (f ∷ older) (all_joints d (rows_of d b (f ∷ older)) places e.changed)
  joints_are = record {
    given = all_append (IsJoint d b e.changed (f ∷ older)) (flat_map (place_joints d (rows_of d b (f ∷ older))) places) (map (pair_joint d) e.changed)
        (all_flat (place_joints d (rows_of d b (f ∷ older))) (IsJoint d b e.changed (f ∷ older)) places (all_places places (λ p h. h)))
        (all_map (pair_joint d) (IsJoint d b e.changed (f ∷ older)) e.changed (pairs_are d b valid base e.changed (f ∷ older) on_paths.known e.changed (λ u v h. h) (λ x h. h)));
    nodes = λ l v two high hv t. any_left _ (flat_map (place_joints d (rows_of d b (f ∷ older))) places) (map (pair_joint d) e.changed) (node_there l v two high hv t);
    pairs = pairs_there d b valid base e.changed (f ∷ older) on_paths.known e.changed (flat_map (place_joints d (rows_of d b (f ∷ older))) places);
  }
