-- The nodes that an entry makes in a layer, in the order of their records, are those of the different least leaves of the changed ends by their chunks, with each chunk's next numbers.
use Rattle.std.proofs.Common.{◌≡◌, ℕ, suc, ◌+◌, ◌<◌, ◌≤◌, Bool, true, false, ◌||◌, eqb, leb, List, [], ◌∷◌, length, map, get_or, refl, sym, ◌∙◌, ap, subst, inl, inr, arith, eq-eqb}
use Rattle.std.specs.List.{AllByRecursion, All, filter, flat_map, find}
use Rattle.std.proofs.lemmas.List.{length-map}
use Rattle.std.proofs.lemmas.List.Elements.{All-from_recursion, recursion_from_All}
use Rattle.std.proofs.lemmas.List.Sorted.{All-permutation}
use Rattle.std.proofs.lemmas.Bool.{eqb-true, or_left, or_right}
use Rattle.node_ids.specs.Ids.{segments, id_of, id_over}
use Rattle.op_model.specs.declared.base.Dataset.{Dataset}
use Rattle.op_model.specs.declared.base.Base.{Base}
use Rattle.op_model.specs.declared.entry.Changed.{Changed}
use Rattle.op_model.specs.declared.entry.Entry.{Entry}
use Rattle.graph_model.specs.Lists.{has, head_or}
use Rattle.op_model.specs.Chunks.{chunk, members, top}
use Rattle.op_model.specs.Ingest.{spent_in}
use Rattle.op_model.specs.Labels.{is_empty, is_new, touches, component, least, new_among, used, label, node}
use Rattle.op_model.specs.Legal.{Legal}
use Rattle.op_model.specs.Operations.{ends}
use Rattle.op_model.specs.Valid.{IsAscending, IsSupervoxel}
use Rattle.graph_model.proofs.ListLemmas.{filter_has, filter_only, has_head, has_tail, has_cases, has_none, head_same}
use Rattle.op_model.proofs.LegalLemmas.{all_has, ascending_has, map_has}
use Rattle.op_model.proofs.MadeLemmas.{map_only}
use Rattle.op_model.proofs.LabelLemmas.{in_members, members_in, own_component}
use Rattle.op_model.proofs.LocalLemmas.{touches_end}
use Rattle.record_rows.specs.LogRows.{layer_chunks, new_node, layer_nodes}
use Rattle.record_rows.proofs.DifferLemmas.{Differ, all_map, all_more, all_each, all_filter}
use Rattle.record_rows.proofs.OnceLemmas.{all_has_self, ascending_lists}
use Rattle.record_rows.proofs.LinkLemmas.{all_ascending}
use Rattle.record_rows.proofs.PrefixNodes.{layer_has}
use Rattle.layer_laws.specs.Levels.{AreFirsts, leaves}
use Rattle.layer_laws.specs.Building.{at, least_leaf}
use Rattle.layer_laws.proofs.OrderLemmas.{get_has, filter_ascending, firsts_are, label_at, used_after}
use Rattle.layer_laws.proofs.PlaceLemmas.{at_strict}
use Rattle.layer_laws.proofs.StepLemmas.{leaves_node, leaves_self}
use Rattle.layer_laws.proofs.BuildLemmas.{same_leaves_of, leaf_in, leaf_same, leaves_known, least_is}
use Rattle.octree_layers.proofs.Grouping.{flat_same, map_flat, grouped}
use Rattle.octree_layers.proofs.Leaves.{filter_of_map, map_twice}
use Rattle.entry_parts.specs.Made.{AreMadeIn, told_made, told_node}
use Rattle.made_nodes.specs.declared.owning.Owner.{Owner}
use Rattle.made_nodes.specs.Numbers.{AreByChunk, IsHeld, first_spent, numbered, owner}
use Rattle.made_nodes.specs.Layers.{IsTouched}
use Rattle.made_nodes.proofs.LastNumbers.{used_fits}
use Rattle.made_nodes.proofs.Parted.{In, up_from, num_groups, spent_groups}

-- what stands at ascending places of an ascending list ascends
places_rise : (ids : List ℕ) → IsAscending ids → (ps : List ℕ) → IsAscending ps → ((p : ℕ) → has ps p ≡ true → p < length ids) → IsAscending (map (at ids) ps)
places_rise ids up [] a small = tt
places_rise ids up (p ∷ []) a small = tt
places_rise ids up (p ∷ q ∷ ps) a small =
    (at_strict ids p q up a.0 (small q (has_tail p (q ∷ ps) q (has_head q ps))), places_rise ids up (q ∷ ps) a.1 (λ r h. small r (has_tail p (q ∷ ps) r h)))

-- a list with an end of a changed pair is touched
pub end_touches : (cs : List Changed) (vs : List ℕ) (x : ℕ) → has (ends cs) x ≡ true → has vs x ≡ true → touches cs vs ≡ true
unfolding touches ends
end_touches [] vs x h k = has_none x h
end_touches (c ∷ cs) vs x h k =
    elim (has_cases c.pair.a (c.pair.b ∷ ends cs) x h) [
      | inl e ↦ or_left (has vs c.pair.a || has vs c.pair.b) _ (or_left (has vs c.pair.a) _ (subst (λ y. has vs y ≡ true) (sym e) k))
      | inr g ↦ elim (has_cases c.pair.b (ends cs) x g) [
        | inl e ↦ or_left (has vs c.pair.a || has vs c.pair.b) _ (or_right (has vs c.pair.a) _ (subst (λ y. has vs y ≡ true) (sym e) k))
        | inr r ↦ or_right (has vs c.pair.a || has vs c.pair.b) _ (end_touches cs vs x r k)
      ]
    ]

legal_some : (d : Dataset) (b : Base) (log : List Entry) → Legal d b log → is_empty log ≡ false
unfolding is_empty
legal_some d b [] legal = absurd legal
legal_some d b (f ∷ log) legal = refl

made_new : (d : Dataset) (b : Base) (e : Entry) (log : List Entry) (layer v : ℕ) → is_empty log ≡ false → is_new d b (e ∷ log) layer v ≡ touches e.changed (component d b (e ∷ log) layer v)
unfolding is_new
made_new d b e log layer v some = ap (λ k. k || touches e.changed (component d b (e ∷ log) layer v)) some

module _ (d : Dataset) (b : Base) (log : List Entry) (e : Entry) (words ids places : List ℕ) (layer : ℕ) (firsts : List ℕ) (is : IsTouched d b log e words ids places layer firsts)
    (two : 2 ≤ layer) (high : layer ≤ top d) where
  abbrev new : List Entry
  new = e ∷ log

  sv : ℕ → ℕ
  sv i = get_or ids i 0

  here : ℕ → ℕ → Bool
  here c v = eqb (chunk d layer v) c

  known_at : (i : ℕ) → i < length ids → has b.supervoxels (get_or ids i 0) ≡ true
  known_at i l = is.known (get_or ids i 0) (get_has ids i l)

  place_low : (p : ℕ) → has places p ≡ true → p < length ids
  place_low p h = all_has (λ q. q < length ids) places p (recursion_from_All (λ q. q < length ids) places is.ends_at.small) h

  pub places_small : All (λ p. p < length firsts) places
  places_small = subst (λ n. All (λ p. p < n) places) (sym is.firsts_of.count) is.ends_at.small

  pub ids_are : All (IsSupervoxel d) ids
  ids_are =
      All-from_recursion (IsSupervoxel d) ids
      (all_more (λ v. has ids v ≡ true) (IsSupervoxel d) ids (λ v h. all_has (IsSupervoxel d) b.supervoxels v is.image.base.supervoxels (is.known v h)) (all_has_self ids))

  cs : List ℕ
  cs = layer_chunks d b layer

  chunk_known : (v : ℕ) → has b.supervoxels v ≡ true → has cs (chunk d layer v) ≡ true
  unfolding cs layer_chunks
  chunk_known v h = ascending_has (map (chunk d layer) b.supervoxels) (chunk d layer v) (map_has (chunk d layer) b.supervoxels v h)

  cs_differ : Differ (λ x y. x < y) cs
  unfolding cs layer_chunks
  cs_differ = ascending_lists (map (chunk d layer) b.supervoxels)

  chunk_some : (v : ℕ) → chunk d layer v ≡ 0 → ⊥
  unfolding chunk id_of id_over
  chunk_some v z = omega arith

  cs_some : AllByRecursion (λ c. c ≡ 0 → ⊥) cs
  unfolding cs layer_chunks
  cs_some =
      all_ascending (λ c. c ≡ 0 → ⊥) (map (chunk d layer) b.supervoxels)
      (all_map (chunk d layer) (λ c. c ≡ 0 → ⊥) b.supervoxels (all_each (λ v. chunk d layer v ≡ 0 → ⊥) b.supervoxels chunk_some))

  -- the least leaf of a changed end's node is that of a new node
  changed_least : (q : ℕ) → has places q ≡ true
      → (get_or firsts q 0 < length ids) × (has b.supervoxels (get_or ids (get_or firsts q 0) 0) ≡ true) × (least d b new layer (get_or ids (get_or firsts q 0) 0) ≡ get_or ids (get_or firsts q 0) 0)
      × (is_new d b new layer (get_or ids (get_or firsts q 0) 0) ≡ true)
  changed_least q h =
      let l : q < length ids = place_low q h in
      let v : ℕ = get_or ids q 0 in
      let x : ℕ = get_or ids (get_or firsts q 0) 0 in
      let small : get_or firsts q 0 < length ids = is.firsts_of.small q l in
      let hv : has b.supervoxels v ≡ true = known_at q l in
      let leaf : x ≡ least_leaf d b new layer v = is.firsts_of.leaf q l in
      let in_v : has (leaves d b new layer v) x ≡ true = subst (λ y. has (leaves d b new layer v) y ≡ true) (sym leaf) (leaf_in d b is.image.dataset.layout is.image.base.ascending new layer v hv) in
      let hx : has b.supervoxels x ≡ true = leaves_known d b is.image.dataset.layout is.image.base.ascending new layer v x hv in_v in
      let own : least d b new layer x ≡ x =
      least_is d b is.image.dataset.layout is.image.base.ascending new layer x two ∙ (sym (leaf_same d b is.image.dataset.layout is.image.base.ascending new layer v x hx in_v) ∙ sym leaf) in
      let has_v : has (leaves d b new layer x) v ≡ true =
      subst (λ ls. has ls v ≡ true) (same_leaves_of d b is.image.dataset.layout is.image.base.ascending new layer v x in_v) (leaves_self d b is.image.dataset.layout new layer v hv) in
      let touched : touches e.changed (leaves d b new layer x) ≡ true = end_touches e.changed (leaves d b new layer x) v ((is.ends_at.all v).1 (map_has (at ids) places q h)) has_v in
      let made : is_new d b new layer x ≡ true =
      made_new d b e log layer x (legal_some d b log is.image.legal) ∙ (ap (touches e.changed) (sym (leaves_node d b is.image.dataset.layout new layer x two)) ∙ touched) in
      (small, hx, own, made)

  -- each new node's least leaf is that of a changed end's node
  least_of_changed : (x : ℕ) → has b.supervoxels x ≡ true → least d b new layer x ≡ x → is_new d b new layer x ≡ true
      → (q : ℕ) × (has places q ≡ true) × (get_or ids (get_or firsts q 0) 0 ≡ x)
  least_of_changed x hx own made =
      let touched : touches e.changed (leaves d b new layer x) ≡ true =
      ap (touches e.changed) (leaves_node d b is.image.dataset.layout new layer x two) ∙ (sym (made_new d b e log layer x (legal_some d b log is.image.legal)) ∙ made) in
      let t = touches_end e.changed (leaves d b new layer x) touched in
      let v : ℕ = t.0 in
      let hv : has b.supervoxels v ≡ true = leaves_known d b is.image.dataset.layout is.image.base.ascending new layer x v hx t.2 in
      let m = map_only (at ids) places v ((is.ends_at.all v).0 t.1) in
      let q : ℕ = m.0 in
      let same : least_leaf d b new layer x ≡ least_leaf d b new layer v = leaf_same d b is.image.dataset.layout is.image.base.ascending new layer x v hv t.2 in
      let leaf : get_or ids (get_or firsts q 0) 0 ≡ least_leaf d b new layer (get_or ids q 0) = is.firsts_of.leaf q (place_low q m.1) in
      (q, m.1, leaf ∙ (ap (least_leaf d b new layer) m.2 ∙ (sym same ∙ (sym (least_is d b is.image.dataset.layout is.image.base.ascending new layer x two) ∙ own))))

  module _ (leasts : List ℕ) (up : IsAscending leasts) (same : (p : ℕ) → has leasts p ≡ has (map (at firsts) places) p) where
    -- the place of an end whose node has its least leaf there
    least_from : (p : ℕ) → has leasts p ≡ true → (q : ℕ) × (has places q ≡ true) × (get_or firsts q 0 ≡ p)
    least_from p h = map_only (at firsts) places p (sym (same p) ∙ h)

    least_low : (p : ℕ) → has leasts p ≡ true → p < length ids
    least_low p h = let f = least_from p h in subst (λ k. k < length ids) f.2 (changed_least f.0 f.1).0

    pub leasts_low : All (λ p. p < length ids) leasts
    leasts_low = All-from_recursion (λ p. p < length ids) leasts (all_more (λ p. has leasts p ≡ true) (λ p. p < length ids) leasts least_low (all_has_self leasts))

    abbrev all : List Owner
    all = map (owner d ids layer) leasts

    group : ℕ → List Owner
    group c = filter (λ (o : Owner). eqb o.chunk c) (map (owner d ids layer) leasts)

    -- the least leaves of a chunk's new nodes
    heads : ℕ → List ℕ
    heads c = map sv (filter (λ i. here c (sv i)) leasts)

    heads_are : (c : ℕ) → map (λ (o : Owner). get_or ids o.least 0) (group c) ≡ heads c
    unfolding group heads here sv
    heads_are c =
        ap (map (λ (o : Owner). get_or ids o.least 0)) (filter_of_map (λ (o : Owner). eqb o.chunk c) (owner d ids layer) leasts)
        ∙ map_twice (λ (o : Owner). get_or ids o.least 0) (owner d ids layer) (filter (λ i. eqb (chunk d layer (get_or ids i 0)) c) leasts)

    heads_up : (c : ℕ) → IsAscending (heads c)
    unfolding heads sv
    heads_up c =
        places_rise ids is.ascending (filter (λ i. here c (get_or ids i 0)) leasts) (filter_ascending (λ i. here c (get_or ids i 0)) leasts up)
        (λ p h. least_low p (filter_only (λ i. here c (get_or ids i 0)) leasts p h).0)

    heads_there : (c x : ℕ) → has (heads c) x ≡ true → (has (members d b layer c) x ≡ true) × (least d b new layer x ≡ x) × (is_new d b new layer x ≡ true)
    unfolding heads here sv
    heads_there c x h =
        let m = map_only (λ i. get_or ids i 0) (filter (λ i. eqb (chunk d layer (get_or ids i 0)) c) leasts) x h in
        let k = filter_only (λ i. eqb (chunk d layer (get_or ids i 0)) c) leasts m.0 m.1 in
        let f = least_from m.0 k.0 in
        let e : get_or ids (get_or firsts f.0 0) 0 ≡ x = ap (λ i. get_or ids i 0) f.2 ∙ m.2 in
        let r = changed_least f.0 f.1 in
        let ch : chunk d layer x ≡ c = ap (chunk d layer) (sym m.2) ∙ eqb-true (chunk d layer (get_or ids m.0 0)) c k.1 in (
          in_members d b layer c x (subst (λ y. has b.supervoxels y ≡ true) e r.1) ch,
          subst (λ y. least d b new layer y ≡ y) e r.2,
          subst (λ y. is_new d b new layer y ≡ true) e r.3,
        )

    heads_all : (c x : ℕ) → (has (members d b layer c) x ≡ true) × (least d b new layer x ≡ x) × (is_new d b new layer x ≡ true) → has (heads c) x ≡ true
    unfolding heads here sv
    heads_all c x p =
        let m = members_in d b layer c x p.0 in
        let r = least_of_changed x m.0 p.1 p.2 in
        let h : has leasts (get_or firsts r.0 0) ≡ true = same (get_or firsts r.0 0) ∙ map_has (at firsts) places r.0 r.1 in
        let t : eqb (chunk d layer (get_or ids (get_or firsts r.0 0) 0)) c ≡ true = eq-eqb _ _ (ap (chunk d layer) r.2 ∙ m.1) in
        subst (λ y. has (map (λ i. get_or ids i 0) (filter (λ i. eqb (chunk d layer (get_or ids i 0)) c) leasts)) y ≡ true) r.2
        (map_has (λ i. get_or ids i 0) (filter (λ i. eqb (chunk d layer (get_or ids i 0)) c) leasts) (get_or firsts r.0 0)
        (filter_has (λ i. eqb (chunk d layer (get_or ids i 0)) c) leasts (get_or firsts r.0 0) h t))

    heads_firsts : (c : ℕ) → AreFirsts d b new layer c (heads c)
    heads_firsts c = (heads_up c, λ x. (heads_there c x, heads_all c x))

    -- what is told of the least supervoxel of a chunk's k-th node
    abbrev Fact : ℕ → ℕ → ℕ → Type 0
    Fact c k v = (chunk d layer v ≡ c) × (label d b new layer v ≡ k) × (head_or 0 (component d b new layer v) ≡ v)

    fact : (c j : ℕ) → j < length (heads c) → Fact c (used d b log layer c + 1 + j) (get_or (heads c) j 0)
    unfolding least
    fact c j l =
        let v : ℕ = get_or (heads c) j 0 in
        let p = ((heads_firsts c).1 v).0 (get_has (heads c) j l) in
        let m = members_in d b layer c v p.0 in
        let n : label d b new layer v ≡ used d b log layer c + (j + 1) = label_at d b is.image.base.ascending e log layer c (heads c) j v (heads_firsts c) l m.0 p.1 in (
          m.1,
          omega (arith, n),
          head_same 0 v (component d b new layer v) v (own_component d b new layer v m.0) ∙ p.1,
        )

    tell : (c k : ℕ) (os : List Owner) → In c os → ((j : ℕ) → j < length os → Fact c (k + j) (get_or (map (λ (o : Owner). get_or ids o.least 0) os) j 0))
        → map told_made (up_from (used d b log layer) ids k os) ≡ map (λ v. told_node (new_node d b new e.number layer v)) (map (λ (o : Owner). get_or ids o.least 0) os)
    unfolding up_from new_node node
    tell c k [] i f = refl
    tell c k (o ∷ os) i f =
        let v : ℕ = get_or ids o.least 0 in
        let p = f 0 (omega arith) in
        let ch : o.chunk ≡ chunk d layer v = i.0 ∙ sym p.0 in
        let lb : label d b new layer v ≡ k + 0 = p.1 in
        let id : o.chunk + k ≡ chunk d layer v + label d b new layer v = omega (arith, ch, lb) in
        let one : told_made (record { id = o.chunk + k; chunk = o.chunk; least = v }) ≡ (chunk d layer v + label d b new layer v, chunk d layer v, head_or 0 (component d b new layer v)) =
        λ x. (id x, ch x, sym p.2 x) in
        ap (λ y. y ∷ map told_made (up_from (used d b log layer) ids (k + 1) os)) one
        ∙ ap (λ ys. told_node (new_node d b new e.number layer v) ∷ ys) (tell c (k + 1) os i.1 (λ j l.
        let e : k + suc j ≡ k + 1 + j = omega arith in
        subst (λ n. Fact c n (get_or (map (λ (o : Owner). get_or ids o.least 0) os) j 0)) e (f (suc j) (omega arith))))

    group_in : (c : ℕ) → In c (group c)
    unfolding group
    group_in c =
        all_more (λ (o : Owner). Unit {0} × (eqb o.chunk c ≡ true)) (λ o. o.chunk ≡ c) (group c) (λ o p. eqb-true o.chunk c p.1)
        (all_filter (λ (o : Owner). eqb o.chunk c) (λ o. Unit {0}) (map (owner d ids layer) leasts) (all_each (λ o. Unit {0}) (map (owner d ids layer) leasts) (λ o. tt)))

    many : (c : ℕ) → length (group c) ≡ length (heads c)
    many c = sym (length-map (group c) (λ (o : Owner). get_or ids o.least 0)) ∙ ap length (heads_are c)

    group_facts : (c j : ℕ) → j < length (group c) → Fact c (used d b log layer c + 1 + j) (get_or (map (λ (o : Owner). get_or ids o.least 0) (group c)) j 0)
    group_facts c j l = subst (λ vs. Fact c (used d b log layer c + 1 + j) (get_or vs j 0)) (sym (heads_are c)) (fact c j (subst (λ n. j < n) (many c) l))

    piece_told : (c : ℕ) → map told_made (up_from (used d b log layer) ids (used d b log layer c + 1) (group c)) ≡ map told_node (map (new_node d b new e.number layer) (new_among d b new layer (members d b layer c)))
    piece_told c =
        tell c (used d b log layer c + 1) (group c) (group_in c) (group_facts c)
        ∙ (ap (map (λ v. told_node (new_node d b new e.number layer v))) (heads_are c ∙ firsts_are d b is.image.base.ascending new layer c (heads c) (heads_firsts c))
        ∙ sym (map_twice told_node (new_node d b new e.number layer) (new_among d b new layer (members d b layer c))))

    module _ (ks : List Owner) (by : AreByChunk all ks) where
      each : (P : Owner → Type 0) → ((p : ℕ) → has leasts p ≡ true → P (owner d ids layer p)) → All P ks
      each P f =
          All-permutation P all ks by.moved
          (All-from_recursion P all (all_map (owner d ids layer) P leasts (all_more (λ p. has leasts p ≡ true) (λ p. P (owner d ids layer p)) leasts f (all_has_self leasts))))

      pub keys_held : All (λ (o : Owner). IsHeld d b layer o.chunk) ks
      unfolding cs
      keys_held =
          each (λ (o : Owner). IsHeld d b layer o.chunk) (λ p h. (layer_has d layer two high, chunk_known (get_or ids p 0) (known_at p (least_low p h))))

      pub keys_low : All (λ (o : Owner). o.least < length ids) ks
      keys_low = each (λ (o : Owner). o.least < length ids) least_low

      keys_are : ks ≡ flat_map group cs
      unfolding group cs
      keys_are =
          sym (grouped (λ (o : Owner). o.chunk) cs cs_differ ks by.rising (each (λ (o : Owner). has cs o.chunk ≡ true) (λ p h. chunk_known (get_or ids p 0) (known_at p (least_low p h)))))
          ∙ flat_same (λ c. filter (λ (o : Owner). eqb o.chunk c) ks) group cs (all_each (λ c. filter (λ (o : Owner). eqb o.chunk c) ks ≡ group c) cs by.same)

      all_in : AllByRecursion (λ c. In c (group c)) cs
      all_in = all_each (λ c. In c (group c)) cs group_in

      numbers_are : numbered (used d b log layer) ids 0 0 ks ≡ flat_map (λ c. up_from (used d b log layer) ids (used d b log layer c + 1) (group c)) cs
      numbers_are = ap (numbered (used d b log layer) ids 0 0) keys_are ∙ num_groups (used d b log layer) ids group cs cs_differ all_in 0 0 cs_some

      pub nodes_are : AreMadeIn d b log e layer (numbered (used d b log layer) ids 0 0 ks)
      unfolding layer_nodes cs
      nodes_are =
          ap (map told_made) numbers_are
          ∙ (map_flat told_made (λ c. up_from (used d b log layer) ids (used d b log layer c + 1) (group c)) cs
          ∙ (flat_same (λ c. map told_made (up_from (used d b log layer) ids (used d b log layer c + 1) (group c))) (λ c. map told_node (map (new_node d b new e.number layer) (new_among d b new layer (members d b layer c)))) cs
          (all_each (λ c. map told_made (up_from (used d b log layer) ids (used d b log layer c + 1) (group c)) ≡ map told_node (map (new_node d b new e.number layer) (new_among d b new layer (members d b layer c)))) cs piece_told)
          ∙ sym (map_flat told_node (λ c. map (new_node d b new e.number layer) (new_among d b new layer (members d b layer c))) cs)))

      pub spent_is : (limit : ℕ) → limit ≡ segments d.layout layer → first_spent limit (numbered (used d b log layer) ids 0 0 ks) ≡ spent_in d b new layer
      unfolding spent_in cs layer_chunks
      spent_is limit q =
          let now : (c : ℕ) → used d b log layer c + length (group c) ≡ used d b new layer c =
          λ c. ap (λ n. used d b log layer c + n) (many c) ∙ sym (used_after d b is.image.base.ascending e log layer c (heads c) (heads_firsts c)) in
          let tests : (λ c. leb limit (used d b log layer c + length (group c))) ≡ (λ c. leb (segments d.layout layer) (used d b new layer c)) = λ i c. leb (q i) (now c i) in
          ap (first_spent limit) numbers_are
          ∙ (spent_groups (used d b log layer) ids limit group cs all_in
          (all_each (λ c. used d b log layer c < limit) cs (λ c. subst (λ n. used d b log layer c < n) (sym q) (used_fits d b log is.image.legal layer c (layer_has d layer two high))))
          ∙ ap (λ t. find t cs) tests)
