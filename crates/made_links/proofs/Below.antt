-- What the child of a new node is, by its least leaf: a node that the entry makes below, or one that stands, whose record is where the climb ends.
use Rattle.std.proofs.Common.{◌≡◌, ℕ, zero, suc, ◌-◌, ◌<◌, ◌≤◌, true, false, cond, eqb, List, [], ◌∷◌, length, map, get_or, Some, refl, sym, ◌∙◌, ap, subst, inl, inr, arith, eq-eqb}
use Rattle.std.specs.List.{slice_get}
use Rattle.std.proofs.lemmas.Bool.{false≢true, eqb-true, ne_eqb, cond-false, cases_Bool, cases_lt}
use Rattle.std.proofs.lemmas.List.{length-map, get_or-map}
use Rattle.std.proofs.lemmas.List.Elements.{recursion_from_All}
use Rattle.node_ids.specs.Ids.{parts_of}
use Rattle.op_model.specs.declared.base.Dataset.{Dataset}
use Rattle.op_model.specs.declared.base.Base.{Base}
use Rattle.op_model.specs.declared.entry.Entry.{Entry}
use Rattle.graph_model.specs.Lists.{has}
use Rattle.op_model.specs.Chunks.{top}
use Rattle.op_model.specs.Labels.{is_new, least, node}
use Rattle.graph_model.proofs.ListLemmas.{has_head, has_tail}
use Rattle.op_model.proofs.LegalLemmas.{all_has}
use Rattle.op_model.proofs.MadeLemmas.{map_only}
use Rattle.record_rows.specs.Rows.{SupervoxelRow, NodeRow, Node}
use Rattle.record_rows.specs.Chains.{has_id}
use Rattle.record_rows.specs.LogRows.{rows_of}
use Rattle.record_rows.specs.Words.{place_from}
use Rattle.record_rows.specs.Versions.{child_at}
use Rattle.record_rows.specs.Readings.{HoldsId, ParentImage}
use Rattle.record_rows.proofs.LinkLemmas.{child_layer, node_kept}
use Rattle.record_rows.proofs.NodeIds.{supervoxel_layer}
use Rattle.record_rows.proofs.NodePlaces.{found_from}
use Rattle.record_rows.proofs.NodeRecords.{node_records_once}
use Rattle.record_rows.proofs.OnceLemmas.{layer_low}
use Rattle.record_rows.proofs.PrefixNodes.{layer_has}
use Rattle.layer_laws.specs.Building.{at, least_leaf}
use Rattle.layer_laws.proofs.BuildLemmas.{least_is}
use Rattle.layer_laws.proofs.OrderLemmas.{get_has}
use Rattle.layer_laws.proofs.PlaceLemmas.{at_one}
use Rattle.entry_parts.specs.declared.made.MadeNode.{MadeNode}
use Rattle.made_nodes.specs.declared.layers.MadeLayer.{MadeLayer}
use Rattle.made_nodes.proofs.LastNumbers.{any_here}
use Rattle.made_links.specs.Children.{AreBelow}
use Rattle.made_links.proofs.Made.{made_at, made_has}

pub child_lowest : (d : Dataset) (b : Base) (log : List Entry) (layer v : ℕ) → layer ≡ 2 → child_at d b log layer v ≡ v
unfolding child_at
child_lowest d b log layer v e = ap (λ t. cond t v (node d b log (layer - 1) v)) (eq-eqb layer 2 e)

pub child_above : (d : Dataset) (b : Base) (log : List Entry) (layer v : ℕ) → 2 < layer → child_at d b log layer v ≡ node d b log (layer - 1) v
unfolding child_at
child_above d b log layer v l = cond-false (eqb layer 2) v (node d b log (layer - 1) v) (ne_eqb layer 2 (λ q. absurd (let z : layer ≡ 2 = q in omega (arith, l, z))))

the_node : (d : Dataset) (b : Base) (log : List Entry) (words : List ℕ) → ParentImage d b log words → (p id : ℕ) → HoldsId d b log p id → ((parts_of d.layout id).layer ≡ 1 → ⊥)
    → (n : Node) × (slice_get (rows_of d b log) p ≡ Some (NodeRow n)) × (n.id ≡ id)
unfolding has_id
the_node d b log words i p id (SupervoxelRow v, h, t) high = absurd (high (ap (λ x. (parts_of d.layout x).layer) (sym (eqb-true v id t)) ∙ supervoxel_layer d b i.dataset i.base log words i p v h))
the_node d b log words i p id (NodeRow n, h, t) high = (n, h, eqb-true n.id id t)
the_node d b log words i p id (row, h, t) high = absurd (false≢true t)

-- the search for a node's id leads to where its record stands
node_first : (d : Dataset) (b : Base) (log : List Entry) (words : List ℕ) → ParentImage d b log words → (p id : ℕ) → HoldsId d b log p id → ((parts_of d.layout id).layer ≡ 1 → ⊥) → place_from (has_id id) 0 (rows_of d b log) ≡ p
node_first d b log words i p id h high =
    let f = found_from (has_id id) (rows_of d b log) 0 (rows_of d b log) refl (any_here (has_id id) (rows_of d b log) p h.0 h.1 h.2) in
    let m = the_node d b log words i p id h high in
    let n = the_node d b log words i (place_from (has_id id) 0 (rows_of d b log)) id (f.0, f.1, f.2) high in
    node_records_once d b i.dataset i.base log i.legal (place_from (has_id id) 0 (rows_of d b log)) p n.0 m.0 n.1 m.1 (n.2 ∙ sym m.2)

-- a node's id isn't of layer 1
node_high : (d : Dataset) (b : Base) (log : List Entry) (words : List ℕ) → ParentImage d b log words → (layer v : ℕ) → 2 < layer → layer ≤ top d → has b.supervoxels v ≡ true → (parts_of d.layout (node d b log (layer - 1) v)).layer ≡ 1 → ⊥
node_high d b [] words i layer v low high hv e = absurd i.legal
node_high d b (f ∷ log) words i layer v low high hv e =
    let hl = layer_has d layer (omega arith) high in
    let q = child_layer d b i.dataset i.base f log i.legal layer v (hl, layer_low d layer hl) hv (ne_eqb layer 2 (λ z. absurd (let y : layer ≡ 2 = z in omega (arith, y, low)))) in
    omega (arith, q, e, low)

pub node_has : (ms : List MadeNode) (r : ℕ) (m : MadeNode) → r < length ms → has (map (λ (m : MadeNode). m.id) ms) (get_or ms r m).id ≡ true
node_has [] r m l = absurd (omega arith)
node_has (n ∷ ns) zero m l = has_head n.id (map (λ (m : MadeNode). m.id) ns)
node_has (n ∷ ns) (suc r) m l = has_tail n.id (map (λ (m : MadeNode). m.id) ns) (get_or ns r m).id (node_has ns r m (omega arith))

module _ (d : Dataset) (b : Base) (log : List Entry) (e : Entry) (words : List ℕ) (prefix : ℕ) (ids : List ℕ) (layer : ℕ) (firsts : List ℕ) (below : MadeLayer)
    (is : AreBelow d b log e words prefix ids layer firsts below) (two : 2 ≤ layer) (high : layer ≤ top d) where
  abbrev ms : List MadeNode
  ms = below.nodes.items

  pub as_many : length below.leasts.items ≡ length below.nodes.items
  as_many = sym (length-map below.leasts.items (at ids)) ∙ (ap length is.leasts ∙ length-map below.nodes.items (λ (m : MadeNode). m.least))

  pub known_at : (i : ℕ) → i < length ids → has b.supervoxels (get_or ids i 0) ≡ true
  known_at i l = is.holds.known (get_or ids i 0) (get_has ids i l)

  -- where something is made below, the layer isn't the second
  above_two : (r : ℕ) → r < length below.nodes.items → 2 < layer
  above_two r l = elim (cases_lt 2 layer) [ inl m ↦ m | inr m ↦ absurd (let z = ap length (is.none (omega (arith, m, two))) in omega (arith, z, l)) ]

  least_of : (r : ℕ) (m : MadeNode) → r < length below.nodes.items → get_or ids (get_or below.leasts.items r 0) 0 ≡ (get_or below.nodes.items r m).least
  least_of r m l =
      sym (get_or-map (at ids) below.leasts.items r 0 0 (omega (arith, as_many, l)))
      ∙ (ap (λ xs. get_or xs r 0) is.leasts ∙ get_or-map (λ (m : MadeNode). m.least) below.nodes.items r m 0 l)

  -- the id of a child that is new
  pub new_named : (r i : ℕ) (m : MadeNode) → r < length below.nodes.items → get_or below.leasts.items r 0 ≡ i → (get_or below.nodes.items r m).id ≡ child_at d b (e ∷ log) layer (get_or ids i 0)
  new_named r i m l q =
      let low = above_two r l in
      let p = made_at d b is.image.dataset is.image.base log e (layer - 1) below.nodes.items (is.made low) r m l in
      p.id ∙ (ap (node d b (e ∷ log) (layer - 1)) (sym (least_of r m l) ∙ ap (λ k. get_or ids k 0) q) ∙ sym (child_above d b (e ∷ log) layer (get_or ids i 0) low))

  -- where none is new, the child is what it was before the entry
  pub old_named : (i : ℕ) → i < length ids → get_or firsts i 0 ≡ i → (has below.leasts.items i ≡ true → ⊥) → child_at d b log layer (get_or ids i 0) ≡ child_at d b (e ∷ log) layer (get_or ids i 0)
  old_named i l own none = elim (cases_lt 2 layer) [
    | inl low ↦ child_above d b log layer v low ∙ (node_kept d b is.image.dataset is.image.base e log (layer - 1) v (old low) ∙ sym (child_above d b (e ∷ log) layer v low))
    | inr most ↦ (let z : layer ≡ 2 = omega (arith, most, two) in child_lowest d b log layer v z ∙ sym (child_lowest d b (e ∷ log) layer v z))
  ]
    where
      v : ℕ
      v = get_or ids i 0

      leaf : get_or ids i 0 ≡ least_leaf d b (e ∷ log) (layer - 1) (get_or ids i 0)
      leaf = ap (λ k. get_or ids k 0) (sym own) ∙ is.firsts_of.leaf i l

      there : 2 < layer → is_new d b (e ∷ log) (layer - 1) (get_or ids i 0) ≡ true → ⊥
      there low n =
          let first : least d b (e ∷ log) (layer - 1) (get_or ids i 0) ≡ get_or ids i 0 =
          least_is d b is.image.dataset.layout is.image.base.ascending (e ∷ log) (layer - 1) (get_or ids i 0) (omega (arith, low)) ∙ sym leaf in
          let h = made_has d b is.image.dataset is.image.base log e (layer - 1) below.nodes.items (is.made low) (get_or ids i 0) (known_at i l) first n in
          let g = map_only (at ids) below.leasts.items (get_or ids i 0) (subst (λ xs. has xs (get_or ids i 0) ≡ true) (sym is.leasts) h) in
          let low_q = all_has (λ q. q < length ids) below.leasts.items g.0 (recursion_from_All (λ q. q < length ids) below.leasts.items is.places) g.1 in
          let same : g.0 ≡ i = at_one ids g.0 i is.holds.ascending low_q l g.2 in
          none (subst (λ k. has below.leasts.items k ≡ true) same g.1)

      old : 2 < layer → is_new d b (e ∷ log) (layer - 1) (get_or ids i 0) ≡ false
      old low = elim (cases_Bool (is_new d b (e ∷ log) (layer - 1) (get_or ids i 0))) [ inl t ↦ absurd (there low t) | inr f ↦ f ]

  -- the search for the id of a child that stands leads to where the climb ends
  pub old_placed : (v spot : ℕ) → has b.supervoxels v ≡ true → HoldsId d b log spot (child_at d b log layer v) → (layer ≡ 2 → place_from (has_id v) 0 (rows_of d b log) ≡ spot)
      → place_from (has_id (child_at d b log layer v)) 0 (rows_of d b log) ≡ spot
  old_placed v spot hv h first = elim (cases_lt 2 layer) [
    | inl low ↦ node_first d b log words is.image spot (child_at d b log layer v) h
        (λ q. node_high d b log words is.image layer v low high hv (ap (λ x. (parts_of d.layout x).layer) (sym (child_above d b log layer v low)) ∙ q))
    | inr most ↦ (let z : layer ≡ 2 = omega (arith, most, two) in ap (λ x. place_from (has_id x) 0 (rows_of d b log)) (child_lowest d b log layer v z) ∙ first z)
  ]
