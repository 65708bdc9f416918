-- The leaves of a node are those of its children, each once.
use Rattle.std.proofs.Common.{◌≡◌, ℕ, ◌+◌, ◌-◌, ◌/◌, ◌^◌, ◌<◌, ◌≤◌, Bool, true, false, cond, eqb, List, [], ◌∷◌, ◌++◌, map, Some, refl, sym, ◌∙◌, ap, subst, eq-eqb, arith}
use Rattle.std.specs.Prelude.{IsPermutation}
use Rattle.std.specs.List.{AllByRecursion, filter, flat_map, slice_get}
use Rattle.std.specs.Option.{option_map_or}
use Rattle.std.proofs.lemmas.Bool.{eqb-true, eqb-false, false≢true}
use Rattle.node_ids.specs.Ids.{parts_of, parts_over}
use Rattle.op_model.specs.declared.base.Dataset.{Dataset}
use Rattle.op_model.specs.declared.base.Base.{Base}
use Rattle.op_model.specs.declared.entry.Entry.{Entry}
use Rattle.graph_model.specs.Lists.{has}
use Rattle.graph_model.proofs.ListLemmas.{filter_has, filter_only}
use Rattle.op_model.specs.Chunks.{layers}
use Rattle.op_model.specs.Labels.{component, label, node}
use Rattle.op_model.specs.Operations.{ascending}
use Rattle.op_model.specs.Valid.{IsDataset, IsBase}
use Rattle.op_model.specs.Legal.{Legal}
use Rattle.op_model.proofs.LabelLemmas.{same_component, own_component}
use Rattle.op_model.proofs.LegalLemmas.{ascending_has, map_has, labels_fit}
use Rattle.op_model.proofs.HistoryLemmas.{legal_prefix}
use Rattle.record_rows.specs.Rows.{Row, SupervoxelRow, NodeRow, Node}
use Rattle.record_rows.specs.Chains.{has_id}
use Rattle.record_rows.specs.Words.{place_from}
use Rattle.record_rows.specs.LogRows.{chunks, children_of, new_nodes, new_links, rows_of, entry_rows}
use Rattle.record_rows.specs.Readings.{HoldsNode}
use Rattle.record_rows.specs.Versions.{child_at}
use Rattle.record_rows.specs.Walks.{children_in}
use Rattle.record_rows.proofs.CountLemmas.{component_differ}
use Rattle.record_rows.proofs.DifferLemmas.{all_append, all_more, all_each, differ_filter}
use Rattle.record_rows.proofs.LayerIds.{layer_told}
use Rattle.record_rows.proofs.LinkLemmas.{children_all, child_layer, component_up, layer_down, of_component, same_node, supervoxel_layer}
use Rattle.record_rows.proofs.NodeIds.{node_layer}
use Rattle.record_rows.proofs.NodePlaces.{found_from, known, known_later}
use Rattle.record_rows.proofs.OnceLemmas.{all_has_self, ascending_lists, layer_low}
use Rattle.record_rows.proofs.RowFacts.{all_at, all_base, all_entry}
use Rattle.record_rows.proofs.SumLemmas.{sorted_same}
use Rattle.node_reader.specs.Spreads.{row_leaves, place_leaves, id_leaves, layer_of}
use Rattle.node_reader.proofs.ChildRows.{any_has, supervoxel_seen}
use Rattle.node_reader.proofs.LeafParts.{Rises, part, flat_same, permuted_same, parts_whole}
use Rattle.node_reader.proofs.NodeChildren.{node_raised}
use Rattle.node_reader.proofs.NodeLeaves.{record_tells, one_component}

-- the record of this id that a search leads to
pub found_leaves : (rows : List Row) (id place : ℕ) (row : Row) → slice_get rows place ≡ Some row → place_leaves rows place ≡ row_leaves row
unfolding place_leaves
found_leaves rows id place row h = ap (λ o. option_map_or row_leaves o []) h

singles : (xs : List ℕ) → flat_map (λ x. x ∷ []) xs ≡ xs
singles [] = refl
singles (x ∷ xs) = ap (λ ys. x ∷ ys) (singles xs)

module _ (d : Dataset) (b : Base) (valid : IsDataset d) (base : IsBase d b) where
  -- a supervoxel's record has an id of layer 1
  abbrev Lowest : Row → Type 0
  Lowest (SupervoxelRow v) = (parts_of d.layout v).layer ≡ 1
  Lowest row = Unit {0}

  rows_lowest : (log : List Entry) → AllByRecursion Lowest (rows_of d b log)
  unfolding rows_of
  rows_lowest [] =
      all_base d b Lowest tt (all_more (λ v. has b.supervoxels v ≡ true) (λ v. Lowest (SupervoxelRow v)) b.supervoxels (supervoxel_layer d b valid base) (all_has_self b.supervoxels)) (all_each (λ c. Unit {0}) (chunks d b) (λ c. tt))
  rows_lowest (e ∷ log) =
      all_append Lowest (rows_of d b log) (entry_rows d b log e) (rows_lowest log)
      (all_entry d b Lowest log e (λ x. tt) (λ i. tt) (λ c. tt) (all_each (λ n. Unit {0}) (new_nodes d b (e ∷ log) e.number) (λ n. tt)) (all_each (λ l. Unit {0}) (new_links d b (e ∷ log) e.number) (λ l. tt)) tt)

  -- a supervoxel is its own leaf
  supervoxel_leaves : (log : List Entry) → Legal d b log → (v : ℕ) → has b.supervoxels v ≡ true → id_leaves (rows_of d b log) v ≡ v ∷ []
  unfolding id_leaves has_id row_leaves
  supervoxel_leaves log legal v hv =
      let rows : List Row = rows_of d b log in
      let f = found_from (has_id v) rows 0 rows refl (supervoxel_seen d b log v hv) in
      found_leaves rows v (place_from (has_id v) 0 rows) f.0 f.1 ∙ go f.0 f.1 f.2
    where
      go : (row : Row) → slice_get (rows_of d b log) (place_from (has_id v) 0 (rows_of d b log)) ≡ Some row → has_id v row ≡ true → row_leaves row ≡ v ∷ []
      go (SupervoxelRow x) s t = ap (λ y. y ∷ []) (eqb-true x v t)
      go (NodeRow n) s t =
          absurd (let two = node_layer d b valid base log legal (place_from (has_id v) 0 (rows_of d b log)) n s in
          let one = supervoxel_layer d b valid base v hv in
          let same : (parts_of d.layout n.id).layer ≡ (parts_of d.layout v).layer = ap (λ i. (parts_of d.layout i).layer) (eqb-true n.id v t) in
          omega arith)
      go row s t = absurd (false≢true t)

  -- the layer of a node's id
  pub node_id_layer : (e : Entry) (log : List Entry) → Legal d b (e ∷ log) → (l u : ℕ) → has (layers d) l ≡ true → has b.supervoxels u ≡ true → (parts_of d.layout (node d b (e ∷ log) l u)).layer ≡ l
  unfolding node
  node_id_layer e log legal l u hl hu = layer_told d valid.layout l u (label d b (e ∷ log) l u) (layer_low d l hl) (labels_fit d b (e ∷ log) l u legal hl hu)

  -- the node of a supervoxel has its leaves of that log, whatever newer entries have added
  node_leaves : (newer : List Entry) (e : Entry) (log : List Entry) → Legal d b (newer ++ e ∷ log) → (l u : ℕ) → has (layers d) l ≡ true → has b.supervoxels u ≡ true
      → id_leaves (rows_of d b (newer ++ e ∷ log)) (node d b (e ∷ log) l u) ≡ component d b (e ∷ log) l u
  unfolding id_leaves has_id row_leaves
  node_leaves newer e log legal l u hl hu =
      let f = found_from (has_id id) rows 0 rows refl (any_has id rows (known_later d b valid base newer (e ∷ log) id (known d b valid base e log old l u hl hu))) in
      found_leaves rows id (place_from (has_id id) 0 rows) f.0 f.1 ∙ go f.0 f.1 f.2
    where
      id : ℕ
      id = node d b (e ∷ log) l u

      rows : List Row
      rows = rows_of d b (newer ++ e ∷ log)

      old : Legal d b (e ∷ log)
      old = legal_prefix d b newer e log legal

      go : (row : Row) → slice_get rows (place_from (has_id id) 0 rows) ≡ Some row → has_id id row ≡ true → row_leaves row ≡ component d b (e ∷ log) l u
      go (NodeRow n) s t = record_tells d b valid base newer e log legal (place_from (has_id id) 0 rows) n s l u hl hu (eqb-true n.id id t)
      go (SupervoxelRow v) s t =
          absurd (let one : (parts_of d.layout v).layer ≡ 1 = all_at Lowest rows (rows_lowest (newer ++ e ∷ log)) (place_from (has_id id) 0 rows) (SupervoxelRow v) s in
          let same : (parts_of d.layout v).layer ≡ (parts_of d.layout id).layer = ap (λ i. (parts_of d.layout i).layer) (eqb-true v id t) in
          let high = node_id_layer e log old l u hl hu in
          let two = (layer_down d l hl).0 in
          omega arith)
      go row s t = absurd (false≢true t)

  -- the leaves of a child are those leaves of its parent that have it as their node
  child_part : (e : Entry) (log : List Entry) → Legal d b (e ∷ log) → (l v u : ℕ) → has (layers d) l ≡ true → eqb l 2 ≡ false → has b.supervoxels v ≡ true → has (component d b (e ∷ log) l v) u ≡ true
      → component d b (e ∷ log) (l - 1) u ≡ filter (λ x. eqb (node d b (e ∷ log) (l - 1) x) (node d b (e ∷ log) (l - 1) u)) (component d b (e ∷ log) l v)
  child_part e log legal l v u hl f hv hu =
      let whole : List Entry = e ∷ log in
      let k : ℕ = l - 1 in
      let down : has (layers d) k ≡ true = (layer_down d l hl).1 (eqb-false l 2 f) in
      let in_v = of_component d b valid base whole l v u hu in
      let same : component d b whole l v ≡ component d b whole l u = same_component d b whole l v u in_v.1 in_v.2 in
      let test : ℕ → Bool = λ x. eqb (node d b whole k x) (node d b whole k u) in
      sorted_same (component d b whole k u) (filter test (component d b whole l v)) (component_differ d b valid base whole k u)
      (differ_filter test (λ x y. x < y) (component d b whole l v) (component_differ d b valid base whole l v))
      (λ x h.
      let in_u = of_component d b valid base whole k u x h in
      let one = same_node d b valid base e log legal k u x in_v.0 in_u.0 in_u.1 in_u.2 in
      filter_has test (component d b whole l v) x
      (subst (λ xs. has xs x ≡ true) (sym same) (component_up d b valid base e log legal l u x (hl, layer_low d l hl) f h))
      (eq-eqb (node d b whole k x) (node d b whole k u) (sym one.0)))
      (λ x h.
      let p = filter_only test (component d b whole l v) x h in
      let hx = (of_component d b valid base whole l v x p.0).0 in
      subst (λ xs. has xs x ≡ true) (one_component d b valid base e log legal k k x u down down hx in_v.0 (eqb-true (node d b whole k x) (node d b whole k u) p.1)) (own_component d b whole k x hx))

  -- the leaves of the children are those of the node, each once
  children_leaves : (newer : List Entry) (e : Entry) (log : List Entry) → Legal d b (newer ++ e ∷ log) → (l v : ℕ) → has (layers d) l ≡ true → has b.supervoxels v ≡ true
      → IsPermutation (component d b (e ∷ log) l v) (flat_map (id_leaves (rows_of d b (newer ++ e ∷ log))) (children_of d b (e ∷ log) l (component d b (e ∷ log) l v)))
  unfolding children_of child_at
  children_leaves newer e log legal l v hl hv = go (eqb l 2) refl (children_all d b valid base (e ∷ log) l leaves)
    where
      whole : List Entry
      whole = e ∷ log

      rows : List Row
      rows = rows_of d b (newer ++ e ∷ log)

      leaves : List ℕ
      leaves = component d b (e ∷ log) l v

      old : Legal d b (e ∷ log)
      old = legal_prefix d b newer e log legal

      key : ℕ → ℕ
      key = node d b (e ∷ log) (l - 1)

      go : (t : Bool) → eqb l 2 ≡ t → AllByRecursion (λ c. (u : ℕ) × (has leaves u ≡ true) × (c ≡ cond t u (key u))) (cond t leaves (ascending (map key leaves)))
          → IsPermutation leaves (flat_map (id_leaves rows) (cond t leaves (ascending (map key leaves))))
      go true t a =
          permuted_same leaves (flat_map (id_leaves rows) leaves) (sym (flat_same (id_leaves rows) (λ x. x ∷ []) leaves
          (all_more (λ u. has leaves u ≡ true) (λ u. id_leaves rows u ≡ u ∷ []) leaves (λ u h. supervoxel_leaves (newer ++ e ∷ log) legal u (of_component d b valid base whole l v u h).0) (all_has_self leaves))
          ∙ singles leaves))
      go false t a =
          let ids : List ℕ = ascending (map key leaves) in
          let down : has (layers d) (l - 1) ≡ true = (layer_down d l hl).1 (eqb-false l 2 t) in
          let parts : flat_map (part key leaves) ids ≡ flat_map (id_leaves rows) ids =
          flat_same (part key leaves) (id_leaves rows) ids
          (all_more (λ c. (u : ℕ) × (has leaves u ≡ true) × (c ≡ key u)) (λ c. part key leaves c ≡ id_leaves rows c) ids
          (λ c q.
          let u : ℕ = q.0 in
          let hu = (of_component d b valid base whole l v u q.1).0 in
          subst (λ i. part key leaves i ≡ id_leaves rows i) (sym q.2)
          (sym (child_part e log old l v u hl t hv q.1) ∙ sym (node_leaves newer e log legal (l - 1) u down hu))) a) in
          subst (λ xs. IsPermutation leaves xs) parts
          (parts_whole key leaves ids (ascending_lists (map key leaves))
          (all_more (λ u. has leaves u ≡ true) (λ u. has ids (key u) ≡ true) leaves (λ u h. ascending_has (map key leaves) (key u) (map_has key leaves u h)) (all_has_self leaves)))

  -- a child is of the layer below
  child_below : (e : Entry) (log : List Entry) → Legal d b (e ∷ log) → (l v : ℕ) → has (layers d) l ≡ true → AllByRecursion (λ c. layer_of c + 1 ≡ l) (children_of d b (e ∷ log) l (component d b (e ∷ log) l v))
  unfolding child_at layer_of parts_of parts_over
  child_below e log legal l v hl =
      all_more (λ c. (u : ℕ) × (has (component d b (e ∷ log) l v) u ≡ true) × (c ≡ child_at d b (e ∷ log) l u)) (λ c. layer_of c + 1 ≡ l) (children_of d b (e ∷ log) l (component d b (e ∷ log) l v))
      (λ c q. ap (λ i. i / 2 ^ 56 + 1) q.2 ∙ go q.0 (of_component d b valid base (e ∷ log) l v q.0 q.1).0 (eqb l 2) refl)
      (children_all d b valid base (e ∷ log) l (component d b (e ∷ log) l v))
    where
      go : (u : ℕ) → has b.supervoxels u ≡ true → (t : Bool) → eqb l 2 ≡ t → cond t u (node d b (e ∷ log) (l - 1) u) / 2 ^ 56 + 1 ≡ l
      go u hu true t = let one : u / 2 ^ 56 ≡ 1 = supervoxel_layer d b valid base u hu in let two : l ≡ 2 = eqb-true l 2 t in omega arith
      go u hu false t =
          let down : node d b (e ∷ log) (l - 1) u / 2 ^ 56 ≡ l - 1 = child_layer d b valid base e log legal l u (hl, layer_low d l hl) hu t in
          let two = (layer_down d l hl).0 in
          omega arith

  -- what a node's children come to
  pub record Opened (log : List Entry) (n : Node) : Type 0 where
    pub whole : IsPermutation n.leaves (flat_map (id_leaves (rows_of d b log)) (children_in (rows_of d b log) n.id))
    pub layered : 2 ≤ layer_of n.id
    pub below : AllByRecursion (λ c. layer_of c + 1 ≡ layer_of n.id) (children_in (rows_of d b log) n.id)
    pub ascending_leaves : Rises n.leaves

  pub opened : (log : List Entry) → Legal d b log → (p : ℕ) (n : Node) → HoldsNode d b log p n → Opened log n
  unfolding layer_of parts_of parts_over
  opened log legal p n h =
      let r = node_raised d b valid base log legal p n h in
      let e : Entry = r.entry in
      let older : List Entry = r.older in
      let born = r.born in
      let l : ℕ = born.layer in
      let v : ℕ = born.supervoxel in
      let whole : Legal d b (r.newer ++ e ∷ older) = subst (Legal d b) r.whole legal in
      let old : Legal d b (e ∷ older) = legal_prefix d b r.newer e older whole in
      let kids : children_in (rows_of d b log) n.id ≡ children_of d b (e ∷ older) l (component d b (e ∷ older) l v) = r.children ∙ ap (children_of d b (e ∷ older) l) born.holds in
      let high : n.id / 2 ^ 56 ≡ l = ap (λ i. i / 2 ^ 56) born.named ∙ node_id_layer e older old l v born.layered born.known in
      record {
        whole =
            subst (λ xs. IsPermutation xs (flat_map (id_leaves (rows_of d b log)) (children_in (rows_of d b log) n.id))) (sym born.holds)
            (subst (λ cs. IsPermutation (component d b (e ∷ older) l v) (flat_map (id_leaves (rows_of d b log)) cs)) (sym kids)
            (subst (λ g. IsPermutation (component d b (e ∷ older) l v) (flat_map (id_leaves (rows_of d b g)) (children_of d b (e ∷ older) l (component d b (e ∷ older) l v)))) (sym r.whole)
            (children_leaves r.newer e older whole l v born.layered born.known)));
        layered = node_layer d b valid base log legal p n h;
        below =
            subst (AllByRecursion (λ c. c / 2 ^ 56 + 1 ≡ n.id / 2 ^ 56)) (sym kids)
            (subst (λ k. AllByRecursion (λ c. c / 2 ^ 56 + 1 ≡ k) (children_of d b (e ∷ older) l (component d b (e ∷ older) l v))) (sym high)
            (child_below e older old l v born.layered));
        ascending_leaves = subst Rises (sym born.holds) (component_differ d b valid base (e ∷ older) l v);
      }
