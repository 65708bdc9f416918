-- What the records tell of the children of a node that stands: they are what they were when it was made.
use Rattle.std.proofs.Common.{◌≡◌, ◌∙◌, ℕ, ◌+◌, ◌-◌, ◌^◌, ◌<◌, ◌≤◌, Bool, true, false, cond, eqb, List, [], ◌∷◌, ◌++◌, map, Some, refl, sym, ap, subst, inl, inr, arith}
use Rattle.std.specs.List.{AllByRecursion, slice_get}
use Rattle.std.proofs.lemmas.Bool.{cases_lt, eqb-false, eqb-true, false≢true, or_from, or_parts}
use Rattle.node_ids.specs.Ids.{parts_of}
use Rattle.node_ids.proofs.IdLemmas.{width_low}
use Rattle.graph_model.specs.Lists.{has}
use Rattle.graph_model.proofs.ListLemmas.{has_head, has_tail}
use Rattle.op_model.specs.declared.base.Dataset.{Dataset}
use Rattle.op_model.specs.declared.base.Base.{Base}
use Rattle.op_model.specs.declared.entry.Entry.{Entry}
use Rattle.op_model.specs.Chunks.{chunk, layers}
use Rattle.op_model.specs.Labels.{component, is_empty, is_new, label, node, touches, used}
use Rattle.op_model.specs.Legal.{Legal}
use Rattle.op_model.specs.Operations.{ascending}
use Rattle.op_model.specs.Valid.{IsBase, IsDataset}
use Rattle.op_model.proofs.HistoryLemmas.{legal_prefix, node_parts_of, used_more}
use Rattle.op_model.proofs.LabelLemmas.{label_new, label_old, label_used, rank_bounds}
use Rattle.op_model.proofs.LegalLemmas.{ascending_has, labels_fit, map_has}
use Rattle.record_rows.specs.Rows.{Row, NodeRow, SupervoxelRow, Node}
use Rattle.record_rows.specs.Chains.{has_id}
use Rattle.record_rows.specs.LogRows.{chunks, children_of, entry_rows, new_links, new_nodes, rows_of}
use Rattle.record_rows.specs.Readings.{HoldsNode}
use Rattle.record_rows.specs.Versions.{child_at}
use Rattle.record_rows.specs.Walks.{children_in}
use Rattle.record_rows.specs.Words.{place_from}
use Rattle.record_rows.proofs.DifferLemmas.{all_append, all_each, all_more}
use Rattle.record_rows.proofs.LinkLemmas.{layer_down, supervoxel_layer}
use Rattle.record_rows.proofs.NodeIds.{node_layer}
use Rattle.record_rows.proofs.NodePlaces.{found_from, known}
use Rattle.record_rows.proofs.OnceLemmas.{all_has_self, layer_low}
use Rattle.record_rows.proofs.RowFacts.{all_at, all_base, all_entry}
use Rattle.layer_laws.specs.Levels.{leaves}
use Rattle.layer_laws.proofs.RemakeLemmas.{same_leaves, told_before, touches_more}
use Rattle.layer_laws.proofs.StepLemmas.{joined_known, leaves_above, leaves_iff, leaves_node, leaves_one}
use Rattle.layer_laws.proofs.BuildLemmas.{same_leaves_of}
use Rattle.node_reader.specs.Spreads.{id_leaves, row_leaves}
use Rattle.node_reader.proofs.ChildRows.{any_has, supervoxel_seen}
use Rattle.node_reader.proofs.LeafMeaning.{found_leaves, node_id_layer}
use Rattle.node_reader.proofs.NodeChildren.{Raised, node_raised}
use Rattle.node_reader.proofs.NodeLeaves.{record_tells}

same_map : (f g : ℕ → ℕ) (xs : List ℕ) → ((x : ℕ) → has xs x ≡ true → f x ≡ g x) → map f xs ≡ map g xs
same_map f g [] h = refl
same_map f g (x ∷ xs) h = ap (λ y. y ∷ map f xs) (h x (has_head x xs)) ∙ ap (λ ys. g x ∷ ys) (same_map f g xs (λ y k. h y (has_tail x xs y k)))

pub children_into : (d : Dataset) (b : Base) (log : List Entry) (layer u : ℕ) (ls : List ℕ) → has ls u ≡ true → has (children_of d b log layer ls) (child_at d b log layer u) ≡ true
unfolding children_of child_at
children_into d b log layer u ls h = go (eqb layer 2)
  where
    go : (t : Bool) → has (cond t ls (ascending (map (node d b log (layer - 1)) ls))) (cond t u (node d b log (layer - 1) u)) ≡ true
    go true = h
    go false = ascending_has (map (node d b log (layer - 1)) ls) (node d b log (layer - 1) u) (map_has (node d b log (layer - 1)) ls u h)

module _ (d : Dataset) (b : Base) (valid : IsDataset d) (base : IsBase d b) where
  -- while a node stands, the nodes of its leaves one layer below stand too
  kids_kept : (newer : List Entry) (e : Entry) (log : List Entry) (l u : ℕ) → 3 ≤ l → l < 2 ^ 8 → has b.supervoxels u ≡ true → label d b (newer ++ e ∷ log) l u ≤ used d b (e ∷ log) l (chunk d l u)
      → (w : ℕ) → has (leaves d b (newer ++ e ∷ log) l u) w ≡ true → node d b (newer ++ e ∷ log) (l - 1) w ≡ node d b (e ∷ log) (l - 1) w
  unfolding is_new node
  kids_kept [] e log l u three low hu m w hw = refl
  kids_kept (f ∷ newer) e log l u three low hu m w hw = go (is_new d b (f ∷ older) l u) refl (kids_kept newer e log l u three low hu)
    where
      older : List Entry
      older = newer ++ e ∷ log

      two : 2 ≤ l
      two = omega (arith, three)

      go : (n : Bool) → is_new d b (f ∷ (newer ++ e ∷ log)) l u ≡ n
          → (label d b (newer ++ e ∷ log) l u ≤ used d b (e ∷ log) l (chunk d l u) → (w : ℕ) → has (leaves d b (newer ++ e ∷ log) l u) w ≡ true → node d b (newer ++ e ∷ log) (l - 1) w ≡ node d b (e ∷ log) (l - 1) w)
          → node d b (f ∷ (newer ++ e ∷ log)) (l - 1) w ≡ node d b (e ∷ log) (l - 1) w
      go true n ih = absurd (omega (arith, (rank_bounds d b (f ∷ older) l u hu n).0, label_new d b f older l u n, used_more d b newer (e ∷ log) l (chunk d l u), m))
      go false n ih =
          let p = or_parts (is_empty older) _ n in
          let t : touches f.changed (leaves d b older l u) ≡ false =
          sym (told_before d b valid.layout f older l u hu) ∙ (ap (touches f.changed) (leaves_node d b valid.layout (f ∷ older) l u two) ∙ p.1) in
          let same = same_leaves d b valid.layout f older l u hu t in
          let old_w : has (leaves d b older l u) w ≡ true = subst (λ ls. has ls w ≡ true) same hw in
          let hk = (joined_known d b valid.layout older l u w ((leaves_iff d b valid.layout older l u w two).0 old_w)).1 in
          let below : touches f.changed (leaves d b older (l - 1) w) ≡ false = quiet (touches f.changed (leaves d b older (l - 1) w)) refl hk old_w t in
          let spared : touches f.changed (component d b (f ∷ older) (l - 1) w) ≡ false =
          ap (touches f.changed) (sym (leaves_node d b valid.layout (f ∷ older) (l - 1) w (omega (arith, three)))) ∙ (told_before d b valid.layout f older (l - 1) w hk ∙ below) in
          let kept : label d b (f ∷ older) (l - 1) w ≡ label d b older (l - 1) w = label_old d b f older (l - 1) w (or_from (is_empty older) _ p.0 spared) in
          ap (λ x. chunk d (l - 1) w + x) kept ∙ ih (subst (λ x. x ≤ used d b (e ∷ log) l (chunk d l u)) (label_old d b f older l u n) m) w old_w
        where
          quiet : (s : Bool) → touches f.changed (leaves d b (newer ++ e ∷ log) (l - 1) w) ≡ s → has b.supervoxels w ≡ true → has (leaves d b (newer ++ e ∷ log) l u) w ≡ true → touches f.changed (leaves d b (newer ++ e ∷ log) l u) ≡ false
              → touches f.changed (leaves d b (newer ++ e ∷ log) (l - 1) w) ≡ false
          quiet false s hk old_w t = s
          quiet true s hk old_w t =
              let one = same_leaves_of d b valid.layout base.ascending older l u w old_w in
              absurd (false≢true (sym t ∙ touches_more f.changed (leaves d b older (l - 1) w) (leaves d b older l u)
              (λ x hx. subst (λ ls. has ls x ≡ true) (sym one) ((leaves_iff d b valid.layout older l w x two).1 (leaves_above d b valid.layout older l w x two low hk hx))) s))

  -- the children of a node that stands, by the nodes of its leaves
  pub kids_now : (f : Entry) (older : List Entry) → Legal d b (f ∷ older) → (p : ℕ) (n : Node) → HoldsNode d b (f ∷ older) p n → (l u : ℕ) → has (layers d) l ≡ true → has b.supervoxels u ≡ true
      → n.id ≡ node d b (f ∷ older) l u → (n.leaves ≡ component d b (f ∷ older) l u) × (children_in (rows_of d b (f ∷ older)) n.id ≡ children_of d b (f ∷ older) l n.leaves)
  unfolding children_of
  kids_now f older legal p n h l u hl hu q = (tells, r.children ∙ (ap (λ k. children_of d b (r.entry ∷ r.older) k n.leaves) same_layer ∙ split (eqb l 2) refl))
    where
      r : Raised d b (f ∷ older) n
      r = node_raised d b valid base (f ∷ older) legal p n h

      whole : f ∷ older ≡ r.newer ++ r.entry ∷ r.older
      whole = r.whole

      two : 2 ≤ l
      two = (layer_down d l hl).0

      tells : n.leaves ≡ component d b (f ∷ older) l u
      tells = record_tells d b valid base [] f older legal p n h l u hl hu q

      all_legal : Legal d b (r.newer ++ r.entry ∷ r.older)
      all_legal = subst (Legal d b) r.whole legal

      old : Legal d b (r.entry ∷ r.older)
      old = legal_prefix d b r.newer r.entry r.older all_legal

      same_layer : r.born.layer ≡ l
      same_layer =
          sym (node_id_layer d b valid base r.entry r.older old r.born.layer r.born.supervoxel r.born.layered r.born.known)
          ∙ (ap (λ i. (parts_of d.layout i).layer) (sym r.born.named ∙ q) ∙ node_id_layer d b valid base f older legal l u hl hu)

      -- its id had been given when it was made
      given : label d b (r.newer ++ r.entry ∷ r.older) l u ≤ used d b (r.entry ∷ r.older) l (chunk d l u)
      given =
          let ids : node d b (r.entry ∷ r.older) l r.born.supervoxel ≡ node d b (r.newer ++ r.entry ∷ r.older) l u =
          ap (λ k. node d b (r.entry ∷ r.older) k r.born.supervoxel) (sym same_layer) ∙ (sym r.born.named ∙ (q ∙ ap (λ x. node d b x l u) r.whole)) in
          let m = node_parts_of d b (r.entry ∷ r.older) (r.newer ++ r.entry ∷ r.older) l r.born.supervoxel u (width_low d.layout valid.layout.3 l)
          (labels_fit d b (r.entry ∷ r.older) l r.born.supervoxel old hl r.born.known) (labels_fit d b (r.newer ++ r.entry ∷ r.older) l u all_legal hl hu) ids in
          subst (λ x. x ≤ used d b (r.entry ∷ r.older) l (chunk d l u)) m.1
          (subst (λ c. label d b (r.entry ∷ r.older) l r.born.supervoxel ≤ used d b (r.entry ∷ r.older) l c) m.0 (label_used d b (r.entry ∷ r.older) l r.born.supervoxel r.born.known))

      kept : 3 ≤ l → (w : ℕ) → has n.leaves w ≡ true → node d b (r.entry ∷ r.older) (l - 1) w ≡ node d b (f ∷ older) (l - 1) w
      kept three w hw =
          let here : has (leaves d b (f ∷ older) l u) w ≡ true = subst (λ ls. has ls w ≡ true) (tells ∙ sym (leaves_node d b valid.layout (f ∷ older) l u two)) hw in
          sym (kids_kept r.newer r.entry r.older l u three (layer_low d l hl) hu given w (subst (λ x. has (leaves d b x l u) w ≡ true) r.whole here))
          ∙ ap (λ x. node d b x (l - 1) w) (sym r.whole)

      split : (t : Bool) → eqb l 2 ≡ t
          → cond t n.leaves (ascending (map (node d b (r.entry ∷ r.older) (l - 1)) n.leaves)) ≡ cond t n.leaves (ascending (map (node d b (f ∷ older) (l - 1)) n.leaves))
      split true t = refl
      split false t =
          let other : l ≡ 2 → ⊥ = eqb-false l 2 t in
          ap ascending (same_map (node d b (r.entry ∷ r.older) (l - 1)) (node d b (f ∷ older) (l - 1)) n.leaves (kept (above other)))
        where
          above : (l ≡ 2 → ⊥) → 3 ≤ l
          above other = elim (cases_lt 2 l) [ inl a ↦ omega (arith, a) | inr a ↦ absurd (other (let z : l ≡ 2 = omega (arith, two, a) in z)) ]

  -- a supervoxel's record has an id of layer 1
  abbrev Lowest : Row → Type 0
  Lowest (SupervoxelRow v) = (parts_of d.layout v).layer ≡ 1
  Lowest row = Unit {0}

  rows_lowest : (log : List Entry) → AllByRecursion Lowest (rows_of d b log)
  unfolding rows_of
  rows_lowest [] =
      all_base d b Lowest tt (all_more (λ v. has b.supervoxels v ≡ true) (λ v. Lowest (SupervoxelRow v)) b.supervoxels (supervoxel_layer d b valid base) (all_has_self b.supervoxels)) (all_each (λ c. Unit {0}) (chunks d b) (λ c. tt))
  rows_lowest (e ∷ log) =
      all_append Lowest (rows_of d b log) (entry_rows d b log e) (rows_lowest log)
      (all_entry d b Lowest log e (λ x. tt) (λ i. tt) (λ c. tt) (all_each (λ n. Unit {0}) (new_nodes d b (e ∷ log) e.number) (λ n. tt)) (all_each (λ l. Unit {0}) (new_links d b (e ∷ log) e.number) (λ l. tt)) tt)

  -- a supervoxel is its own leaf
  supervoxel_leaves : (log : List Entry) → Legal d b log → (v : ℕ) → has b.supervoxels v ≡ true → id_leaves (rows_of d b log) v ≡ v ∷ []
  unfolding id_leaves has_id row_leaves
  supervoxel_leaves log legal v hv =
      let rows : List Row = rows_of d b log in
      let f = found_from (has_id v) rows 0 rows refl (supervoxel_seen d b log v hv) in
      found_leaves rows v (place_from (has_id v) 0 rows) f.0 f.1 ∙ go f.0 f.1 f.2
    where
      go : (row : Row) → slice_get (rows_of d b log) (place_from (has_id v) 0 (rows_of d b log)) ≡ Some row → has_id v row ≡ true → row_leaves row ≡ v ∷ []
      go (SupervoxelRow x) s t = ap (λ y. y ∷ []) (eqb-true x v t)
      go (NodeRow n) s t =
          absurd (let two = node_layer d b valid base log legal (place_from (has_id v) 0 (rows_of d b log)) n s in
          let one = supervoxel_layer d b valid base v hv in
          let same : (parts_of d.layout n.id).layer ≡ (parts_of d.layout v).layer = ap (λ i. (parts_of d.layout i).layer) (eqb-true n.id v t) in
          omega arith)
      go row s t = absurd (false≢true t)

  -- a node's record has its leaves
  node_leaves : (e : Entry) (log : List Entry) → Legal d b (e ∷ log) → (l u : ℕ) → has (layers d) l ≡ true → has b.supervoxels u ≡ true → id_leaves (rows_of d b (e ∷ log)) (node d b (e ∷ log) l u) ≡ component d b (e ∷ log) l u
  unfolding id_leaves has_id row_leaves
  node_leaves e log legal l u hl hu =
      let f = found_from (has_id (node d b (e ∷ log) l u)) (rows_of d b (e ∷ log)) 0 (rows_of d b (e ∷ log)) refl (any_has (node d b (e ∷ log) l u) (rows_of d b (e ∷ log)) (known d b valid base e log legal l u hl hu)) in
      found_leaves (rows_of d b (e ∷ log)) (node d b (e ∷ log) l u) (place_from (has_id (node d b (e ∷ log) l u)) 0 (rows_of d b (e ∷ log))) f.0 f.1 ∙ go f.0 f.1 f.2
    where
      go : (row : Row) → slice_get (rows_of d b (e ∷ log)) (place_from (has_id (node d b (e ∷ log) l u)) 0 (rows_of d b (e ∷ log))) ≡ Some row → has_id (node d b (e ∷ log) l u) row ≡ true → row_leaves row ≡ component d b (e ∷ log) l u
      go (NodeRow n) s t = record_tells d b valid base [] e log legal (place_from (has_id (node d b (e ∷ log) l u)) 0 (rows_of d b (e ∷ log))) n s l u hl hu (eqb-true n.id (node d b (e ∷ log) l u) t)
      go (SupervoxelRow v) s t =
          absurd (let one : (parts_of d.layout v).layer ≡ 1 = all_at Lowest (rows_of d b (e ∷ log)) (rows_lowest (e ∷ log)) (place_from (has_id (node d b (e ∷ log) l u)) 0 (rows_of d b (e ∷ log))) (SupervoxelRow v) s in
          let same : (parts_of d.layout v).layer ≡ (parts_of d.layout (node d b (e ∷ log) l u)).layer = ap (λ i. (parts_of d.layout i).layer) (eqb-true v (node d b (e ∷ log) l u) t) in
          let high = node_id_layer d b valid base e log legal l u hl hu in
          let two = (layer_down d l hl).0 in
          omega arith)
      go row s t = absurd (false≢true t)

  -- the child that holds a supervoxel has the leaves of its node one layer below
  pub child_leaves : (e : Entry) (log : List Entry) → Legal d b (e ∷ log) → (l w : ℕ) → has (layers d) l ≡ true → has b.supervoxels w ≡ true → id_leaves (rows_of d b (e ∷ log)) (child_at d b (e ∷ log) l w) ≡ leaves d b (e ∷ log) (l - 1) w
  unfolding child_at
  child_leaves e log legal l w hl hw = go (eqb l 2) refl
    where
      go : (t : Bool) → eqb l 2 ≡ t → id_leaves (rows_of d b (e ∷ log)) (cond t w (node d b (e ∷ log) (l - 1) w)) ≡ leaves d b (e ∷ log) (l - 1) w
      go true t = let z : l ≡ 2 = eqb-true l 2 t in supervoxel_leaves (e ∷ log) legal w hw ∙ sym (leaves_one d b valid.layout (e ∷ log) (l - 1) w (omega (arith, z)))
      go false t =
          let down = layer_down d l hl in
          let hk = down.1 (eqb-false l 2 t) in
          node_leaves e log legal (l - 1) w hk hw ∙ sym (leaves_node d b valid.layout (e ∷ log) (l - 1) w ((layer_down d (l - 1) hk).0))
