-- The record of a supervoxel's root, and the leaves in it.
use Rattle.std.proofs.Common.{◌≡◌, ℕ, zero, suc, ◌^◌, ◌<◌, ◌≤◌, Bool, true, eqb, List, [], ◌∷◌, length, Some, None, refl, sym, ◌∙◌, subst, arith, eqb-true, ne_eqb}
use Rattle.std.specs.List.{filter, list_any, slice_get}
use Rattle.std.proofs.lemmas.Bool.{false≢true, cond-false}
use Rattle.std.proofs.lemmas.Option.{same_Some}
use Rattle.node_ids.specs.Ids.{parts_of}
use Rattle.op_model.specs.declared.base.Dataset.{Dataset}
use Rattle.op_model.specs.declared.base.Base.{Base}
use Rattle.op_model.specs.declared.entry.Entry.{Entry}
use Rattle.graph_model.specs.Lists.{has}
use Rattle.graph_model.specs.Components.{component_of, grow, reached}
use Rattle.graph_model.proofs.ListLemmas.{filter_length}
use Rattle.op_model.specs.Chunks.{chunk, members, top}
use Rattle.op_model.specs.Edges.{linked}
use Rattle.op_model.specs.Labels.{component, edges, node, root}
use Rattle.op_model.specs.Legal.{Legal}
use Rattle.op_model.specs.Records.{base_records, records}
use Rattle.op_model.proofs.LocalLemmas.{top_in_layers}
use Rattle.record_rows.specs.Rows.{Row, HeaderRow, SupervoxelRow, NodeRow, Node}
use Rattle.record_rows.specs.Chains.{has_id, is_node}
use Rattle.record_rows.specs.LogRows.{rows_of}
use Rattle.record_rows.specs.Readings.{HoldsNode, ParentImage, first_place, place_of}
use Rattle.record_rows.specs.Words.{place_from}
use Rattle.record_rows.proofs.ImageFacts.{header}
use Rattle.record_rows.proofs.NodeIds.{node_layer, supervoxel_layer}
use Rattle.record_rows.proofs.NodePlaces.{found_from, known, node_place}
use Rattle.node_reader.proofs.ChildRows.{any_has}
use Rattle.node_reader.proofs.NodeLeaves.{record_tells}

-- a component has no more members than its chunk
reached_few : (link : ℕ → ℕ → Bool) (all : List ℕ) (u n : ℕ) → length (reached link all u n) ≤ length all
unfolding reached grow
reached_few link all u zero = filter_length _ all
reached_few link all u (suc n) = filter_length _ all

module _ (d : Dataset) (b : Base) where
  component_few : (log : List Entry) (l v : ℕ) → length (component d b log l v) ≤ length b.supervoxels
  unfolding component component_of members
  component_few log l v =
      let all : List ℕ = filter (λ w. eqb (chunk d l w) (chunk d l v)) b.supervoxels in
      let p = reached_few (linked (edges d b log)) all v (length all) in
      let q = filter_length (λ w. eqb (chunk d l w) (chunk d l v)) b.supervoxels in
      omega (arith, p, q)

  supervoxels_few : (log : List Entry) → Legal d b log → length b.supervoxels ≤ records d b log
  unfolding records base_records
  supervoxels_few [] legal = absurd legal
  supervoxels_few (e ∷ []) legal = omega arith
  supervoxels_few (e ∷ f ∷ log) legal = let p = supervoxels_few (f ∷ log) legal.1 in omega (arith, p)

same_row : {r s : Row} → Some r ≡ Some s → r ≡ s
same_row {r = r} {s = s} e = same_Some r s e

header_not : (d : Dataset) (m n id : ℕ) (row : Row) → HeaderRow d m n ≡ row → has_id id row ≡ true → ⊥
unfolding has_id
header_not d m n id row e t = false≢true (subst (λ (r : Row). has_id id r ≡ true) (sym e) t)

module _ (d : Dataset) (b : Base) (log : List Entry) (words : List ℕ) (i : ParentImage d b log words) (v : ℕ) (hv : has b.supervoxels v ≡ true) where
  id : ℕ
  id = root d b log v

  -- the layer of a root's id is at least 2
  high : 2 ≤ (parts_of d.layout (root d b log v)).layer
  unfolding root
  high = go log refl
    where
      go : (l : List Entry) → l ≡ log → 2 ≤ (parts_of d.layout (node d b log (top d) v)).layer
      go [] e = absurd (subst (Legal d b) (sym e) i.legal)
      go (e ∷ older) q =
          let legal : Legal d b (e ∷ older) = subst (Legal d b) (sym q) i.legal in
          let p = node_place d b i.dataset i.base [] e older legal (top d) v (top_in_layers d) hv in
          let low = node_layer d b i.dataset i.base (e ∷ older) legal (place_from (is_node (node d b (e ∷ older) (top d) v)) 0 (rows_of d b (e ∷ older))) p.0 p.1 in
          subst (λ l. 2 ≤ (parts_of d.layout (node d b l (top d) v)).layer) q (subst (λ x. 2 ≤ (parts_of d.layout x).layer) p.2 low)

  -- some record has that id
  seen : list_any (has_id (root d b log v)) (rows_of d b log) ≡ true
  unfolding root
  seen = go log refl
    where
      go : (l : List Entry) → l ≡ log → list_any (has_id (node d b log (top d) v)) (rows_of d b log) ≡ true
      go [] e = absurd (subst (Legal d b) (sym e) i.legal)
      go (e ∷ older) q =
          let legal : Legal d b (e ∷ older) = subst (Legal d b) (sym q) i.legal in
          subst (λ l. list_any (has_id (node d b l (top d) v)) (rows_of d b l) ≡ true) q
          (any_has (node d b (e ∷ older) (top d) v) (rows_of d b (e ∷ older)) (known d b i.dataset i.base e older legal (top d) v (top_in_layers d) hv))

  -- the search for a root's id leads to the record of its node
  pub root_stands : (p : ℕ) × (n : Node) × (first_place (has_id (root d b log v)) (rows_of d b log) ≡ Some p) × HoldsNode d b log p n × (n.id ≡ root d b log v)
  unfolding has_id place_of first_place place_from
  root_stands =
      let rows : List Row = rows_of d b log in
      let q : ℕ = place_from (has_id (root d b log v)) 0 (rows_of d b log) in
      let f = found_from (has_id (root d b log v)) rows 0 rows refl seen in
      let n = is_row f.0 q f.1 f.2 in
      (q, n.0, behind q f.0 f.1 f.2, n.1, n.2)
    where
      is_row : (row : Row) (q : ℕ) → slice_get (rows_of d b log) q ≡ Some row → has_id (root d b log v) row ≡ true → (n : Node) × HoldsNode d b log q n × (n.id ≡ root d b log v)
      is_row (NodeRow n) q g t = (n, g, eqb-true n.id (root d b log v) t)
      is_row (SupervoxelRow u) q g t =
          absurd (let e : u ≡ root d b log v = eqb-true u (root d b log v) t in
          let one : (parts_of d.layout u).layer ≡ 1 = supervoxel_layer d b i.dataset i.base log words i q u g in
          let two : 2 ≤ (parts_of d.layout u).layer = subst (λ x. 2 ≤ (parts_of d.layout x).layer) (sym e) high in
          omega (arith, one, two))
      is_row row q g t = absurd (false≢true t)

      behind : (q : ℕ) (row : Row) → slice_get (rows_of d b log) q ≡ Some row → has_id (root d b log v) row ≡ true → place_of q ≡ Some q
      behind zero row g t = absurd (header_not d _ _ (root d b log v) row (same_row (sym (header d b log words i) ∙ g)) t)
      behind (suc q) row g t = cond-false (eqb (suc q) 0) None (Some (suc q)) (ne_eqb (suc q) 0 (λ e. omega (arith, e)))

  -- the leaves in it are the component of the supervoxel, which are few
  pub leaves_few : (p : ℕ) (n : Node) → HoldsNode d b log p n → n.id ≡ root d b log v → length n.leaves < 2 ^ 32
  unfolding root
  leaves_few p n h e = go log refl h e
    where
      go : (l : List Entry) → l ≡ log → HoldsNode d b log p n → n.id ≡ node d b log (top d) v → length n.leaves < 2 ^ 32
      go [] q g s = absurd (subst (Legal d b) (sym q) i.legal)
      go (x ∷ older) q g s =
          let legal : Legal d b (x ∷ older) = subst (Legal d b) (sym q) i.legal in
          let there : HoldsNode d b (x ∷ older) p n = subst (λ l. HoldsNode d b l p n) (sym q) g in
          let named : n.id ≡ node d b (x ∷ older) (top d) v = subst (λ l. n.id ≡ node d b l (top d) v) (sym q) s in
          let tells : n.leaves ≡ component d b (x ∷ older) (top d) v = record_tells d b i.dataset i.base [] x older legal p n there (top d) v (top_in_layers d) hv named in
          let few : length n.leaves ≤ length b.supervoxels = subst (λ xs. length xs ≤ length b.supervoxels) (sym tells) (component_few d b (x ∷ older) (top d) v) in
          let all = supervoxels_few d b log i.legal in
          let fits = i.fits in
          let most = i.dataset.capacity.1 in
          omega (arith, few, all, fits, most)
