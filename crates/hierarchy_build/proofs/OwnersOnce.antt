-- No two of the supervoxels and the nodes of the first entry have one id.
use Rattle.std.proofs.Common.{◌≡◌, ℕ, zero, suc, ◌^◌, ◌<◌, ◌≤◌, true, List, [], ◌∷◌, ◌++◌, length, map, get_or, refl, sym, ◌∙◌, ap, subst, arith}
use Rattle.std.specs.List.{AllByRecursion}
use Rattle.node_ids.specs.Ids.{parts_of}
use Rattle.op_model.specs.declared.base.Dataset.{Dataset}
use Rattle.op_model.specs.declared.base.Base.{Base}
use Rattle.graph_model.specs.Lists.{has}
use Rattle.op_model.specs.Chunks.{layers}
use Rattle.op_model.specs.Edges.{edges_after, put_changed}
use Rattle.op_model.specs.Labels.{edges, component, least, is_empty, is_new, new_among, used, rank, label, node}
use Rattle.op_model.specs.Operations.{first_entry}
use Rattle.op_model.specs.Legal.{Legal, LabelsFit}
use Rattle.op_model.specs.Valid.{IsBase, IsDataset, IsSupervoxel}
use Rattle.op_model.proofs.LegalLemmas.{labels_fit}
use Rattle.record_rows.specs.Rows.{Node}
use Rattle.record_rows.specs.LogRows.{new_node, layer_nodes, new_nodes}
use Rattle.record_rows.proofs.DifferLemmas.{Differ, all_each, all_flat, all_map, all_more, differ_append, differ_map, differ_more}
use Rattle.record_rows.proofs.LayerIds.{layer_told}
use Rattle.record_rows.proofs.LinkLemmas.{layer_down}
use Rattle.record_rows.proofs.Listings.{nodes_of}
use Rattle.record_rows.proofs.NodeOrder.{layer_made}
use Rattle.record_rows.proofs.OnceLemmas.{ascending_differ, layers_low, nodes_once}
use Rattle.base_rows.specs.Lists.{IsOnce}
use Rattle.op_model.specs.Ingest.{ingested}

abbrev pub Other : ℕ → ℕ → Type 0
Other i j = i ≡ j → ⊥

at_all : (P : ℕ → Type 0) (xs : List ℕ) (i : ℕ) → AllByRecursion P xs → i < length xs → P (get_or xs i 0)
at_all P [] i a l = absurd (omega arith)
at_all P (x ∷ xs) zero a l = a.0
at_all P (x ∷ xs) (suc i) a l = at_all P xs i a.1 (omega arith)

pub once : (xs : List ℕ) → Differ Other xs → IsOnce xs
once [] d i j l m e = absurd (omega arith)
once (x ∷ xs) d zero zero l m e = refl
once (x ∷ xs) d zero (suc j) l m e = absurd (at_all (Other x) xs j d.0 (omega arith) e)
once (x ∷ xs) d (suc i) zero l m e = absurd (at_all (Other x) xs i d.0 (omega arith) (sym e))
once (x ∷ xs) d (suc i) (suc j) l m e = ap suc (once xs d.1 i j (omega arith) (omega arith) e)

supervoxels_differ : (d : Dataset) (b : Base) → IsBase d b → Differ Other b.supervoxels
supervoxels_differ d b base =
    differ_more (λ i. Unit {0}) (λ i j. i < j) Other b.supervoxels (λ i j p q l e. omega arith) (all_each (λ i. Unit {0}) b.supervoxels (λ i. tt)) (ascending_differ b.supervoxels base.ascending)

module _ (d : Dataset) (b : Base) (valid : IsDataset d) (base : IsBase d b) (now : ℕ) (fit : LabelsFit d b (ingested d b now)) where
  -- the time of the entry is not in its nodes
  legal : Legal d b (ingested d b 0)
  unfolding label is_new is_empty used rank new_among least component edges edges_after put_changed first_entry
  legal = (refl, omega arith, fit)

  same_nodes : new_nodes d b (ingested d b 0) 0 ≡ new_nodes d b (ingested d b now) 0
  unfolding new_nodes layer_nodes new_node node label is_new is_empty used rank new_among least component edges edges_after put_changed first_entry
  same_nodes = refl

  nodes_differ : Differ Other (map (λ (n : Node). n.id) (new_nodes d b (ingested d b 0) 0))
  unfolding nodes_of first_entry
  nodes_differ = differ_map (λ (n : Node). n.id) Other (new_nodes d b (ingested d b 0) 0) (nodes_once d b valid base (ingested d b 0) legal)

  -- the layer that a node's id tells is at least 2
  high : AllByRecursion (λ (n : Node). 2 ≤ (parts_of d.layout n.id).layer) (new_nodes d b (ingested d b 0) 0)
  unfolding new_nodes node
  high =
      all_flat (layer_nodes d b (ingested d b 0) 0) (λ (n : Node). 2 ≤ (parts_of d.layout n.id).layer) (layers d)
      (all_more (λ l. (has (layers d) l ≡ true) × (l < 2 ^ 8)) (λ l. AllByRecursion (λ (n : Node). 2 ≤ (parts_of d.layout n.id).layer) (layer_nodes d b (ingested d b 0) 0 l)) (layers d)
      (λ l p. all_more _ (λ (n : Node). 2 ≤ (parts_of d.layout n.id).layer) (layer_nodes d b (ingested d b 0) 0 l)
      (λ n q.
      let v : ℕ = q.1.0 in
      let e : (parts_of d.layout n.id).layer ≡ l =
      ap (λ i. (parts_of d.layout i).layer) q.1.5 ∙ layer_told d valid.layout l v (label d b (ingested d b 0) l v) p.1 (labels_fit d b (ingested d b 0) l v legal p.0 q.1.1) in
      let two = (layer_down d l p.0).0 in
      omega (arith, e, two))
      (layer_made d b valid base (ingested d b 0) 0 l)) (layers_low d))

  pub nodes_stand_once : IsOnce (map (λ n. n.id) (new_nodes d b (ingested d b now) 0))
  nodes_stand_once = subst (λ ns. IsOnce (map (λ (n : Node). n.id) ns)) same_nodes (once (map (λ (n : Node). n.id) (new_nodes d b (ingested d b 0) 0)) nodes_differ)

  pub owners_once : IsOnce (b.supervoxels ++ map (λ n. n.id) (new_nodes d b (ingested d b now) 0))
  owners_once =
      let ids : List ℕ = map (λ (n : Node). n.id) (new_nodes d b (ingested d b 0) 0) in
      subst (λ ns. IsOnce (b.supervoxels ++ map (λ (n : Node). n.id) ns)) same_nodes
      (once (b.supervoxels ++ ids) (differ_append Other b.supervoxels ids (supervoxels_differ d b base) nodes_differ
      (all_more (λ v. (parts_of d.layout v).layer ≡ 1) (λ v. AllByRecursion (Other v) ids) b.supervoxels
      (λ v one. all_map (λ (n : Node). n.id) (Other v) (new_nodes d b (ingested d b 0) 0)
      (all_more (λ (n : Node). 2 ≤ (parts_of d.layout n.id).layer) (λ (n : Node). v ≡ n.id → ⊥) (new_nodes d b (ingested d b 0) 0)
      (λ n two e. let f = ap (λ i. (parts_of d.layout i).layer) e in omega (arith, one, two, f)) high))
      (all_more (IsSupervoxel d) (λ v. (parts_of d.layout v).layer ≡ 1) b.supervoxels (λ v p. p.0) base.supervoxels))))
