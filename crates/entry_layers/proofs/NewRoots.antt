-- The roots that an entry makes are the nodes of its top layer.
use Rattle.std.proofs.Common.{◌≡◌, ◌∙◌, ℕ, true, List, [], ◌∷◌, map, refl, sym, ap, subst, inl, inr, ◌||◌}
use Rattle.std.specs.List.{AllByRecursion}
use Rattle.std.proofs.lemmas.Bool.{or_left, or_right}
use Rattle.graph_model.specs.Lists.{has}
use Rattle.graph_model.proofs.ListLemmas.{has_cases, has_head, has_none, has_tail}
use Rattle.op_model.specs.declared.base.Base.{Base}
use Rattle.op_model.specs.declared.base.Dataset.{Dataset}
use Rattle.op_model.specs.declared.entry.Changed.{Changed}
use Rattle.op_model.specs.declared.entry.Entry.{Entry}
use Rattle.op_model.specs.Chunks.{chunk, members, top}
use Rattle.op_model.specs.Labels.{component, is_empty, is_new, least, new_among, node, root, touches}
use Rattle.op_model.specs.Operations.{ascending, ends}
use Rattle.op_model.specs.Valid.{IsBase, IsDataset}
use Rattle.op_model.proofs.LabelLemmas.{joined_label, least_component, least_member, least_new, members_in, own_component}
use Rattle.op_model.proofs.LegalLemmas.{ascending_has, map_has}
use Rattle.op_model.proofs.LocalLemmas.{component_Joined, touches_end}
use Rattle.op_model.proofs.LockLemmas.{ascending_ascends}
use Rattle.op_model.proofs.MadeLemmas.{ascending_only, map_only}
use Rattle.layer_laws.proofs.OrderLemmas.{same_ascending}
use Rattle.record_rows.specs.Rows.{Node}
use Rattle.record_rows.specs.LogRows.{layer_chunks, layer_nodes, new_node}
use Rattle.record_rows.proofs.LinkLemmas.{Among, among_flat, among_has, among_map, of_component}
use Rattle.record_rows.proofs.NodeOrder.{layer_made}
use Rattle.entry_parts.specs.declared.made.MadeNode.{MadeNode}
use Rattle.entry_parts.specs.Made.{AreMadeIn, told_made, told_node}

id_there : (n : Node) (ns : List Node) → Among n ns → has (map (λ m. m.id) ns) n.id ≡ true
id_there n [] a = absurd a
id_there n (m ∷ ns) (inl e) = subst (λ (x : Node). has (m.id ∷ map (λ k. k.id) ns) x.id ≡ true) e (has_head m.id (map (λ k. k.id) ns))
id_there n (m ∷ ns) (inr a) = has_tail m.id (map (λ k. k.id) ns) n.id (id_there n ns a)

id_of_all : (P : Node → Type 0) (ns : List Node) (x : ℕ) → AllByRecursion P ns → has (map (λ m. m.id) ns) x ≡ true → (n : Node) × P n × (n.id ≡ x)
id_of_all P [] x a h = has_none x h
id_of_all P (n ∷ ns) x a h = elim (has_cases n.id (map (λ m. m.id) ns) x h) [ inl q ↦ (n, a.0, q) | inr g ↦ id_of_all P ns x a.1 g ]

ids_made : (ms : List MadeNode) → map (λ (t : ℕ × ℕ × ℕ). t.0) (map told_made ms) ≡ map (λ m. m.id) ms
ids_made [] = refl
ids_made (m ∷ ms) = ap (λ xs. m.id ∷ xs) (ids_made ms)

ids_nodes : (ns : List Node) → map (λ (t : ℕ × ℕ × ℕ). t.0) (map told_node ns) ≡ map (λ n. n.id) ns
ids_nodes [] = refl
ids_nodes (n ∷ ns) = ap (λ xs. n.id ∷ xs) (ids_nodes ns)

pub ids_told : (ms : List MadeNode) (ns : List Node) → map told_made ms ≡ map told_node ns → map (λ m. m.id) ms ≡ map (λ n. n.id) ns
ids_told ms ns e = sym (ids_made ms) ∙ (ap (map (λ (t : ℕ × ℕ × ℕ). t.0)) e ∙ ids_nodes ns)

end_touches : (cs : List Changed) (vs : List ℕ) (x : ℕ) → has (ends cs) x ≡ true → has vs x ≡ true → touches cs vs ≡ true
unfolding ends touches
end_touches [] vs x h k = has_none x h
end_touches (c ∷ cs) vs x h k =
    elim (has_cases c.pair.a (c.pair.b ∷ ends cs) x h) [
      | inl q ↦ or_left (has vs c.pair.a || has vs c.pair.b) _ (or_left (has vs c.pair.a) _ (subst (λ z. has vs z ≡ true) (sym q) k))
      | inr g ↦ elim (has_cases c.pair.b (ends cs) x g) [
        | inl q ↦ or_left (has vs c.pair.a || has vs c.pair.b) _ (or_right (has vs c.pair.a) _ (subst (λ z. has vs z ≡ true) (sym q) k))
        | inr m ↦ or_right (has vs c.pair.a || has vs c.pair.b) _ (end_touches cs vs x m k)
      ]
    ]

module _ (d : Dataset) (b : Base) (valid : IsDataset d) (base : IsBase d b) (e f : Entry) (log : List Entry) (known : (u : ℕ) → has (ends e.changed) u ≡ true → has b.supervoxels u ≡ true) where
  abbrev whole : List Entry
  whole = e ∷ f ∷ log

  -- leaves of one node have one root
  one_root : (u v : ℕ) → has b.supervoxels u ≡ true → has b.supervoxels v ≡ true → has (component d b whole (top d) u) v ≡ true → root d b whole u ≡ root d b whole v
  unfolding root node
  one_root u v hu hv h =
      let c : chunk d (top d) u ≡ chunk d (top d) v = (of_component d b valid base whole (top d) u v h).1 in
      let l = joined_label d b e (f ∷ log) (top d) u v hu hv c (component_Joined d b whole (top d) u v h) in
      cc

  -- a new node of the top layer is the root of an end
  of_end : (v : ℕ) → has b.supervoxels v ≡ true → is_new d b whole (top d) v ≡ true → has (map (root d b whole) (ends e.changed)) (root d b whole v) ≡ true
  unfolding is_new is_empty
  of_end v hv n =
      let t = touches_end e.changed (component d b whole (top d) v) n in
      subst (λ x. has (map (root d b whole) (ends e.changed)) x ≡ true) (sym (one_root v t.0 hv (known t.0 t.1) t.2)) (map_has (root d b whole) (ends e.changed) t.0 t.1)

  end_new : (u : ℕ) → has (ends e.changed) u ≡ true → is_new d b whole (top d) u ≡ true
  unfolding is_new is_empty
  end_new u h = end_touches e.changed (component d b whole (top d) u) u h (own_component d b whole (top d) u (known u h))

  -- the root of an end is a node of the top layer
  end_made : (k u : ℕ) → has (ends e.changed) u ≡ true → has (map (λ n. n.id) (layer_nodes d b whole k (top d))) (root d b whole u) ≡ true
  unfolding layer_nodes layer_chunks new_node root
  end_made k u h =
      let l : ℕ = top d in
      let hu = known u h in
      let w : ℕ = least d b whole l u in
      let c : ℕ = chunk d l u in
      let there : Among (new_node d b whole k l w) (layer_nodes d b whole k l) =
      among_flat (λ c. map (new_node d b whole k l) (new_among d b whole l (members d b l c))) c (new_node d b whole k l w) (layer_chunks d b l)
      (among_has c (layer_chunks d b l) (ascending_has (map (chunk d l) b.supervoxels) c (map_has (chunk d l) b.supervoxels u hu)))
      (among_map (new_node d b whole k l) w (new_among d b whole l (members d b l c)) (among_has w (new_among d b whole l (members d b l c)) (least_new d b whole l u hu (end_new u h)))) in
      let hw = (members_in d b l c w (least_member d b whole l u hu)).0 in
      let same : root d b whole w ≡ root d b whole u = one_root w u hw hu (subst (λ vs. has vs u ≡ true) (sym (least_component d b whole l u hu)) (own_component d b whole l u hu)) in
      subst (λ x. has (map (λ n. n.id) (layer_nodes d b whole k l)) x ≡ true) same (id_there (new_node d b whole k l w) (layer_nodes d b whole k l) there)

  pub roots_are : (ms : List MadeNode) → AreMadeIn d b (f ∷ log) e (top d) ms → ascending (map (λ m. m.id) ms) ≡ ascending (map (root d b whole) (ends e.changed))
  unfolding root
  roots_are ms made =
      let told : map (λ m. m.id) ms ≡ map (λ n. n.id) (layer_nodes d b whole e.number (top d)) = ids_told ms (layer_nodes d b whole e.number (top d)) made in
      same_ascending (ascending (map (λ m. m.id) ms)) (ascending (map (root d b whole) (ends e.changed))) (ascending_ascends _) (ascending_ascends _)
      (λ x h.
      let i = id_of_all _ (layer_nodes d b whole e.number (top d)) x (layer_made d b valid base whole e.number (top d)) (subst (λ xs. has xs x ≡ true) told (ascending_only (map (λ m. m.id) ms) x h)) in
      let v = i.1.1 in
      ascending_has (map (root d b whole) (ends e.changed)) x (subst (λ y. has (map (root d b whole) (ends e.changed)) y ≡ true) (sym v.5 ∙ i.2) (of_end v.0 v.1 v.3)))
      (λ x h.
      let i = map_only (root d b whole) (ends e.changed) x (ascending_only (map (root d b whole) (ends e.changed)) x h) in
      ascending_has (map (λ m. m.id) ms) x (subst (λ xs. has xs x ≡ true) (sym told) (subst (λ y. has (map (λ n. n.id) (layer_nodes d b whole e.number (top d))) y ≡ true) i.2 (end_made e.number i.0 i.1))))
