-- The least leaves of the nodes that an entry makes in a layer.
use Rattle.std.proofs.Common.{◌≡◌, ◌∙◌, ℕ, Bool, true, ◌&&◌, eqb, List, [], ◌∷◌, map, refl, sym, ap, subst, inl, inr}
use Rattle.std.specs.List.{AllByRecursion}
use Rattle.std.proofs.lemmas.Bool.{and_from, and_parts, eq-eqb, eqb-true}
use Rattle.graph_model.specs.Lists.{has, head_or}
use Rattle.graph_model.proofs.ListLemmas.{filter_has, filter_only, has_cases, has_head, has_none, has_tail, head_same}
use Rattle.op_model.specs.declared.base.Base.{Base}
use Rattle.op_model.specs.declared.base.Dataset.{Dataset}
use Rattle.op_model.specs.declared.entry.Entry.{Entry}
use Rattle.op_model.specs.Chunks.{chunk, members}
use Rattle.op_model.specs.Labels.{component, is_new, least, new_among}
use Rattle.op_model.proofs.LabelLemmas.{in_members, members_in, own_component}
use Rattle.op_model.proofs.LegalLemmas.{ascending_has, map_has}
use Rattle.record_rows.specs.Rows.{Node}
use Rattle.record_rows.specs.LogRows.{layer_chunks, layer_nodes, new_node}
use Rattle.record_rows.proofs.DifferLemmas.{all_each, all_flat, all_map}
use Rattle.record_rows.proofs.LinkLemmas.{Among, among_flat, among_has, among_map}
use Rattle.entry_parts.specs.declared.made.MadeNode.{MadeNode}
use Rattle.entry_parts.specs.Made.{AreMadeIn, told_made, told_node}

module _ (d : Dataset) (b : Base) (log : List Entry) (e : Entry) (layer : ℕ) where
  abbrev whole : List Entry
  whole = e ∷ log

  least_told : (c v : ℕ) → has (new_among d b whole layer (members d b layer c)) v ≡ true → (has b.supervoxels v ≡ true) × (chunk d layer v ≡ c) × (least d b whole layer v ≡ v) × (is_new d b whole layer v ≡ true)
  unfolding new_among
  least_told c v h =
      let f = filter_only (λ u. eqb (least d b whole layer u) u && is_new d b whole layer u) (members d b layer c) v h in
      let m = members_in d b layer c v f.0 in
      let t = and_parts _ _ f.1 in (m.0, m.1, eqb-true (least d b whole layer v) v t.0, t.1)

  pub head_least : (v : ℕ) → has b.supervoxels v ≡ true → least d b whole layer v ≡ v → head_or 0 (component d b whole layer v) ≡ v
  unfolding least
  head_least v h l = head_same 0 v (component d b whole layer v) v (own_component d b whole layer v h) ∙ l

  all_kept : (P : ℕ → Type 0) (xs : List ℕ) → ((v : ℕ) → has xs v ≡ true → P v) → AllByRecursion P xs
  all_kept P [] f = tt
  all_kept P (x ∷ xs) f = (f x (has_head x xs), all_kept P xs (λ v h. f v (has_tail x xs v h)))

  leasts_made : (ms : List MadeNode) → map (λ (t : ℕ × ℕ × ℕ). t.2) (map told_made ms) ≡ map (λ m. m.least) ms
  leasts_made [] = refl
  leasts_made (m ∷ ms) = ap (λ xs. m.least ∷ xs) (leasts_made ms)

  leasts_nodes : (ns : List Node) → map (λ (t : ℕ × ℕ × ℕ). t.2) (map told_node ns) ≡ map (λ n. head_or 0 n.leaves) ns
  leasts_nodes [] = refl
  leasts_nodes (n ∷ ns) = ap (λ xs. head_or 0 n.leaves ∷ xs) (leasts_nodes ns)

  pub leasts_told : (ms : List MadeNode) (number : ℕ) → map told_made ms ≡ map told_node (layer_nodes d b whole number layer) → map (λ m. m.least) ms ≡ map (λ n. head_or 0 n.leaves) (layer_nodes d b whole number layer)
  leasts_told ms number q = sym (leasts_made ms) ∙ (ap (map (λ (t : ℕ × ℕ × ℕ). t.2)) q ∙ leasts_nodes (layer_nodes d b whole number layer))

  head_there : (n : Node) (ns : List Node) → Among n ns → has (map (λ m. head_or 0 m.leaves) ns) (head_or 0 n.leaves) ≡ true
  head_there n [] a = absurd a
  head_there n (m ∷ ns) (inl q) = subst (λ (x : Node). has (head_or 0 m.leaves ∷ map (λ k. head_or 0 k.leaves) ns) (head_or 0 x.leaves) ≡ true) q (has_head (head_or 0 m.leaves) (map (λ k. head_or 0 k.leaves) ns))
  head_there n (m ∷ ns) (inr a) = has_tail (head_or 0 m.leaves) (map (λ k. head_or 0 k.leaves) ns) (head_or 0 n.leaves) (head_there n ns a)

  -- each new least leaf is that of one of the nodes
  pub least_there : (ms : List MadeNode) (v : ℕ) → AreMadeIn d b log e layer ms → has b.supervoxels v ≡ true → least d b whole layer v ≡ v → is_new d b whole layer v ≡ true → has (map (λ m. m.least) ms) v ≡ true
  unfolding layer_nodes new_among new_node layer_chunks
  least_there ms v made h l n =
      let c : ℕ = chunk d layer v in
      let test : ℕ → Bool = λ u. eqb (least d b whole layer u) u && is_new d b whole layer u in
      let here : has (new_among d b whole layer (members d b layer c)) v ≡ true = filter_has test (members d b layer c) v (in_members d b layer c v h refl) (and_from _ _ (eq-eqb (least d b whole layer v) v l) n) in
      let there : Among (new_node d b whole e.number layer v) (layer_nodes d b whole e.number layer) =
      among_flat (λ c. map (new_node d b whole e.number layer) (new_among d b whole layer (members d b layer c))) c (new_node d b whole e.number layer v) (layer_chunks d b layer)
      (among_has c (layer_chunks d b layer) (ascending_has (map (chunk d layer) b.supervoxels) c (map_has (chunk d layer) b.supervoxels v h)))
      (among_map (new_node d b whole e.number layer) v (new_among d b whole layer (members d b layer c)) (among_has v (new_among d b whole layer (members d b layer c)) here)) in
      subst (λ xs. has xs v ≡ true) (sym (leasts_told ms e.number made)) (subst (λ x. has (map (λ k. head_or 0 k.leaves) (layer_nodes d b whole e.number layer)) x ≡ true) (head_least v h l) (head_there (new_node d b whole e.number layer v) (layer_nodes d b whole e.number layer) there))

  -- a least leaf of a new node
  abbrev IsNewLeast : ℕ → Type 0
  IsNewLeast v = (has b.supervoxels v ≡ true) × (least d b whole layer v ≡ v) × (is_new d b whole layer v ≡ true)

  heads_new : (number : ℕ) → AllByRecursion (λ n. IsNewLeast (head_or 0 n.leaves)) (layer_nodes d b whole number layer)
  unfolding layer_nodes new_node
  heads_new number =
      all_flat (λ c. map (new_node d b whole number layer) (new_among d b whole layer (members d b layer c))) (λ n. IsNewLeast (head_or 0 n.leaves)) (layer_chunks d b layer)
      (all_each (λ c. AllByRecursion (λ n. IsNewLeast (head_or 0 n.leaves)) (map (new_node d b whole number layer) (new_among d b whole layer (members d b layer c)))) (layer_chunks d b layer)
      (λ c. all_map (new_node d b whole number layer) (λ n. IsNewLeast (head_or 0 n.leaves)) (new_among d b whole layer (members d b layer c))
      (all_kept (λ v. IsNewLeast (head_or 0 (component d b whole layer v))) (new_among d b whole layer (members d b layer c))
      (λ v h. let t = least_told c v h in subst IsNewLeast (sym (head_least v t.0 t.2)) (t.0, t.2, t.3)))))

  head_in : (P : ℕ → Type 0) (ns : List Node) (v : ℕ) → AllByRecursion (λ n. P (head_or 0 n.leaves)) ns → has (map (λ n. head_or 0 n.leaves) ns) v ≡ true → P v
  head_in P [] v a h = has_none v h
  head_in P (n ∷ ns) v a h = elim (has_cases (head_or 0 n.leaves) (map (λ k. head_or 0 k.leaves) ns) v h) [ inl q ↦ subst P q a.0 | inr g ↦ head_in P ns v a.1 g ]

  pub least_is_new : (ms : List MadeNode) (v : ℕ) → AreMadeIn d b log e layer ms → has (map (λ m. m.least) ms) v ≡ true → (has b.supervoxels v ≡ true) × (least d b whole layer v ≡ v) × (is_new d b whole layer v ≡ true)
  least_is_new ms v made h = head_in IsNewLeast (layer_nodes d b whole e.number layer) v (heads_new e.number) (subst (λ xs. has xs v ≡ true) (leasts_told ms e.number made) h)
