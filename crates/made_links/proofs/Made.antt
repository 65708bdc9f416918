-- What is known of the nodes that an entry makes in a layer, from what is told of them.
use Rattle.std.proofs.Common.{◌≡◌, ℕ, zero, suc, ◌<◌, true, ◌&&◌, eqb, List, [], ◌∷◌, length, map, get_or, refl, sym, ◌∙◌, ap, subst, inl, inr, arith, eq-eqb}
use Rattle.std.specs.List.{AllByRecursion, filter, flat_map}
use Rattle.std.proofs.lemmas.Bool.{and_from, cases_order}
use Rattle.std.proofs.lemmas.List.Elements.{All-from_recursion}
use Rattle.op_model.specs.declared.base.Dataset.{Dataset}
use Rattle.op_model.specs.declared.base.Base.{Base}
use Rattle.op_model.specs.declared.entry.Entry.{Entry}
use Rattle.graph_model.specs.Lists.{has, head_or}
use Rattle.op_model.specs.Chunks.{chunk, members}
use Rattle.op_model.specs.Labels.{component, is_new, least, new_among, node}
use Rattle.op_model.specs.Valid.{IsBase, IsDataset}
use Rattle.graph_model.proofs.ListLemmas.{filter_has, has_cases, has_none, head_same}
use Rattle.op_model.proofs.LegalLemmas.{ascending_has, map_has}
use Rattle.op_model.proofs.LabelLemmas.{in_members, own_component}
use Rattle.record_rows.specs.Rows.{Node}
use Rattle.record_rows.specs.LogRows.{layer_chunks, new_node, layer_nodes}
use Rattle.record_rows.proofs.BaseCounts.{flat_has}
use Rattle.record_rows.proofs.DifferLemmas.{Differ, all_each, all_flat, all_map, all_more, differ_map}
use Rattle.record_rows.specs.LogRows.{new_nodes}
use Rattle.record_rows.proofs.ChildOrder.{differ_split}
use Rattle.record_rows.proofs.Listings.{nodes_of}
use Rattle.record_rows.proofs.NodeOrder.{Ordered, nodes_ordered}
use Rattle.op_model.specs.Chunks.{layers}
use Rattle.record_rows.proofs.OnceLemmas.{least_all}
use Rattle.octree_layers.proofs.Grouping.{flat_same, map_flat}
use Rattle.octree_layers.proofs.Leaves.{map_twice}
use Rattle.entry_parts.specs.declared.made.MadeNode.{MadeNode}
use Rattle.entry_parts.specs.Made.{AreMadeIn, told_made, told_node}

abbrev Told : Type 0
Told = ℕ × ℕ × ℕ

pub all_unmap : {X Y : Type 0} (f : X → Y) (P : Y → Type 0) (xs : List X) → AllByRecursion P (map f xs) → AllByRecursion (λ x. P (f x)) xs
all_unmap f P [] a = tt
all_unmap f P (x ∷ xs) a = (a.0, all_unmap f P xs a.1)

pub differ_unmap : {X Y : Type 0} (f : X → Y) (R : Y → Y → Type 0) (xs : List X) → Differ R (map f xs) → Differ (λ x y. R (f x) (f y)) xs
differ_unmap f R [] a = tt
differ_unmap f R (x ∷ xs) a = (all_unmap f (R (f x)) xs a.0, differ_unmap f R xs a.1)

pub differ_at : {X : Type 0} (R : X → X → Type 0) (xs : List X) (i j : ℕ) (x : X) → Differ R xs → i < j → j < length xs → R (get_or xs i x) (get_or xs j x)
differ_at R [] i j x a l m = absurd (omega arith)
differ_at R (y ∷ ys) i zero x a l m = absurd (omega arith)
differ_at R (y ∷ ys) zero (suc j) x a l m = All-from_recursion (R y) ys a.0 j x (omega arith)
differ_at R (y ∷ ys) (suc i) (suc j) x a l m = differ_at R ys i j x a.1 (omega arith) (omega arith)

-- what differs in all parts differs in each
differ_piece : {X : Type 0} (R : X → X → Type 0) (f : ℕ → List X) (ls : List ℕ) (l : ℕ) → Differ R (flat_map f ls) → has ls l ≡ true → Differ R (f l)
differ_piece R f [] l a h = has_none l h
differ_piece R f (k ∷ ls) l a h =
    let s = differ_split R (f k) (flat_map f ls) a in
    elim (has_cases k ls l h) [ inl q ↦ subst (λ y. Differ R (f y)) q s.0 | inr g ↦ differ_piece R f ls l s.1 g ]

module _ (d : Dataset) (b : Base) (valid : IsDataset d) (base : IsBase d b) (log : List Entry) (e : Entry) (layer : ℕ) (ms : List MadeNode) (are : AreMadeIn d b log e layer ms) where
  abbrev new : List Entry
  new = e ∷ log

  -- a new node of the layer by its least leaf
  pub record IsMade (t : Told) : Type 0 where
    pub id : t.0 ≡ node d b (e ∷ log) layer t.2
    pub chunk_is : t.1 ≡ chunk d layer t.2
    pub known : has b.supervoxels t.2 ≡ true
    pub own : least d b (e ∷ log) layer t.2 ≡ t.2
    pub new : is_new d b (e ∷ log) layer t.2 ≡ true

  pub head_is : (v : ℕ) → has b.supervoxels v ≡ true → least d b (e ∷ log) layer v ≡ v → head_or 0 (component d b (e ∷ log) layer v) ≡ v
  unfolding least
  head_is v h own = head_same 0 v (component d b (e ∷ log) layer v) v (own_component d b (e ∷ log) layer v h) ∙ own

  node_made : (c v : ℕ) → (has b.supervoxels v ≡ true) × (chunk d layer v ≡ c) × (is_new d b (e ∷ log) layer v ≡ true) × (least d b (e ∷ log) layer v ≡ v) → IsMade (told_node (new_node d b (e ∷ log) e.number layer v))
  unfolding new_node
  node_made c v p =
      let h = head_is v p.0 p.3 in
      record {
        id = ap (node d b (e ∷ log) layer) (sym h);
        chunk_is = ap (chunk d layer) (sym h);
        known = subst (λ x. has b.supervoxels x ≡ true) (sym h) p.0;
        own = subst (λ x. least d b (e ∷ log) layer x ≡ x) (sym h) p.3;
        new = subst (λ x. is_new d b (e ∷ log) layer x ≡ true) (sym h) p.2;
      }

  nodes_made : AllByRecursion (λ n. IsMade (told_node n)) (layer_nodes d b (e ∷ log) e.number layer)
  unfolding layer_nodes
  nodes_made =
      all_flat (λ c. map (new_node d b (e ∷ log) e.number layer) (new_among d b (e ∷ log) layer (members d b layer c))) (λ n. IsMade (told_node n)) (layer_chunks d b layer)
      (all_each (λ c. AllByRecursion (λ n. IsMade (told_node n)) (map (new_node d b (e ∷ log) e.number layer) (new_among d b (e ∷ log) layer (members d b layer c)))) (layer_chunks d b layer)
      (λ c. all_map (new_node d b (e ∷ log) e.number layer) (λ n. IsMade (told_node n)) (new_among d b (e ∷ log) layer (members d b layer c))
      (all_more _ (λ v. IsMade (told_node (new_node d b (e ∷ log) e.number layer v))) (new_among d b (e ∷ log) layer (members d b layer c)) (node_made c) (least_all d b valid base (e ∷ log) layer c))))

  pub all_made : AllByRecursion (λ m. IsMade (told_made m)) ms
  all_made = all_unmap told_made IsMade ms (subst (AllByRecursion IsMade) (sym are) (all_map told_node IsMade (layer_nodes d b (e ∷ log) e.number layer) nodes_made))

  pub made_at : (r : ℕ) (m : MadeNode) → r < length ms → IsMade (told_made (get_or ms r m))
  made_at r m l = All-from_recursion (λ m. IsMade (told_made m)) ms all_made r m l

  heads_are : map (λ (m : MadeNode). m.least) ms ≡ flat_map (λ c. map (λ v. head_or 0 (component d b (e ∷ log) layer v)) (new_among d b (e ∷ log) layer (members d b layer c))) (layer_chunks d b layer)
  unfolding layer_nodes new_node
  heads_are =
      sym (map_twice (λ (t : Told). t.2) told_made ms)
      ∙ (ap (map (λ (t : Told). t.2)) are
      ∙ (map_twice (λ (t : Told). t.2) told_node (layer_nodes d b (e ∷ log) e.number layer)
      ∙ (map_flat (λ (n : Node). head_or 0 n.leaves) (λ c. map (new_node d b (e ∷ log) e.number layer) (new_among d b (e ∷ log) layer (members d b layer c))) (layer_chunks d b layer)
      ∙ flat_same (λ c. map (λ (n : Node). head_or 0 n.leaves) (map (new_node d b (e ∷ log) e.number layer) (new_among d b (e ∷ log) layer (members d b layer c))))
      (λ c. map (λ v. head_or 0 (component d b (e ∷ log) layer v)) (new_among d b (e ∷ log) layer (members d b layer c))) (layer_chunks d b layer)
      (all_each _ (layer_chunks d b layer) (λ c. map_twice (λ (n : Node). head_or 0 n.leaves) (new_node d b (e ∷ log) e.number layer) (new_among d b (e ∷ log) layer (members d b layer c)))))))

  -- each new node of the layer is among them
  pub made_has : (x : ℕ) → has b.supervoxels x ≡ true → least d b (e ∷ log) layer x ≡ x → is_new d b (e ∷ log) layer x ≡ true → has (map (λ (m : MadeNode). m.least) ms) x ≡ true
  unfolding layer_chunks new_among
  made_has x h own n =
      let c : ℕ = chunk d layer x in
      let f : ℕ → ℕ = λ v. head_or 0 (component d b (e ∷ log) layer v) in
      let there : has (filter (λ v. eqb (least d b (e ∷ log) layer v) v && is_new d b (e ∷ log) layer v) (members d b layer c)) x ≡ true =
      filter_has (λ v. eqb (least d b (e ∷ log) layer v) v && is_new d b (e ∷ log) layer v) (members d b layer c) x (in_members d b layer c x h refl) (and_from _ _ (eq-eqb _ _ own) n) in
      let mapped : has (map f (new_among d b (e ∷ log) layer (members d b layer c))) x ≡ true = subst (λ y. has (map f (new_among d b (e ∷ log) layer (members d b layer c))) y ≡ true) (head_is x h own) (map_has f (new_among d b (e ∷ log) layer (members d b layer c)) x there) in
      subst (λ xs. has xs x ≡ true) (sym heads_are)
      (flat_has (λ k. map f (new_among d b (e ∷ log) layer (members d b layer k))) (layer_chunks d b layer) c x (ascending_has (map (chunk d layer) b.supervoxels) c (map_has (chunk d layer) b.supervoxels x h)) mapped)

  abbrev Above : Told → Told → Type 0
  Above s t = s.1 ≡ t.1 → s.0 < t.0

  layer_order : has (layers d) layer ≡ true → Differ Ordered (layer_nodes d b (e ∷ log) e.number layer)
  unfolding nodes_of new_nodes
  layer_order hl =
      let s = differ_split Ordered (nodes_of d b log) (new_nodes d b (e ∷ log) e.number) (nodes_ordered d b valid base (e ∷ log)) in
      differ_piece Ordered (layer_nodes d b (e ∷ log) e.number) (layers d) layer s.1 hl

  all_ordered : has (layers d) layer ≡ true → Differ (λ (m n : MadeNode). Above (told_made m) (told_made n)) ms
  all_ordered hl = differ_unmap told_made Above ms (subst (Differ Above) (sym are) (differ_map told_node Above (layer_nodes d b (e ∷ log) e.number layer) (layer_order hl)))

  less_differ : has (layers d) layer ≡ true → (r s : ℕ) (m : MadeNode) → r < s → s < length ms → (get_or ms r m).least ≡ (get_or ms s m).least → ⊥
  less_differ hl r s m l k q =
      let p = made_at r m (omega arith) in
      let o = made_at s m k in
      let a = differ_at (λ (m n : MadeNode). Above (told_made m) (told_made n)) ms r s m (all_ordered hl) l k in
      let id : (get_or ms r m).id ≡ (get_or ms s m).id = p.id ∙ (ap (node d b (e ∷ log) layer) q ∙ sym o.id) in
      let less = a (p.chunk_is ∙ (ap (chunk d layer) q ∙ sym o.chunk_is)) in
      omega (arith, less, id)

  -- no two of them have one least leaf
  pub one_node : has (layers d) layer ≡ true → (r s : ℕ) (m : MadeNode) → r < length ms → s < length ms → (get_or ms r m).least ≡ (get_or ms s m).least → r ≡ s
  one_node hl r s m l k q =
      elim (cases_order r s) [
        | inl same ↦ same
        | inr (inl less) ↦ absurd (less_differ hl r s m less k q)
        | inr (inr more) ↦ absurd (less_differ hl s r m more l (sym q))
      ]
