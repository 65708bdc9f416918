-- The ids of the nodes that an entry makes ascend in the order of their records.
use Rattle.std.proofs.Common.{◌≡◌, ℕ, ◌+◌, ◌*◌, ◌/◌, ◌^◌, ◌<◌, ◌≤◌, true, List, [], ◌∷◌, ◌++◌, map, refl, sym, ◌∙◌, ap, inl, inr, ◌⊎◌, arith, mul-le-mul_right}
use Rattle.std.specs.List.{AllByRecursion}
use Rattle.std.proofs.lemmas.Bool.{cases_lt}
use Rattle.node_ids.specs.Ids.{parts_of, parts_over, segments}
use Rattle.node_ids.proofs.IdLemmas.{width_low}
use Rattle.op_model.specs.declared.base.Dataset.{Dataset}
use Rattle.op_model.specs.declared.base.Base.{Base}
use Rattle.op_model.specs.declared.entry.Entry.{Entry}
use Rattle.graph_model.specs.Lists.{has}
use Rattle.op_model.specs.Chunks.{chunk, layers, members}
use Rattle.op_model.specs.Labels.{label, new_among, node}
use Rattle.op_model.specs.Legal.{Legal}
use Rattle.op_model.specs.Valid.{IsAscending, IsBase, IsDataset}
use Rattle.op_model.proofs.LegalLemmas.{labels_fit}
use Rattle.op_model.proofs.NodeLemmas.{chunk_multiple}
use Rattle.record_rows.specs.Rows.{Node}
use Rattle.record_rows.specs.LogRows.{layer_chunks, layer_nodes, new_node, new_nodes}
use Rattle.record_rows.proofs.DifferLemmas.{Differ, all_each, all_flat, all_map, all_more, differ_flat}
use Rattle.record_rows.proofs.LayerIds.{layer_told}
use Rattle.record_rows.proofs.Listings.{nodes_of}
use Rattle.record_rows.proofs.NodeOrder.{Ordered, nodes_ordered}
use Rattle.record_rows.proofs.OnceLemmas.{all_pairs, ascending_lists, layers_differ, layers_low, least_all}
use Rattle.base_rows.specs.BaseRows.{ids_of}

-- the second is of the same chunk, or of a greater id
abbrev Follows : Node → Node → Type 0
Follows m n = (m.chunk ≡ n.chunk) ⊎ (m.id < n.id)

all_same : (c : ℕ) (ns : List Node) → AllByRecursion (λ n. n.chunk ≡ c) ns → Differ Follows ns
all_same c [] a = tt
all_same c (n ∷ ns) a = (all_more (λ m. m.chunk ≡ c) (Follows n) ns (λ m q. inl (a.0 ∙ sym q)) a.1, all_same c ns a.1)

behind : (R : Node → Node → Type 0) (xs ys : List Node) → Differ R (xs ++ ys) → Differ R ys
behind R [] ys h = h
behind R (x ∷ xs) ys h = behind R xs ys h.1

ascend : (ns : List Node) → Differ Follows ns → Differ Ordered ns → IsAscending (ids_of ns)
ascend [] f o = tt
ascend (n ∷ []) f o = tt
ascend (n ∷ m ∷ ns) f o = (elim f.0.0 [ inl q ↦ o.0.0 q | inr l ↦ l ], ascend (m ∷ ns) f.1 o.1)

module _ (d : Dataset) (b : Base) (valid : IsDataset d) (base : IsBase d b) (e : Entry) (log : List Entry) (legal : Legal d b (e ∷ log)) where
  -- a node of this layer and chunk
  abbrev Of : ℕ → ℕ → Node → Type 0
  Of l c n = (v : ℕ) × (has b.supervoxels v ≡ true) × (chunk d l v ≡ c) × (n.chunk ≡ c) × (n.id ≡ node d b (e ∷ log) l v)

  abbrev piece : ℕ → ℕ → ℕ → List Node
  piece k l c = map (new_node d b (e ∷ log) k l) (new_among d b (e ∷ log) l (members d b l c))

  piece_of : (k l c : ℕ) → AllByRecursion (Of l c) (piece k l c)
  unfolding new_node
  piece_of k l c =
      all_map (new_node d b (e ∷ log) k l) (Of l c) (new_among d b (e ∷ log) l (members d b l c))
      (all_more _ (λ v. Of l c (new_node d b (e ∷ log) k l v)) (new_among d b (e ∷ log) l (members d b l c)) (λ v p. (v, p.0, p.1, p.1, refl)) (least_all d b valid base (e ∷ log) l c))

  fits : (l v : ℕ) → has (layers d) l ≡ true → has b.supervoxels v ≡ true → label d b (e ∷ log) l v < segments d.layout l
  fits l v hl hv = labels_fit d b (e ∷ log) l v legal hl hv

  -- nodes of a lesser chunk have lesser ids
  across : (l c c' : ℕ) (m n : Node) → has (layers d) l ≡ true → c < c' → Of l c m → Of l c' n → m.id < n.id
  unfolding node
  across l c c' m n hl lt p q =
      let s : ℕ = segments d.layout l in
      let low = width_low d.layout valid.layout.3 l in
      let x = chunk_multiple d l p.0 low in
      let y = chunk_multiple d l q.0 low in
      let f = fits l p.0 hl p.1 in
      let cx : c ≡ x.0 * s = (let a = x.1 in let z = p.2 in omega arith) in
      let cy : c' ≡ y.0 * s = (let a = y.1 in let z = q.2 in omega arith) in
      let less : x.0 < y.0 = least x.0 y.0 s (let a = cx in let z = cy in omega (arith, lt)) in
      let most : x.0 * s + s ≤ y.0 * s = step x.0 y.0 s less in
      let im = p.4 in
      let in' = q.4 in
      let pc = p.2 in
      let qc = q.2 in
      omega (arith, f, cx, cy, most, im, in', pc, qc)
    where
      step : (x y s : ℕ) → x < y → x * s + s ≤ y * s
      step x y s l = let a : (x + 1) * s ≤ y * s = mul-le-mul_right s (omega arith) in let z : (x + 1) * s ≡ x * s + s = grind arith in omega (arith, a, z)

      least : (x y s : ℕ) → x * s < y * s → x < y
      least x y s l = elim (cases_lt x y) [ inl h ↦ h | inr h ↦ (let a : y * s ≤ x * s = mul-le-mul_right s h in absurd (omega (arith, a, l))) ]

  -- and so do those of a lower layer
  higher : (l k c c' : ℕ) (m n : Node) → has (layers d) l ≡ true → has (layers d) k ≡ true → l < 2 ^ 8 → k < 2 ^ 8 → l < k → Of l c m → Of k c' n → m.id < n.id
  unfolding node parts_of parts_over
  higher l k c c' m n hl hk low high lt p q =
      let a : m.id / 2 ^ 56 ≡ l = ap (λ i. i / 2 ^ 56) p.4 ∙ layer_told d valid.layout l p.0 (label d b (e ∷ log) l p.0) low (fits l p.0 hl p.1) in
      let z : n.id / 2 ^ 56 ≡ k = ap (λ i. i / 2 ^ 56) q.4 ∙ layer_told d valid.layout k q.0 (label d b (e ∷ log) k q.0) high (fits k q.0 hk q.1) in
      omega (arith, a, z, lt)

  abbrev In : ℕ → Node → Type 0
  In l n = (c : ℕ) × Of l c n

  layer_in : (k l : ℕ) → AllByRecursion (In l) (layer_nodes d b (e ∷ log) k l)
  unfolding layer_nodes
  layer_in k l =
      all_flat (piece k l) (In l) (layer_chunks d b l)
      (all_each (λ c. AllByRecursion (In l) (piece k l c)) (layer_chunks d b l) (λ c. all_more (Of l c) (In l) (piece k l c) (λ n p. (c, p)) (piece_of k l c)))

  layer_follows : (k l : ℕ) → has (layers d) l ≡ true → Differ Follows (layer_nodes d b (e ∷ log) k l)
  unfolding layer_nodes layer_chunks
  layer_follows k l hl =
      differ_flat (piece k l) (λ c. Unit {0}) (λ x y. x < y) Follows (layer_chunks d b l)
      (λ c u. all_same c (piece k l c) (all_more (Of l c) (λ n. n.chunk ≡ c) (piece k l c) (λ n p. p.3) (piece_of k l c)))
      (λ c c' u w lt. all_pairs (Of l c) (Of l c') Follows (piece k l c) (piece k l c') (λ m n p q. inr (across l c c' m n hl lt p q)) (piece_of k l c) (piece_of k l c'))
      (all_each (λ c. Unit {0}) (layer_chunks d b l) (λ c. tt)) (ascending_lists (map (chunk d l) b.supervoxels))

  news_follow : (k : ℕ) → Differ Follows (new_nodes d b (e ∷ log) k)
  unfolding new_nodes
  news_follow k =
      differ_flat (layer_nodes d b (e ∷ log) k) (λ l. (has (layers d) l ≡ true) × (l < 2 ^ 8)) (λ x y. x < y) Follows (layers d)
      (λ l p. layer_follows k l p.0)
      (λ l j p q lt. all_pairs (In l) (In j) Follows (layer_nodes d b (e ∷ log) k l) (layer_nodes d b (e ∷ log) k j)
      (λ m n x y. inr (higher l j x.0 y.0 m n p.0 q.0 p.1 q.1 lt x.1 y.1)) (layer_in k l) (layer_in k j))
      (layers_low d) (layers_differ d)

  pub news_ascend : IsAscending (ids_of (new_nodes d b (e ∷ log) e.number))
  unfolding nodes_of
  news_ascend =
      ascend (new_nodes d b (e ∷ log) e.number) (news_follow e.number)
      (behind Ordered (nodes_of d b log) (new_nodes d b (e ∷ log) e.number) (nodes_ordered d b valid base (e ∷ log)))
