-- The greatest number of a chunk is that of its last node.
use Rattle.std.proofs.Common.{◌≡◌, ℕ, zero, suc, ◌+◌, ◌-◌, ◌*◌, ◌^◌, ◌<◌, ◌≤◌, Bool, true, false, cond, List, [], ◌∷◌, ◌++◌, length, map, get_or, Option, Some, None, refl, sym, ◌∙◌, ap, subst, inl, inr, ◌⊎◌, arith, eq-eqb}
use Rattle.std.specs.List.{All, AllByRecursion, slice_get, last_or, list_any}
use Rattle.std.specs.Option.{IfSome}
use Rattle.std.proofs.lemmas.Bool.{false≢true, eqb-true, or_left, or_right, or_cases}
use Rattle.std.proofs.lemmas.Nat.{pow_pos}
use Rattle.std.proofs.Math.Pow.{pow_mono}
use Rattle.node_ids.specs.Ids.{segments, width}
use Rattle.op_model.specs.declared.base.Dataset.{Dataset}
use Rattle.op_model.specs.declared.base.Base.{Base}
use Rattle.op_model.specs.declared.entry.Entry.{Entry}
use Rattle.graph_model.specs.Lists.{has}
use Rattle.op_model.specs.Chunks.{chunk, layers, top}
use Rattle.op_model.proofs.ChunkLemmas.{chunk_small, top_low}
use Rattle.op_model.specs.Labels.{is_empty, is_new, used, label, node}
use Rattle.op_model.specs.Laws.{IsGiven}
use Rattle.op_model.specs.Legal.{Legal}
use Rattle.op_model.proofs.LegalLemmas.{all_has, labels_fit}
use Rattle.op_model.proofs.MadeLemmas.{ascending_only, map_only}
use Rattle.op_model.proofs.LabelLemmas.{label_new, label_old, label_used, rank_bounds}
use Rattle.op_model.proofs.HistoryLemmas.{legal_prefix}
use Rattle.op_model.proofs.UsedLemmas.{used_given}
use Rattle.record_rows.specs.Rows.{Row, HeaderRow, ChunkRow, NodeRow, Node}
use Rattle.record_rows.specs.Chains.{node_in, is_node}
use Rattle.record_rows.specs.LogRows.{chunks, layer_chunks, rows_of}
use Rattle.record_rows.specs.Words.{place_from}
use Rattle.record_rows.specs.Readings.{HoldsChunk, HoldsNode, ParentImage, members, first_place, last_place}
use Rattle.record_rows.specs.Walks.{is_chunk}
use Rattle.record_rows.proofs.WalkLemmas.{place_of-some}
use Rattle.record_rows.proofs.ToldLaws.{headed}
use Rattle.record_rows.proofs.NodePlaces.{found_from, node_place}
use Rattle.record_rows.proofs.NodeOrder.{nodes_given, nodes_rows, node_all}
use Rattle.record_rows.proofs.BaseCounts.{flat_has}
use Rattle.record_rows.proofs.BaseRows.{place_in, chunk_at_place}
use Rattle.record_rows.proofs.LayerIds.{id_parts, same_layer}
use Rattle.record_rows.proofs.OnceLemmas.{layer_low, layers_from_differ}
use Rattle.record_rows.proofs.DifferLemmas.{all_more}
use Rattle.made_nodes.specs.declared.owning.Owner.{Owner}
use Rattle.made_nodes.specs.Numbers.{IsHeld}

abbrev Passes : (Row → Bool) → ℕ → ℕ → List Row → Type 0
Passes test k p rows = (j : ℕ) × (p ≡ k + j) × (row : Row) × (slice_get rows j ≡ Some row) × (test row ≡ true)

later : (test : Row → Bool) (k p : ℕ) (r : Row) (rows : List Row) → Passes test (k + 1) p rows → Passes test k p (r ∷ rows)
later test k p r rows s = (suc s.0, (let e : p ≡ k + 1 + s.0 = s.1 in omega arith), s.2, s.3, s.4)

last_some : (test : Row → Bool) (k x : ℕ) (rows : List Row) → (p : ℕ) × (last_or (Some x) (members test k rows) ≡ Some p) × ((p ≡ x) ⊎ Passes test k p rows)
unfolding members
last_some test k x [] = (x, refl, inl refl)
last_some test k x (r ∷ rows) = go (test r) refl (last_some test (k + 1) k rows) (last_some test (k + 1) x rows)
  where
    go : (t : Bool) → test r ≡ t
        → (p : ℕ) × (last_or (Some k) (members test (k + 1) rows) ≡ Some p) × ((p ≡ k) ⊎ Passes test (k + 1) p rows)
        → (p : ℕ) × (last_or (Some x) (members test (k + 1) rows) ≡ Some p) × ((p ≡ x) ⊎ Passes test (k + 1) p rows)
        → (p : ℕ) × (last_or (Some x) (cond t (k ∷ members test (k + 1) rows) (members test (k + 1) rows)) ≡ Some p) × ((p ≡ x) ⊎ Passes test k p (r ∷ rows))
    go true e one two = (one.0, one.1, elim one.2 [ inl q ↦ inr (0, (let z : one.0 ≡ k = q in omega arith), r, refl, e) | inr s ↦ inr (later test k one.0 r rows s) ])
    go false e one two = (two.0, two.1, elim two.2 [ inl q ↦ inl q | inr s ↦ inr (later test k two.0 r rows s) ])

-- where a record passes, the last one that does is found
last_there : (test : Row → Bool) (k : ℕ) (rows : List Row) → list_any test rows ≡ true → (p : ℕ) × (last_or None (members test k rows) ≡ Some p) × Passes test k p rows
unfolding members
last_there test k [] a = absurd (false≢true a)
last_there test k (r ∷ rows) a = go (test r) refl a (last_some test (k + 1) k rows) (last_there test (k + 1) rows)
  where
    go : (t : Bool) → test r ≡ t → list_any test (r ∷ rows) ≡ true
        → (p : ℕ) × (last_or (Some k) (members test (k + 1) rows) ≡ Some p) × ((p ≡ k) ⊎ Passes test (k + 1) p rows)
        → (list_any test rows ≡ true → (p : ℕ) × (last_or None (members test (k + 1) rows) ≡ Some p) × Passes test (k + 1) p rows)
        → (p : ℕ) × (last_or None (cond t (k ∷ members test (k + 1) rows) (members test (k + 1) rows)) ≡ Some p) × Passes test k p (r ∷ rows)
    go true e a one ih = (one.0, one.1, elim one.2 [ inl q ↦ (0, (let z : one.0 ≡ k = q in omega arith), r, refl, e) | inr s ↦ later test k one.0 r rows s ])
    go false e a one ih =
        let more : list_any test rows ≡ true = elim (or_cases (test r) (list_any test rows) a) [ inl t ↦ absurd (false≢true (sym e ∙ t)) | inr h ↦ h ] in
        let x = ih more in
        (x.0, x.1, later test k x.0 r rows x.2)

pub any_here : (test : Row → Bool) (rows : List Row) (p : ℕ) (row : Row) → slice_get rows p ≡ Some row → test row ≡ true → list_any test rows ≡ true
any_here test [] p row h t = cc
any_here test (r ∷ rows) zero row h t = let e : r ≡ row = cc in or_left (test r) _ (ap test e ∙ t)
any_here test (r ∷ rows) (suc p) row h t = or_right (test r) _ (any_here test rows p row h t)

layer_high : (d : Dataset) (layer : ℕ) → has (layers d) layer ≡ true → layer ≤ 18
unfolding layers
layer_high d layer h =
    let t = top_low d in
    all_has (λ l. l ≤ 18) (layers d) layer (all_more (λ l. (2 ≤ l) × (l < 2 + (top d - 1))) (λ l. l ≤ 18) (layers d) (λ k p. let q = p.1 in omega (arith, q, t)) (layers_from_differ 2 (top d - 1)).0) h

the_chunk : (c : ℕ) (row : Row) → is_chunk c row ≡ true → row ≡ ChunkRow c
unfolding is_chunk
the_chunk c (ChunkRow k) t = ap ChunkRow (eqb-true k c t)
the_chunk c row t = absurd (false≢true t)

the_node : (c : ℕ) (row : Row) → node_in c row ≡ true → (n : Node) × (row ≡ NodeRow n) × (n.chunk ≡ c)
unfolding node_in
the_node c (NodeRow n) t = (n, refl, eqb-true n.chunk c t)
the_node c row t = absurd (false≢true t)

module _ (d : Dataset) (b : Base) where
  pub label_none : (layer v : ℕ) → label d b [] layer v ≡ 0
  unfolding label
  label_none layer v = refl

  pub node_is : (log : List Entry) (layer v : ℕ) → node d b log layer v ≡ chunk d layer v + label d b log layer v
  unfolding node
  node_is log layer v = refl

  -- in a legal log each supervoxel has a node with a number
  label_some : (log : List Entry) → Legal d b log → (layer v : ℕ) → has b.supervoxels v ≡ true → 0 < label d b log layer v
  unfolding is_new is_empty
  label_some [] legal layer v h = absurd legal
  label_some (e ∷ []) legal layer v h =
      let r = rank_bounds d b (e ∷ []) layer v h refl in
      let n = label_new d b e [] layer v refl in
      let l = r.0 in
      omega (arith, l, n)
  label_some (e ∷ f ∷ log) legal layer v h = go (is_new d b (e ∷ f ∷ log) layer v) refl (label_some (f ∷ log) legal.1 layer v h)
    where
      go : (t : Bool) → is_new d b (e ∷ f ∷ log) layer v ≡ t → 0 < label d b (f ∷ log) layer v → 0 < label d b (e ∷ f ∷ log) layer v
      go true n ih =
          let r = rank_bounds d b (e ∷ f ∷ log) layer v h n in
          let l = r.0 in
          let q = label_new d b e (f ∷ log) layer v n in
          omega (arith, l, q)
      go false n ih = let q = label_old d b e (f ∷ log) layer v n in omega (arith, ih, q)

  -- no chunk of a legal log has given a number that its ids don't hold
  pub used_fits : (log : List Entry) → Legal d b log → (layer c : ℕ) → has (layers d) layer ≡ true → used d b log layer c < segments d.layout layer
  used_fits log legal layer c hl = go (used d b log layer c) refl (used_given d b log layer c)
    where
      old : (newer older : List Entry) (v u : ℕ) → log ≡ newer ++ older → has b.supervoxels v ≡ true → label d b older layer v ≡ u → 0 < u → u < segments d.layout layer
      old newer [] v u e h q some = absurd (let z = label_none layer v in omega (arith, z, q, some))
      old newer (f ∷ older) v u e h q some =
          let l = labels_fit d b (f ∷ older) layer v (legal_prefix d b newer f older (subst (Legal d b) e legal)) hl h in
          omega (arith, l, q)

      go : (u : ℕ) → used d b log layer c ≡ u → (0 < used d b log layer c → IsGiven d b log layer c (used d b log layer c)) → used d b log layer c < segments d.layout layer
      go zero e f = let p : 0 < segments d.layout layer = pow_pos (56 - 3 * width d.layout layer) in omega (arith, e, p)
      go (suc u) e f =
          let some : 0 < used d b log layer c = omega (arith, e) in
          let g = f some in
          old g.0 g.1 g.2 (used d b log layer c) g.3 g.4 g.6 some

module _ (d : Dataset) (b : Base) (log : List Entry) (words : List ℕ) (i : ParentImage d b log words) (layer c : ℕ) (held : IsHeld d b layer c) where
  abbrev rows : List Row
  rows = rows_of d b log

  of_layer : (v : ℕ) × (has b.supervoxels v ≡ true) × (chunk d layer v ≡ c)
  unfolding layer_chunks
  of_layer = let e = ascending_only (map (chunk d layer) b.supervoxels) c held.1 in map_only (chunk d layer) b.supervoxels c e

  chunk_stands : (p : ℕ) × HoldsChunk d b log p c
  unfolding chunks
  chunk_stands =
      let k = place_in (chunks d b) c (flat_has (layer_chunks d b) (layers d) layer c held.0 held.1) in
      (1 + length b.supervoxels + k.0, subst (λ x. HoldsChunk d b log (1 + length b.supervoxels + k.0) x) k.2 (chunk_at_place d b log words i k.0 k.1))

  -- the search for the chunk leads to its record
  pub chunk_there : (p : ℕ) × (first_place (is_chunk c) rows ≡ Some p) × HoldsChunk d b log p c
  unfolding is_chunk first_place
  chunk_there =
      let s = chunk_stands in
      let f = found_from (is_chunk c) rows 0 rows refl (any_here (is_chunk c) rows s.0 (ChunkRow c) s.1 (eq-eqb c c refl)) in
      let h = f.1 ∙ ap (λ r. Some r) (the_chunk c f.0 f.2) in
      (place_from (is_chunk c) 0 rows, place_of-some (place_from (is_chunk c) 0 rows) (above (place_from (is_chunk c) 0 rows) h), h)
    where
      above : (p : ℕ) → slice_get rows p ≡ Some (ChunkRow c) → 1 ≤ p
      above zero h = let q : Some (ChunkRow c) ≡ Some (HeaderRow d (length b.supervoxels) (length (chunks d b))) = sym h ∙ headed d b log in cc
      above (suc p) h = omega arith

  abbrev Given : Node → Type 0
  Given n = (l v label : ℕ) × (has (layers d) l ≡ true) × (l < 2 ^ 8) × (has b.supervoxels v ≡ true) × (n.chunk ≡ chunk d l v) × (n.id ≡ chunk d l v + label) × (label ≤ used d b log l (chunk d l v))

  given : (p : ℕ) (n : Node) → HoldsNode d b log p n → Given n
  given p n h = node_all Given rows p n (subst (AllByRecursion Given) (sym (nodes_rows d b log)) (nodes_given d b i.dataset i.base log)) h

  low : layer < 2 ^ 8
  low = layer_low d layer held.0

  -- a node of this chunk has no number above the greatest
  number_most : (p : ℕ) (n : Node) → HoldsNode d b log p n → n.chunk ≡ c → n.id ≤ c + used d b log layer c
  number_most p n h e =
      let g = given p n h in
      let v = of_layer in
      let z : g.0 ≡ layer = same_layer d i.dataset.layout g.0 layer g.1 v.0 g.4 low (sym g.6 ∙ (e ∙ sym v.2)) in
      let u : used d b log g.0 (chunk d g.0 g.1) ≡ used d b log layer c = ap (λ l. used d b log l (chunk d g.0 g.1)) z ∙ ap (used d b log layer) (sym g.6 ∙ e) in
      let k : chunk d g.0 g.1 ≡ c = sym g.6 ∙ e in
      let id = g.7 in
      let m = g.8 in
      omega (arith, u, k, id, m)

  -- a node with this id is of this chunk
  of_chunk : (p : ℕ) (n : Node) (w u : ℕ) → HoldsNode d b log p n → chunk d layer w ≡ c → u < segments d.layout layer → n.id ≡ chunk d layer w + u → n.chunk ≡ c
  of_chunk p n w u h e l q =
      let g = given p n h in
      let fits : g.2 < segments d.layout g.0 = let m = g.8 in let f = used_fits d b log i.legal g.0 (chunk d g.0 g.1) g.3 in omega (arith, m, f) in
      g.6 ∙ ((id_parts d i.dataset.layout g.0 layer g.1 w g.2 u g.4 low fits l (sym g.7 ∙ q)).1 ∙ e)

  -- a node of the chunk has the greatest number
  greatest_stands : (p : ℕ) × (n : Node) × HoldsNode d b log p n × (n.chunk ≡ c) × (n.id ≡ c + used d b log layer c)
  greatest_stands =
      let v = of_layer in
      let some : 0 < used d b log layer c = let a = label_some d b log i.legal layer v.0 v.1 in let m = subst (λ x. label d b log layer v.0 ≤ used d b log layer x) v.2 (label_used d b log layer v.0 v.1) in omega (arith, a, m) in
      let g = used_given d b log layer c some in
      old g.0 g.1 g.2 g.3 g.4 g.5 g.6 some
    where
      old : (newer older : List Entry) (w : ℕ) → log ≡ newer ++ older → has b.supervoxels w ≡ true → chunk d layer w ≡ c → label d b older layer w ≡ used d b log layer c → 0 < used d b log layer c
          → (p : ℕ) × (n : Node) × HoldsNode d b log p n × (n.chunk ≡ c) × (n.id ≡ c + used d b log layer c)
      old newer [] w e h ch q some = absurd (let z = label_none d b layer w in omega (arith, z, q, some))
      old newer (f ∷ older) w e h ch q some =
          let place : List Entry → ℕ = λ all. place_from (is_node (node d b (f ∷ older) layer w)) 0 (rows_of d b all) in
          let r = node_place d b i.dataset i.base newer f older (legal_prefix d b newer f older (subst (Legal d b) e i.legal)) layer w held.0 h in
          let there : HoldsNode d b log (place log) r.0 = subst (λ all. slice_get (rows_of d b all) (place all) ≡ Some (NodeRow r.0)) (sym e) r.1 in
          let id : r.0.id ≡ chunk d layer w + label d b (f ∷ older) layer w = r.2 ∙ node_is d b (f ∷ older) layer w in
          let fits : label d b (f ∷ older) layer w < segments d.layout layer = let u = used_fits d b log i.legal layer c held.0 in omega (arith, u, q) in
          let ofc = of_chunk (place log) r.0 w (label d b (f ∷ older) layer w) there ch fits id in
          (place log, r.0, there, ofc, omega (arith, id, ch, q))

  -- the last node of the chunk has the greatest number
  pub last_there_is : (p : ℕ) × (n : Node) × (last_place (node_in c) rows ≡ Some p) × HoldsNode d b log p n × (n.chunk ≡ c)
  unfolding last_place node_in
  last_there_is =
      let s = greatest_stands in
      let t = last_there (node_in c) 0 rows (any_here (node_in c) rows s.0 (NodeRow s.1) s.2 (eq-eqb s.1.chunk c s.3)) in
      let s = t.2 in
      let n = the_node c s.2 s.4 in
      let z : t.0 ≡ s.0 = let e : t.0 ≡ 0 + s.0 = s.1 in omega arith in
      (t.0, n.0, t.1, ap (slice_get rows) z ∙ (s.3 ∙ ap (λ r. Some r) n.1), n.2)

  pub last_number : (p : ℕ) (n : Node) → HoldsNode d b log p n → n.chunk ≡ c → ((m : Node) (q : ℕ) → HoldsNode d b log q m → m.chunk ≡ c → m.id ≤ n.id) → n.id ≡ c + used d b log layer c
  last_number p n h e most =
      let s = greatest_stands in
      let one = most s.1 s.0 s.2 s.3 in
      let two = number_most p n h e in
      let id = s.4 in
      omega (arith, one, two, id)

  pub chunk_spot : (spot : ℕ) {found : Option ℕ} → found ≡ first_place (is_chunk c) rows → found ≡ Some spot → HoldsChunk d b log spot c
  chunk_spot spot e f =
      let t = chunk_there in
      let q : Some t.0 ≡ Some spot = sym t.1 ∙ (sym e ∙ f) in
      let z : t.0 ≡ spot = cc in
      subst (λ p. HoldsChunk d b log p c) z t.2

  pub last_spot : (spot : ℕ) {found : Option ℕ} → found ≡ last_place (node_in c) rows → found ≡ Some spot → (n : Node) × HoldsNode d b log spot n × (n.chunk ≡ c)
  last_spot spot e f =
      let t = last_there_is in
      let q : Some t.0 ≡ Some spot = sym t.2 ∙ (sym e ∙ f) in
      let z : t.0 ≡ spot = cc in
      (t.1, subst (λ p. HoldsNode d b log p t.1) z t.3, t.4)

  -- the id of the node that the search for the last one finds
  pub last_id : (spot : ℕ) {found : Option ℕ} → found ≡ last_place (node_in c) rows → found ≡ Some spot
      → IfSome found (λ p. (m n : Node) (q : ℕ) → HoldsNode d b log p n → HoldsNode d b log q m → m.chunk ≡ c → m.id ≤ n.id)
      → (n : Node) × HoldsNode d b log spot n × (n.id ≡ c + used d b log layer c)
  last_id spot e f most =
      let n = last_spot spot e f in
      let all : (m n : Node) (q : ℕ) → HoldsNode d b log spot n → HoldsNode d b log q m → m.chunk ≡ c → m.id ≤ n.id =
      subst (λ o. IfSome o (λ p. (m n : Node) (q : ℕ) → HoldsNode d b log p n → HoldsNode d b log q m → m.chunk ≡ c → m.id ≤ n.id)) f most in
      (n.0, n.1, last_number spot n.0 n.1 n.2 (λ m q h k. all m n.0 q n.1 h k))

  pub small_number : used d b log layer c < 2 ^ 56
  small_number =
      let f = used_fits d b log i.legal layer c held.0 in
      let k : 56 - 3 * width d.layout layer ≤ 56 = omega arith in
      let m : 2 ^ (56 - 3 * width d.layout layer) ≤ 2 ^ 56 = pow_mono k in
      omega (arith, f, m)

  pub small_chunk : c < 2 ^ 62
  small_chunk =
      let v = of_layer in
      subst (λ x. x < 2 ^ 62) v.2 (chunk_small d i.dataset.layout layer (let h = layer_high d layer held.0 in let t = top_low d in omega (arith, h, t)) v.0)

pub held_at : (d : Dataset) (b : Base) (layer : ℕ) (os : List Owner) (j : ℕ) (o : Owner) → All (λ (x : Owner). IsHeld d b layer x.chunk) os → j < length os → o ≡ get_or os j o → IsHeld d b layer o.chunk
held_at d b layer os j o all l is = subst (λ (x : Owner). IsHeld d b layer x.chunk) (sym is) (all j o l)
