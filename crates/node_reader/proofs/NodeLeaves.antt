-- The leaves in the record of a node: those of its entry, and so those of any later log up to which the node stays.
use Rattle.std.proofs.Common.{◌≡◌, ℕ, ◌^◌, ◌<◌, ◌≤◌, Bool, true, false, List, [], ◌∷◌, ◌++◌, map, refl, sym, ◌∙◌, ap, subst, inl, inr, arith}
use Rattle.std.specs.List.{AllByRecursion}
use Rattle.op_model.specs.declared.base.Dataset.{Dataset}
use Rattle.op_model.specs.declared.base.Base.{Base}
use Rattle.op_model.specs.declared.entry.Entry.{Entry}
use Rattle.graph_model.specs.Lists.{has}
use Rattle.op_model.specs.Chunks.{chunk, members, layers}
use Rattle.op_model.specs.Labels.{is_empty, component, least, is_new, new_among, used, label, node, Joined}
use Rattle.op_model.specs.Valid.{IsDataset, IsBase}
use Rattle.op_model.specs.Legal.{Legal}
use Rattle.op_model.proofs.LabelLemmas.{same_component, label_joined, kept, label_new, label_used, rank_bounds}
use Rattle.op_model.proofs.LegalLemmas.{labels_fit}
use Rattle.op_model.proofs.HistoryLemmas.{legal_prefix, used_more}
use Rattle.std.proofs.lemmas.Bool.{or_parts}
use Rattle.record_rows.specs.Rows.{Node}
use Rattle.record_rows.specs.LogRows.{layer_chunks, new_node, layer_nodes, new_nodes, rows_of}
use Rattle.record_rows.specs.Readings.{HoldsNode}
use Rattle.record_rows.proofs.Listings.{nodes_of}
use Rattle.record_rows.proofs.DifferLemmas.{all_append, all_more, all_each, all_both, all_map, all_flat}
use Rattle.record_rows.proofs.CountLemmas.{component_differ}
use Rattle.record_rows.proofs.SumLemmas.{sorted_same}
use Rattle.record_rows.proofs.LayerIds.{id_parts}
use Rattle.record_rows.proofs.LinkLemmas.{Among, IsLayer, of_component, to_component, node_made, node_kept}
use Rattle.record_rows.proofs.ChildOrder.{OtherId, differ_split}
use Rattle.record_rows.proofs.NodeOrder.{nodes_rows, node_all}
use Rattle.record_rows.proofs.OnceLemmas.{layer_low, layers_low, least_all, nodes_once}

pub among_all : {X : Type 0} (P : X → Type 0) (x : X) (xs : List X) → Among x xs → AllByRecursion P xs → P x
among_all P x [] a ps = absurd a
among_all P x (y ∷ ys) (inl q) ps = subst P q ps.0
among_all P x (y ∷ ys) (inr a) ps = among_all P x ys a ps.1

pub all_among : {X : Type 0} (xs : List X) → AllByRecursion (λ x. Among x xs) xs
all_among [] = tt
all_among (x ∷ xs) = (inl refl, all_more (λ y. Among y xs) (λ y. Among y (x ∷ xs)) xs (λ y a. inr a) (all_among xs))

module _ (d : Dataset) (b : Base) where
  -- a node that the newest entry of this log made
  pub record Born (log : List Entry) (n : Node) : Type 0 where
    pub layer : ℕ
    pub supervoxel : ℕ
    pub layered : has (layers d) layer ≡ true
    pub low : layer < 2 ^ 8
    pub known : has b.supervoxels supervoxel ≡ true
    pub fresh : is_new d b log layer supervoxel ≡ true
    pub in_chunk : n.chunk ≡ chunk d layer supervoxel
    pub named : n.id ≡ node d b log layer supervoxel
    pub holds : n.leaves ≡ component d b log layer supervoxel

  -- whichever supervoxel has this node at the log, the node has the leaves of that
  abbrev pub Tells : List Entry → Node → Type 0
  Tells log n = (l u : ℕ) → has (layers d) l ≡ true → has b.supervoxels u ≡ true → n.id ≡ node d b log l u → n.leaves ≡ component d b log l u

module _ (d : Dataset) (b : Base) (valid : IsDataset d) (base : IsBase d b) where
  -- the nodes of a layer that the newest entry made
  layer_born : (log : List Entry) (k l : ℕ) → IsLayer d b valid base l → AllByRecursion (λ n. (p : Born d b log n) × (p.layer ≡ l)) (layer_nodes d b log k l)
  unfolding layer_nodes new_node
  layer_born log k l p =
      all_flat (λ c. map (new_node d b log k l) (new_among d b log l (members d b l c))) (λ n. (p : Born d b log n) × (p.layer ≡ l)) (layer_chunks d b l)
      (all_each (λ c. AllByRecursion (λ n. (p : Born d b log n) × (p.layer ≡ l)) (map (new_node d b log k l) (new_among d b log l (members d b l c)))) (layer_chunks d b l)
      (λ c. all_map (new_node d b log k l) (λ n. (p : Born d b log n) × (p.layer ≡ l)) (new_among d b log l (members d b l c))
      (all_more (λ v. (has b.supervoxels v ≡ true) × (chunk d l v ≡ c) × (is_new d b log l v ≡ true) × (least d b log l v ≡ v)) (λ v. (p : Born d b log (new_node d b log k l v)) × (p.layer ≡ l)) (new_among d b log l (members d b l c))
      (λ v q. (record { layer = l; supervoxel = v; layered = p.0; low = p.1; known = q.0; fresh = q.2; in_chunk = refl; named = refl; holds = refl }, refl)) (least_all d b valid base log l c))))

  -- each node that the newest entry made, among those of its layer
  abbrev pub Placed : List Entry → ℕ → Node → Type 0
  Placed log k n = (p : Born d b log n) × Among n (layer_nodes d b log k p.layer)

  pub news_placed : (log : List Entry) (k : ℕ) → AllByRecursion (Placed log k) (new_nodes d b log k)
  unfolding new_nodes
  news_placed log k =
      all_flat (layer_nodes d b log k) (Placed log k) (layers d)
      (all_more (IsLayer d b valid base) (λ l. AllByRecursion (Placed log k) (layer_nodes d b log k l)) (layers d)
      (λ l p. all_more (λ n. ((p : Born d b log n) × (p.layer ≡ l)) × Among n (layer_nodes d b log k l)) (Placed log k) (layer_nodes d b log k l)
      (λ n q. (q.0.0, subst (λ j. Among n (layer_nodes d b log k j)) (sym q.0.1) q.1))
      (all_both (λ n. (p : Born d b log n) × (p.layer ≡ l)) (λ n. Among n (layer_nodes d b log k l)) (layer_nodes d b log k l) (layer_born log k l p) (all_among (layer_nodes d b log k l))))
      (layers_low d))

  pub news_born : (log : List Entry) (k : ℕ) → AllByRecursion (Born d b log) (new_nodes d b log k)
  news_born log k = all_more (Placed log k) (Born d b log) (new_nodes d b log k) (λ n p. p.0) (news_placed log k)

  -- components with the same joined supervoxels are one
  same_joined : (log older : List Entry) (l u : ℕ) → ((x : ℕ) → Joined d b log l u x → Joined d b older l u x) → ((x : ℕ) → Joined d b older l u x → Joined d b log l u x) → component d b log l u ≡ component d b older l u
  same_joined log older l u f g =
      sorted_same (component d b log l u) (component d b older l u) (component_differ d b valid base log l u) (component_differ d b valid base older l u)
      (λ x h. to_component d b valid base older l u x (f x (of_component d b valid base log l u x h).2))
      (λ x h. to_component d b valid base log l u x (g x (of_component d b valid base older l u x h).2))

  component_kept : (e : Entry) (log : List Entry) (l u : ℕ) → has b.supervoxels u ≡ true → is_new d b (e ∷ log) l u ≡ false → component d b (e ∷ log) l u ≡ component d b log l u
  unfolding is_new
  component_kept e log l u hu n =
      let k = kept d b e log l u hu (or_parts (is_empty log) _ n).1 in
      same_joined (e ∷ log) log l u (λ x j. (k x).0 j) (λ x j. (k x).1 j)

  -- ids that are equal are those of one component
  pub one_component : (e : Entry) (log : List Entry) → Legal d b (e ∷ log) → (k l v u : ℕ) → has (layers d) k ≡ true → has (layers d) l ≡ true → has b.supervoxels v ≡ true → has b.supervoxels u ≡ true
      → node d b (e ∷ log) k v ≡ node d b (e ∷ log) l u → component d b (e ∷ log) k v ≡ component d b (e ∷ log) l u
  unfolding node
  one_component e log legal k l v u hk hl hv hu q =
      let whole : List Entry = e ∷ log in
      let r = id_parts d valid.layout k l v u (label d b whole k v) (label d b whole l u) (layer_low d k hk) (layer_low d l hl) (labels_fit d b whole k v legal hk hv) (labels_fit d b whole l u legal hl hu) q in
      let c : chunk d l v ≡ chunk d l u = subst (λ j. chunk d j v ≡ chunk d l u) r.0 r.1 in
      let t : label d b whole l v ≡ label d b whole l u = subst (λ j. label d b whole j v ≡ label d b whole l u) r.0 r.2 in
      ap (λ j. component d b whole j v) r.0 ∙ same_component d b whole l v u c (label_joined d b e log l v u hv hu c t)

  born_tells : (e : Entry) (log : List Entry) → Legal d b (e ∷ log) → (n : Node) → Born d b (e ∷ log) n → Tells d b (e ∷ log) n
  born_tells e log legal n p l u hl hu q =
      p.holds ∙ one_component e log legal p.layer l p.supervoxel u p.layered hl p.known hu (sym p.named ∙ q)

  tells_more : (e f : Entry) (log : List Entry) → Legal d b (e ∷ f ∷ log) → (n : Node) → AllByRecursion (OtherId n) (new_nodes d b (e ∷ f ∷ log) e.number) → Tells d b (f ∷ log) n → Tells d b (e ∷ f ∷ log) n
  tells_more e f log legal n o t l u hl hu q = go (is_new d b (e ∷ f ∷ log) l u) refl
    where
      go : (s : Bool) → is_new d b (e ∷ f ∷ log) l u ≡ s → n.leaves ≡ component d b (e ∷ f ∷ log) l u
      go true s =
          let m = node_made d b valid base e (f ∷ log) legal e.number l u hl hu s in
          absurd (among_all (OtherId n) m.0 (new_nodes d b (e ∷ f ∷ log) e.number) m.1 o (q ∙ sym m.2))
      go false s = t l u hl hu (q ∙ sym (node_kept d b valid base e (f ∷ log) l u s)) ∙ sym (component_kept e (f ∷ log) l u hu s)

  -- the nodes of a log tell the leaves of their supervoxels there
  all_tell : (e : Entry) (log : List Entry) → Legal d b (e ∷ log) → AllByRecursion (Tells d b (e ∷ log)) (nodes_of d b (e ∷ log))
  unfolding nodes_of
  all_tell e [] legal = all_more (Born d b (e ∷ [])) (Tells d b (e ∷ [])) (new_nodes d b (e ∷ []) e.number) (born_tells e [] legal) (news_born (e ∷ []) e.number)
  all_tell e (f ∷ log) legal =
      let whole : List Entry = e ∷ f ∷ log in
      let news : List Node = new_nodes d b whole e.number in
      let s = differ_split OtherId (nodes_of d b (f ∷ log)) news (nodes_once d b valid base whole legal) in
      all_append (Tells d b whole) (nodes_of d b (f ∷ log)) news
      (all_more (λ n. AllByRecursion (OtherId n) news × Tells d b (f ∷ log) n) (Tells d b whole) (nodes_of d b (f ∷ log)) (λ n p. tells_more e f log legal n p.0 p.1)
      (all_both (λ n. AllByRecursion (OtherId n) news) (Tells d b (f ∷ log)) (nodes_of d b (f ∷ log)) s.2 (all_tell f log legal.1)))
      (all_more (Born d b whole) (Tells d b whole) news (born_tells e (f ∷ log) legal) (news_born whole e.number))

  -- a node that a later entry made isn't one of an earlier log
  pub later_other : (g : Entry) (newer : List Entry) (e : Entry) (log : List Entry) → Legal d b (g ∷ (newer ++ e ∷ log)) → (n : Node) → Born d b (g ∷ (newer ++ e ∷ log)) n → (l u : ℕ) → has (layers d) l ≡ true → has b.supervoxels u ≡ true
      → n.id ≡ node d b (e ∷ log) l u → ⊥
  unfolding node
  later_other g newer e log legal n p l u hl hu q =
      let older : List Entry = newer ++ e ∷ log in
      let whole : List Entry = g ∷ older in
      let v : ℕ = p.supervoxel in
      let old : Legal d b (e ∷ log) = legal_prefix d b (g ∷ newer) e log legal in
      let r = id_parts d valid.layout p.layer l v u (label d b whole p.layer v) (label d b (e ∷ log) l u) p.low (layer_low d l hl) (labels_fit d b whole p.layer v legal p.layered p.known) (labels_fit d b (e ∷ log) l u old hl hu) (sym p.named ∙ q) in
      let up : used d b (e ∷ log) l (chunk d l u) ≤ used d b older l (chunk d l u) = used_more d b newer (e ∷ log) l (chunk d l u) in
      let same : used d b older p.layer (chunk d p.layer v) ≡ used d b older l (chunk d l u) = ap (λ j. used d b older j (chunk d p.layer v)) r.0 ∙ ap (used d b older l) r.1 in
      let high = label_new d b g older p.layer v p.fresh in
      let some = (rank_bounds d b whole p.layer v p.known p.fresh).0 in
      let low = label_used d b (e ∷ log) l u hu in
      let eq : label d b whole p.layer v ≡ label d b (e ∷ log) l u = r.2 in
      omega arith

  tell_later : (newer : List Entry) (e : Entry) (log : List Entry) → Legal d b (newer ++ e ∷ log) → AllByRecursion (Tells d b (e ∷ log)) (nodes_of d b (newer ++ e ∷ log))
  unfolding nodes_of
  tell_later [] e log legal = all_tell e log legal
  tell_later (g ∷ newer) e log legal =
      let older : List Entry = newer ++ e ∷ log in
      all_append (Tells d b (e ∷ log)) (nodes_of d b older) (new_nodes d b (g ∷ older) g.number)
      (tell_later newer e log (rest newer legal))
      (all_more (Born d b (g ∷ older)) (Tells d b (e ∷ log)) (new_nodes d b (g ∷ older) g.number) (λ n p l u hl hu q. absurd (later_other g newer e log legal n p l u hl hu q)) (news_born (g ∷ older) g.number))
    where
      rest : (xs : List Entry) → Legal d b (g ∷ (xs ++ e ∷ log)) → Legal d b (xs ++ e ∷ log)
      rest [] h = h.1
      rest (x ∷ xs) h = h.1

  -- the record of a node tells the leaves that its supervoxels have at an earlier log of which it is a node
  pub record_tells : (newer : List Entry) (e : Entry) (log : List Entry) → Legal d b (newer ++ e ∷ log) → (p : ℕ) (n : Node) → HoldsNode d b (newer ++ e ∷ log) p n → Tells d b (e ∷ log) n
  record_tells newer e log legal p n h =
      node_all (Tells d b (e ∷ log)) (rows_of d b (newer ++ e ∷ log)) p n (subst (AllByRecursion (Tells d b (e ∷ log))) (sym (nodes_rows d b (newer ++ e ∷ log))) (tell_later newer e log legal)) h
