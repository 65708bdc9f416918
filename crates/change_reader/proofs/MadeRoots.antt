-- The record of a root tells which entry made it, so it tells which prefixes have the root, and its leaves there.
use Rattle.std.proofs.Common.{◌≡◌, ℕ, ◌+◌, ◌<◌, ◌≤◌, Bool, true, false, List, [], ◌∷◌, ◌++◌, length, map, Some, None, refl, sym, ◌∙◌, ap, subst, inl, inr, arith, length-append, append_assoc}
use Rattle.std.specs.List.{AllByRecursion, list_any, slice_get}
use Rattle.std.proofs.lemmas.Bool.{and_parts, cases_Bool, eqb-true, false≢true, or_cases, or_left, or_right}
use Rattle.std.proofs.lemmas.List.Folds.{list_any-append}
use Rattle.node_ids.specs.Ids.{parts_of}
use Rattle.chunk_geometry.proofs.LayerLemmas.{top_low}
use Rattle.op_model.specs.declared.base.Dataset.{Dataset}
use Rattle.op_model.specs.declared.base.Base.{Base}
use Rattle.op_model.specs.declared.entry.Entry.{Entry}
use Rattle.graph_model.specs.Lists.{has}
use Rattle.op_model.specs.Answers.{leaves}
use Rattle.op_model.specs.Chunks.{top, layers, members}
use Rattle.op_model.specs.Labels.{is_new, component, new_among, node, root}
use Rattle.op_model.specs.Refusals.{is_root_id}
use Rattle.op_model.specs.Legal.{Legal}
use Rattle.op_model.specs.Transcript.{log_at}
use Rattle.op_model.specs.Valid.{IsDataset, IsBase}
use Rattle.op_model.proofs.HistoryLemmas.{legal_prefix}
use Rattle.op_model.proofs.LocalLemmas.{top_in_layers}
use Rattle.record_rows.specs.Rows.{Row, HeaderRow, NodeRow, SupervoxelRow, Node}
use Rattle.record_rows.specs.Chains.{has_id, is_node}
use Rattle.record_rows.specs.LogRows.{chunks, layer_chunks, new_node, layer_nodes, new_nodes, rows_of}
use Rattle.record_rows.specs.Readings.{HoldsNode, ParentImage, first_place}
use Rattle.record_rows.proofs.DifferLemmas.{all_append, all_more, all_each, all_both, all_map, all_flat}
use Rattle.record_rows.proofs.EntryRecords.{number_told}
use Rattle.record_rows.proofs.Listings.{nodes_of}
use Rattle.record_rows.proofs.NodeIds.{supervoxel_layer}
use Rattle.record_rows.proofs.NodeOrder.{nodes_rows, node_all}
use Rattle.record_rows.proofs.NodePlaces.{known, known_later}
use Rattle.record_rows.proofs.PrefixNodes.{prefix_parts}
use Rattle.node_reader.proofs.ChildRows.{any_has}
use Rattle.change_reader.proofs.RowSearches.{none_passes, stands_there}
use Rattle.node_reader.proofs.LeafLaws.{made_fresh, made_here, leaves_from}
use Rattle.node_reader.proofs.LeafMeaning.{node_id_layer}
use Rattle.node_reader.proofs.NodeLeaves.{Born, news_born, later_other}

-- of two ways to end a list, the shorter one ends the longer
pub ends_in : {X : Type 0} (vs bs cs ds : List X) → vs ++ bs ≡ cs ++ ds → length ds ≤ length bs → (ms : List X) × (bs ≡ ms ++ ds)
ends_in [] bs cs ds q l = (cs, q)
ends_in (v ∷ vs) bs [] ds q l = absurd (let n : length (v ∷ vs) + length bs ≡ length ds = sym (length-append (v ∷ vs) bs) ∙ ap length q in omega arith)
ends_in (v ∷ vs) bs (c ∷ cs) ds q l = let r : vs ++ bs ≡ cs ++ ds = cc in ends_in vs bs cs ds r l

-- where some entry passes a test, the list has it with older ones behind it
pub passes : (test : Entry → Bool) (log : List Entry) → list_any test log ≡ true → (newer : List Entry) × (e : Entry) × (older : List Entry) × (log ≡ newer ++ e ∷ older) × (test e ≡ true)
passes test [] h = absurd (false≢true h)
passes test (e ∷ log) h = elim (or_cases (test e) (list_any test log) h) [
  | inl t ↦ ([], e, log, refl, t)
  | inr g ↦ (let p = passes test log g in (e ∷ p.0, p.1, p.2, ap (λ xs. e ∷ xs) p.3, p.4))
]

module _ (d : Dataset) (b : Base) where
  -- a node with the entry that made it, whose number it tells
  pub record Timed (log : List Entry) (n : Node) : Type 0 where
    pub newer : List Entry
    pub entry : Entry
    pub older : List Entry
    pub whole : log ≡ newer ++ entry ∷ older
    pub born : Born d b (entry ∷ older) n
    pub made : n.made ≡ length older

  news_made : (log : List Entry) (k : ℕ) → AllByRecursion (λ n. n.made ≡ k) (new_nodes d b log k)
  unfolding new_nodes layer_nodes new_node
  news_made log k =
      all_flat (layer_nodes d b log k) (λ n. n.made ≡ k) (layers d)
      (all_each (λ l. AllByRecursion (λ n. n.made ≡ k) (layer_nodes d b log k l)) (layers d)
      (λ l. all_flat (λ c. map (new_node d b log k l) (new_among d b log l (members d b l c))) (λ n. n.made ≡ k) (layer_chunks d b l)
      (all_each (λ c. AllByRecursion (λ n. n.made ≡ k) (map (new_node d b log k l) (new_among d b log l (members d b l c)))) (layer_chunks d b l)
      (λ c. all_map (new_node d b log k l) (λ n. n.made ≡ k) (new_among d b log l (members d b l c)) (all_each (λ v. k ≡ k) (new_among d b log l (members d b l c)) (λ v. refl))))))

module _ (d : Dataset) (b : Base) (valid : IsDataset d) (base : IsBase d b) where
  news_timed : (e : Entry) (log : List Entry) → Legal d b (e ∷ log) → AllByRecursion (Timed d b (e ∷ log)) (new_nodes d b (e ∷ log) e.number)
  news_timed e log legal =
      all_more (λ n. Born d b (e ∷ log) n × (n.made ≡ e.number)) (Timed d b (e ∷ log)) (new_nodes d b (e ∷ log) e.number)
      (λ n p. record { newer = []; entry = e; older = log; whole = refl; born = p.0; made = p.1 ∙ number_told d b e log legal })
      (all_both (Born d b (e ∷ log)) (λ n. n.made ≡ e.number) (new_nodes d b (e ∷ log) e.number) (news_born d b valid base (e ∷ log) e.number) (news_made d b (e ∷ log) e.number))

  all_timed : (e : Entry) (log : List Entry) → Legal d b (e ∷ log) → AllByRecursion (Timed d b (e ∷ log)) (nodes_of d b (e ∷ log))
  unfolding nodes_of
  all_timed e [] legal = news_timed e [] legal
  all_timed e (f ∷ log) legal =
      all_append (Timed d b (e ∷ f ∷ log)) (nodes_of d b (f ∷ log)) (new_nodes d b (e ∷ f ∷ log) e.number)
      (all_more (Timed d b (f ∷ log)) (Timed d b (e ∷ f ∷ log)) (nodes_of d b (f ∷ log))
      (λ n t. record { newer = e ∷ t.newer; entry = t.entry; older = t.older; whole = ap (λ xs. e ∷ xs) t.whole; born = t.born; made = t.made })
      (all_timed f log legal.1))
      (news_timed e (f ∷ log) legal)

  node_timed : (log : List Entry) → Legal d b log → (p : ℕ) (n : Node) → HoldsNode d b log p n → Timed d b log n
  node_timed [] legal p n h = absurd legal
  node_timed (e ∷ log) legal p n h = node_all (Timed d b (e ∷ log)) (rows_of d b (e ∷ log)) p n (subst (AllByRecursion (Timed d b (e ∷ log))) (sym (nodes_rows d b (e ∷ log))) (all_timed e log legal)) h

  -- the node of a root's id, with the entry that made it
  pub record RootBy (log : List Entry) (r : ℕ) (n : Node) : Type 0 where
    pub timed : Timed d b log n
    pub legal : Legal d b (timed.entry ∷ timed.older)
    pub named : r ≡ root d b (timed.entry ∷ timed.older) timed.born.supervoxel
    pub fresh : is_new d b (timed.entry ∷ timed.older) (top d) timed.born.supervoxel ≡ true
    pub holds : n.leaves ≡ component d b (timed.entry ∷ timed.older) (top d) timed.born.supervoxel

  pub root_by : (log : List Entry) → Legal d b log → (r p : ℕ) (n : Node) → (parts_of d.layout r).layer ≡ top d → HoldsNode d b log p n → n.id ≡ r → RootBy log r n
  unfolding root
  root_by log legal r p n i h e =
      let t = node_timed log legal p n h in
      let w : List Entry = t.entry ∷ t.older in
      let v : ℕ = t.born.supervoxel in
      let old : Legal d b w = legal_prefix d b t.newer t.entry t.older (subst (Legal d b) t.whole legal) in
      let named : r ≡ node d b w t.born.layer v = sym e ∙ t.born.named in
      let q : t.born.layer ≡ top d = sym (node_id_layer d b valid base t.entry t.older old t.born.layer v t.born.layered t.born.known) ∙ (ap (λ x. (parts_of d.layout x).layer) (sym named) ∙ i) in
      record {
        timed = t;
        legal = old;
        named = named ∙ ap (λ l. node d b w l v) q;
        fresh = subst (λ l. is_new d b w l v ≡ true) q t.born.fresh;
        holds = t.born.holds ∙ ap (λ l. component d b w l v) q;
      }

  -- what a prefix that has the entry which made a root tells of it
  root_made : (log : List Entry) (r : ℕ) (n : Node) → RootBy log r n → (k : ℕ) → k ≤ length log → n.made < k
      → (list_any (λ e. has e.made r) (log_at d b log k) ≡ true) × (Legal d b log → n.leaves ≡ leaves d b (log_at d b log k) r)
  root_made log r n t k high low =
      let s = prefix_parts d b log k (omega arith) high in
      let e : Entry = t.timed.entry in
      let older : List Entry = t.timed.older in
      let v : ℕ = t.timed.born.supervoxel in
      let c : k ≡ length (s.1 ∷ s.2) = s.5 in
      let made : n.made ≡ length older = t.timed.made in
      let at = ends_in s.0 (s.1 ∷ s.2) t.timed.newer (e ∷ older) (sym s.3 ∙ t.timed.whole) (omega arith) in
      let prefix : log_at d b log k ≡ at.0 ++ e ∷ older = s.4 ∙ at.1 in
      let named : has e.made r ≡ true = subst (λ x. has e.made x ≡ true) (sym t.named) (made_here d b valid base e older t.legal v t.timed.born.known t.fresh) in (
        ap (list_any (λ x. has x.made r)) prefix ∙ (list_any-append (λ x. has x.made r) at.0 (e ∷ older) ∙ or_right (list_any (λ x. has x.made r) at.0) _ (or_left (has e.made r) _ named)),
        λ legal.
            let whole : Legal d b (at.0 ++ e ∷ older) = subst (Legal d b) at.1 (legal_prefix d b s.0 s.1 s.2 (subst (Legal d b) s.3 legal)) in
            t.holds ∙ (sym (leaves_from d b valid base at.0 e older whole v t.timed.born.known t.fresh) ∙ (ap (λ x. leaves d b (at.0 ++ e ∷ older) x) (sym t.named) ∙ ap (λ l. leaves d b l r) (sym prefix))),
      )

  -- a prefix without that entry hasn't the root
  root_unmade : (log : List Entry) → Legal d b log → (r : ℕ) (n : Node) → RootBy log r n → n.id ≡ r → (k : ℕ) → 1 ≤ k → k ≤ length log → k ≤ n.made → list_any (λ e. has e.made r) (log_at d b log k) ≡ true → ⊥
  unfolding root
  root_unmade log legal r n t same k low high late h =
      let s = prefix_parts d b log k low high in
      let p = passes (λ e. has e.made r) (s.1 ∷ s.2) (subst (λ l. list_any (λ e. has e.made r) l ≡ true) s.4 h) in
      let e : Entry = p.1 in
      let older : List Entry = p.2 in
      let g : Entry = t.timed.entry in
      let c : k ≡ length (s.1 ∷ s.2) = s.5 in
      let m : length (s.1 ∷ s.2) ≡ length p.0 + length (e ∷ older) = ap length p.3 ∙ length-append p.0 (e ∷ older) in
      let made : n.made ≡ length t.timed.older = t.timed.made in
      let one : (t.timed.newer ++ g ∷ []) ++ t.timed.older ≡ log = append_assoc t.timed.newer (g ∷ []) t.timed.older ∙ sym t.timed.whole in
      let two : log ≡ (s.0 ++ p.0) ++ e ∷ older = s.3 ∙ (ap (λ xs. s.0 ++ xs) p.3 ∙ sym (append_assoc s.0 p.0 (e ∷ older))) in
      let at = ends_in (t.timed.newer ++ g ∷ []) t.timed.older (s.0 ++ p.0) (e ∷ older) (one ∙ two) (omega arith) in
      let there : Legal d b (p.0 ++ e ∷ older) = subst (Legal d b) p.3 (legal_prefix d b s.0 s.1 s.2 (subst (Legal d b) s.3 legal)) in
      let f = made_fresh d b valid base e older r (legal_prefix d b p.0 e older there) p.4 in
      let born : Born d b (g ∷ (at.0 ++ e ∷ older)) n = subst (λ xs. Born d b (g ∷ xs) n) at.1 t.timed.born in
      let now : Legal d b (g ∷ (at.0 ++ e ∷ older)) = subst (λ xs. Legal d b (g ∷ xs)) at.1 t.legal in
      later_other d b valid base g at.0 e older now n born (top d) f.0 (top_in_layers d) f.1 (same ∙ sym f.2)

  -- a root that a prefix has is known by its id
  root_known : (log : List Entry) → Legal d b log → (r k : ℕ) → 1 ≤ k → k ≤ length log → list_any (λ e. has e.made r) (log_at d b log k) ≡ true → list_any (has_id r) (rows_of d b log) ≡ true
  unfolding root
  root_known log legal r k low high h =
      let s = prefix_parts d b log k low high in
      let p = passes (λ e. has e.made r) (s.1 ∷ s.2) (subst (λ l. list_any (λ e. has e.made r) l ≡ true) s.4 h) in
      let e : Entry = p.1 in
      let older : List Entry = p.2 in
      let whole : log ≡ (s.0 ++ p.0) ++ e ∷ older = s.3 ∙ (ap (λ xs. s.0 ++ xs) p.3 ∙ sym (append_assoc s.0 p.0 (e ∷ older))) in
      let old : Legal d b (e ∷ older) = legal_prefix d b (s.0 ++ p.0) e older (subst (Legal d b) whole legal) in
      let f = made_fresh d b valid base e older r old p.4 in
      let named : node d b (e ∷ older) (top d) f.0 ≡ r = f.2 in
      let k = known_later d b valid base (s.0 ++ p.0) (e ∷ older) (node d b (e ∷ older) (top d) f.0) (known d b valid base e older old (top d) f.0 (top_in_layers d) f.1) in
      any_has r (rows_of d b log) (subst (λ l. list_any (is_node r) (rows_of d b l) ≡ true) (sym whole) (subst (λ x. list_any (is_node x) (rows_of d b ((s.0 ++ p.0) ++ e ∷ older)) ≡ true) named k))

-- the id of a root tells the top layer
pub root_layer : (d : Dataset) (r : ℕ) → is_root_id d r ≡ true → (parts_of d.layout r).layer ≡ top d
unfolding is_root_id
root_layer d r h = eqb-true _ _ (and_parts _ _ (and_parts _ _ (and_parts _ _ (and_parts _ _ h).0).0).0).0

-- What the search for a root's id tells, at a prefix of a log that words tell of.
module _ (d : Dataset) (b : Base) (log : List Entry) (words : List ℕ) (i : ParentImage d b log words) (r : ℕ) (form : (parts_of d.layout r).layer ≡ top d) where
  skips : has_id r (HeaderRow d (length b.supervoxels) (length (chunks d b))) ≡ false
  unfolding has_id
  skips = refl

  -- the record that is found is that of a node
  pub root_found : (p : ℕ) → first_place (has_id r) (rows_of d b log) ≡ Some p → (n : Node) × HoldsNode d b log p n × (n.id ≡ r)
  unfolding has_id top
  root_found p h = let s = stands_there d b log (has_id r) skips p h in from s.0 s.1 s.2
    where
      from : (row : Row) → slice_get (rows_of d b log) p ≡ Some row → has_id r row ≡ true → (n : Node) × HoldsNode d b log p n × (n.id ≡ r)
      from (NodeRow n) g t = (n, g, eqb-true n.id r t)
      from (SupervoxelRow v) g t =
          absurd (let q : v ≡ r = eqb-true v r t in
          let one : (parts_of d.layout v).layer ≡ 1 = supervoxel_layer d b i.dataset i.base log words i p v g in
          let two : (parts_of d.layout v).layer ≡ top d = ap (λ x. (parts_of d.layout x).layer) q ∙ form in
          let low = top_low d.grid in
          omega arith)
      from row g t = absurd (false≢true t)

  -- where none is found, no prefix has the root
  pub none_found : first_place (has_id r) (rows_of d b log) ≡ None → (k : ℕ) → 1 ≤ k → k ≤ length log → list_any (λ e. has e.made r) (log_at d b log k) ≡ false
  none_found h k low high = elim (cases_Bool (list_any (λ e. has e.made r) (log_at d b log k))) [
    | inl t ↦ absurd (none_passes d b log (has_id r) skips h (root_known d b i.dataset i.base log i.legal r k low high t))
    | inr f ↦ f
  ]

  -- where the entry that made it is below the prefix, the prefix has the root, with the leaves of the record
  pub found_made : (p : ℕ) (n : Node) → HoldsNode d b log p n → n.id ≡ r → (k : ℕ) → k ≤ length log → n.made < k
      → (list_any (λ e. has e.made r) (log_at d b log k) ≡ true) × (n.leaves ≡ leaves d b (log_at d b log k) r)
  found_made p n h e k high low =
      let m = root_made d b i.dataset i.base log r n (root_by d b i.dataset i.base log i.legal r p n form h e) k high low in (m.0, m.1 i.legal)

  -- else the prefix hasn't it
  pub found_later : (p : ℕ) (n : Node) → HoldsNode d b log p n → n.id ≡ r → (k : ℕ) → 1 ≤ k → k ≤ length log → k ≤ n.made → list_any (λ e. has e.made r) (log_at d b log k) ≡ false
  found_later p n h e k low high late = elim (cases_Bool (list_any (λ e. has e.made r) (log_at d b log k))) [
    | inl t ↦ absurd (root_unmade d b i.dataset i.base log i.legal r n (root_by d b i.dataset i.base log i.legal r p n form h e) e k low high late t)
    | inr f ↦ f
  ]
