-- The child of a link has a record before that of the link.
use Rattle.std.proofs.Common.{◌≡◌, ℕ, zero, suc, ◌+◌, ◌-◌, Bool, true, false, cond, ◌||◌, eqb, List, [], ◌∷◌, ◌++◌, map, take, drop, Some, refl, sym, subst, inl, inr, eq-eqb, append-nil, append_assoc}
use Rattle.std.specs.List.{AllByRecursion, list_any, slice_get}
use Rattle.std.proofs.lemmas.Bool.{or_left, or_right, or_cases, false≢true}
use Rattle.std.proofs.lemmas.List.{take-append-drop}
use Rattle.op_model.specs.declared.base.Dataset.{Dataset}
use Rattle.op_model.specs.declared.base.Base.{Base}
use Rattle.op_model.specs.declared.entry.Entry.{Entry}
use Rattle.graph_model.specs.Lists.{has}
use Rattle.graph_model.proofs.ListLemmas.{has_cases, has_none}
use Rattle.op_model.specs.Chunks.{layers}
use Rattle.op_model.specs.Labels.{is_new, is_empty, node}
use Rattle.op_model.specs.Valid.{IsDataset, IsBase}
use Rattle.op_model.specs.Legal.{Legal}
use Rattle.record_rows.specs.Rows.{Row, HeaderRow, SupervoxelRow, ChunkRow, NodeRow, LinkRow, EdgeRow, ChangeRow, ItemRow, EntryRow, Link}
use Rattle.record_rows.specs.Chains.{has_id, is_node}
use Rattle.record_rows.specs.Words.{place_from}
use Rattle.record_rows.specs.LogRows.{marks, chunks, new_nodes, new_links, new_edges, entry_rows, base_rows, rows_of}
use Rattle.record_rows.specs.Readings.{Holds, HoldsId}
use Rattle.record_rows.specs.Versions.{child_at}
use Rattle.record_rows.proofs.DifferLemmas.{all_more, all_each, all_map}
use Rattle.record_rows.proofs.LinkLemmas.{IsLayer, NewLink, news_links, of_component, layer_down, node_made, node_kept}
use Rattle.record_rows.proofs.NodePlaces.{any_node, known, found_from}
use Rattle.record_rows.proofs.RowFacts.{any_left, any_right, all_base}
use Rattle.std.proofs.lemmas.Bool.{eqb-false}

-- the child of a link has a record among these
abbrev pub HasChild : List Row → Row → Type 0
HasChild seen (LinkRow l) = list_any (has_id l.child) seen ≡ true
HasChild seen row = Unit {0}

more_seen : (seen more : List Row) (row : Row) → HasChild seen row → HasChild (seen ++ more) row
more_seen seen more (LinkRow l) h = any_left (has_id l.child) seen more h
more_seen seen more row h = tt

-- the child of each link of these records has one before it, there or among those that were seen
abbrev Ahead : List Row → List Row → Type 0
Ahead seen [] = Unit {0}
Ahead seen (row ∷ rows) = HasChild seen row × Ahead (seen ++ row ∷ []) rows

ahead_at : (seen rows : List Row) (p : ℕ) (row : Row) → Ahead seen rows → slice_get rows p ≡ Some row → HasChild (seen ++ take p rows) row
ahead_at seen [] p row a h = cc
ahead_at seen (r ∷ rows) zero row a h = let q : r ≡ row = cc in subst (λ s. HasChild s row) (sym (append-nil seen)) (subst (HasChild seen) q a.0)
ahead_at seen (r ∷ rows) (suc p) row a h = subst (λ s. HasChild s row) (append_assoc seen (r ∷ []) (take p rows)) (ahead_at (seen ++ r ∷ []) rows p row a.1 h)

ahead_all : (seen rows : List Row) → AllByRecursion (HasChild seen) rows → Ahead seen rows
ahead_all seen [] a = tt
ahead_all seen (r ∷ rows) a = (a.0, ahead_all (seen ++ r ∷ []) rows (all_more (HasChild seen) (HasChild (seen ++ r ∷ [])) rows (more_seen seen (r ∷ [])) a.1))

ahead_each : {X : Type 0} (seen : List Row) (kind : X → Row) (xs : List X) → ((x : X) → HasChild seen (kind x)) → Ahead seen (map kind xs)
ahead_each seen kind xs f = ahead_all seen (map kind xs) (all_map kind (HasChild seen) xs (all_each (λ x. HasChild seen (kind x)) xs f))

ahead_append : (seen xs ys : List Row) → Ahead seen xs → Ahead (seen ++ xs) ys → Ahead seen (xs ++ ys)
ahead_append seen [] ys a c = subst (λ s. Ahead s ys) (append-nil seen) c
ahead_append seen (x ∷ xs) ys a c = (a.0, ahead_append (seen ++ x ∷ []) xs ys a.1 (subst (λ s. Ahead s ys) (sym (append_assoc seen (x ∷ []) xs)) c))

pub any_has : (id : ℕ) (rows : List Row) → list_any (is_node id) rows ≡ true → list_any (has_id id) rows ≡ true
unfolding is_node has_id
any_has id [] h = h
any_has id (NodeRow n ∷ rows) h = elim (or_cases (eqb n.id id) (list_any (is_node id) rows) h) [ inl e ↦ or_left (eqb n.id id) _ e | inr g ↦ or_right (eqb n.id id) _ (any_has id rows g) ]
any_has id (SupervoxelRow v ∷ rows) h = or_right (eqb v id) _ (any_has id rows h)
any_has id (HeaderRow d s k ∷ rows) h = any_has id rows h
any_has id (ChunkRow k ∷ rows) h = any_has id rows h
any_has id (LinkRow l ∷ rows) h = any_has id rows h
any_has id (EdgeRow made e ∷ rows) h = any_has id rows h
any_has id (ChangeRow k e ∷ rows) h = any_has id rows h
any_has id (ItemRow i ∷ rows) h = any_has id rows h
any_has id (EntryRow e ∷ rows) h = any_has id rows h

module _ (d : Dataset) (b : Base) where
  -- a supervoxel of the base has a record
  pub supervoxel_seen : (log : List Entry) (v : ℕ) → has b.supervoxels v ≡ true → list_any (has_id v) (rows_of d b log) ≡ true
  unfolding rows_of base_rows has_id
  supervoxel_seen [] v h = any_left (has_id v) (map SupervoxelRow b.supervoxels) (map ChunkRow (chunks d b)) (among b.supervoxels h)
    where
      among : (xs : List ℕ) → has xs v ≡ true → list_any (has_id v) (map SupervoxelRow xs) ≡ true
      among [] g = has_none v g
      among (x ∷ xs) g = elim (has_cases x xs v g) [ inl q ↦ or_left (eqb x v) _ (eq-eqb x v q) | inr r ↦ or_right (eqb x v) _ (among xs r) ]
  supervoxel_seen (e ∷ log) v h = any_left (has_id v) (rows_of d b log) (entry_rows d b log e) (supervoxel_seen log v h)

module _ (d : Dataset) (b : Base) (valid : IsDataset d) (base : IsBase d b) where
  -- the node of a supervoxel has a record among those of the older log, and of the new nodes
  node_seen : (e : Entry) (log : List Entry) → Legal d b (e ∷ log) → (k l u : ℕ) → has (layers d) l ≡ true → has b.supervoxels u ≡ true → (between : List Row)
      → list_any (has_id (node d b (e ∷ log) l u)) ((rows_of d b log ++ between) ++ map NodeRow (new_nodes d b (e ∷ log) k)) ≡ true
  unfolding is_new is_empty
  node_seen e log legal k l u hl hu between = go (is_new d b (e ∷ log) l u) refl
    where
      id : ℕ
      id = node d b (e ∷ log) l u

      news : List Row
      news = map NodeRow (new_nodes d b (e ∷ log) k)

      old : (older : List Entry) → Legal d b (e ∷ older) → is_new d b (e ∷ older) l u ≡ false → list_any (is_node (node d b (e ∷ older) l u)) (rows_of d b older) ≡ true
      old [] g n = absurd (false≢true (sym n))
      old (f ∷ older) g n = subst (λ i. list_any (is_node i) (rows_of d b (f ∷ older)) ≡ true) (node_kept d b valid base e (f ∷ older) l u n) (known d b valid base f older g.1 l u hl hu)

      go : (t : Bool) → is_new d b (e ∷ log) l u ≡ t → list_any (has_id id) ((rows_of d b log ++ between) ++ news) ≡ true
      go true n =
          let m = node_made d b valid base e log legal k l u hl hu n in
          any_right (has_id id) (rows_of d b log ++ between) news (any_has id news (any_node id (new_nodes d b (e ∷ log) k) m.0 m.1 m.2))
      go false n = any_left (has_id id) (rows_of d b log ++ between) news (any_left (has_id id) (rows_of d b log) between (any_has id (rows_of d b log) (old log legal n)))

  child_seen : (e : Entry) (log : List Entry) → Legal d b (e ∷ log) → (k l u : ℕ) → IsLayer d b valid base l → has b.supervoxels u ≡ true → (between : List Row)
      → list_any (has_id (child_at d b (e ∷ log) l u)) ((rows_of d b log ++ between) ++ map NodeRow (new_nodes d b (e ∷ log) k)) ≡ true
  unfolding child_at
  child_seen e log legal k l u p hu between = go (eqb l 2) refl
    where
      news : List Row
      news = map NodeRow (new_nodes d b (e ∷ log) k)

      go : (t : Bool) → eqb l 2 ≡ t → list_any (has_id (cond t u (node d b (e ∷ log) (l - 1) u))) ((rows_of d b log ++ between) ++ news) ≡ true
      go true t = any_left (has_id u) (rows_of d b log ++ between) news (any_left (has_id u) (rows_of d b log) between (supervoxel_seen d b log u hu))
      go false t = node_seen e log legal k (l - 1) u ((layer_down d l p.0).1 (eqb-false l 2 t)) hu between

  entry_ahead : (e : Entry) (log : List Entry) → Legal d b (e ∷ log) → Ahead (rows_of d b log) (entry_rows d b log e)
  unfolding entry_rows
  entry_ahead e log legal =
      let seen : List Row = rows_of d b log in
      let edges : List Row = map (EdgeRow e.number) (new_edges d b log e) in
      let nodes : List Row = map NodeRow (new_nodes d b (e ∷ log) e.number) in
      let links : List Row = map LinkRow (new_links d b (e ∷ log) e.number) in
      let items : List Row = map ItemRow (marks e.number e.asked) in
      let changes : List Row = map (ChangeRow e.number) e.changed in
      ahead_append seen edges _ (ahead_each seen (EdgeRow e.number) (new_edges d b log e) (λ x. tt))
      (ahead_append (seen ++ edges) nodes _ (ahead_each (seen ++ edges) NodeRow (new_nodes d b (e ∷ log) e.number) (λ x. tt))
      (ahead_append ((seen ++ edges) ++ nodes) links _
      (ahead_all ((seen ++ edges) ++ nodes) links
      (all_map LinkRow (HasChild ((seen ++ edges) ++ nodes)) (new_links d b (e ∷ log) e.number)
      (all_more (λ m. (l : ℕ) × IsLayer d b valid base l × NewLink d b valid base (e ∷ log) l m) (λ m. HasChild ((seen ++ edges) ++ nodes) (LinkRow m)) (new_links d b (e ∷ log) e.number)
      (λ m q.
      let new = q.2 in
      subst (λ c. list_any (has_id c) ((seen ++ edges) ++ nodes) ≡ true) (sym new.6)
      (child_seen e log legal e.number q.0 new.1 q.1 (of_component d b valid base (e ∷ log) q.0 new.0 new.1 new.5).0 edges))
      (news_links d b valid base (e ∷ log) e.number))))
      (ahead_append (((seen ++ edges) ++ nodes) ++ links) items _ (ahead_each _ ItemRow (marks e.number e.asked) (λ x. tt))
      (ahead_append ((((seen ++ edges) ++ nodes) ++ links) ++ items) changes _ (ahead_each _ (ChangeRow e.number) e.changed (λ x. tt)) (tt, tt)))))

  base_ahead : Ahead [] (base_rows d b)
  base_ahead = ahead_all [] (base_rows d b) (all_base d b (HasChild []) tt (all_each (λ v. Unit {0}) b.supervoxels (λ v. tt)) (all_each (λ c. Unit {0}) (chunks d b) (λ c. tt)))

  all_ahead : (log : List Entry) → Legal d b log → Ahead [] (rows_of d b log)
  unfolding rows_of
  all_ahead [] legal = absurd legal
  all_ahead (e ∷ []) legal = ahead_append [] (base_rows d b) (entry_rows d b [] e) base_ahead (entry_ahead e [] legal)
  all_ahead (e ∷ f ∷ log) legal = ahead_append [] (rows_of d b (f ∷ log)) (entry_rows d b (f ∷ log) e) (all_ahead (f ∷ log) legal.1) (entry_ahead e (f ∷ log) legal)

  -- the child of a link has a record before it
  pub child_ahead : (log : List Entry) → Legal d b log → (p : ℕ) (l : Link) → Holds d b log p (LinkRow l) → list_any (has_id l.child) (take p (rows_of d b log)) ≡ true
  child_ahead log legal p l h = ahead_at [] (rows_of d b log) p (LinkRow l) (all_ahead log legal) h

  -- so the place of the child is where the first record of its id stands
  pub child_found : (log : List Entry) → Legal d b log → (p : ℕ) (l : Link) → Holds d b log p (LinkRow l) → place_from (has_id l.child) 0 (take p (rows_of d b log)) ≡ place_from (has_id l.child) 0 (rows_of d b log)
  unfolding place_from
  child_found log legal p l h = within (has_id l.child) 0 p (rows_of d b log) (child_ahead log legal p l h)
    where
      within : (test : Row → Bool) (k p : ℕ) (rows : List Row) → list_any test (take p rows) ≡ true → place_from test k (take p rows) ≡ place_from test k rows
      within test k zero rows g = absurd (false≢true g)
      within test k (suc p) [] g = refl
      within test k (suc p) (r ∷ rows) g = go (test r) g (within test (k + 1) p rows)
        where
          go : (t : Bool) → t || list_any test (take p rows) ≡ true → (list_any test (take p rows) ≡ true → place_from test (k + 1) (take p rows) ≡ place_from test (k + 1) rows)
              → cond t k (place_from test (k + 1) (take p rows)) ≡ cond t k (place_from test (k + 1) rows)
          go true o ih = refl
          go false o ih = ih o

  -- and there it stands
  pub child_holds : (log : List Entry) → Legal d b log → (p : ℕ) (l : Link) → Holds d b log p (LinkRow l) → HoldsId d b log (place_from (has_id l.child) 0 (rows_of d b log)) l.child
  child_holds log legal p l h =
      let rows : List Row = rows_of d b log in
      let any : list_any (has_id l.child) rows ≡ true = subst (λ rs. list_any (has_id l.child) rs ≡ true) (take-append-drop p rows) (any_left (has_id l.child) (take p rows) (drop p rows) (child_ahead log legal p l h)) in
      let f = found_from (has_id l.child) rows 0 rows refl any in
      (f.0, f.1, f.2)
