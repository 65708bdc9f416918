-- The ids of the nodes that an entry makes are those of no record before it.
use Rattle.std.proofs.Common.{◌≡◌, ℕ, zero, suc, ◌+◌, ◌-◌, ◌<◌, ◌≤◌, Bool, true, false, cond, ◌||◌, eqb, ltb, List, [], ◌∷◌, ◌++◌, length, map, get_or, Some, refl, sym, ◌∙◌, ap, subst, inl, inr, ◌⊎◌, arith, append_assoc}
use Rattle.std.specs.List.{AllByRecursion, slice_get, list_any, filter_map}
use Rattle.std.proofs.lemmas.Bool.{false≢true, eqb-true, eqb-false, le-ltb, or_left, or_right, or_cases}
use Rattle.op_model.specs.declared.base.Dataset.{Dataset}
use Rattle.op_model.specs.declared.base.Base.{Base}
use Rattle.op_model.specs.declared.entry.Entry.{Entry}
use Rattle.graph_model.specs.Lists.{has}
use Rattle.op_model.specs.Chunks.{layers}
use Rattle.op_model.specs.Labels.{node}
use Rattle.op_model.specs.Legal.{Legal}
use Rattle.op_model.specs.Valid.{IsBase, IsDataset}
use Rattle.record_rows.specs.Rows.{Row, HeaderRow, SupervoxelRow, ChunkRow, NodeRow, LinkRow, EdgeRow, ChangeRow, ItemRow, EntryRow, Node}
use Rattle.record_rows.specs.Chains.{child_of, has_id, is_node, retires, version_of}
use Rattle.record_rows.specs.LogRows.{chunks, entry_rows, marks, new_edges, new_links, new_nodes, rows_of}
use Rattle.record_rows.specs.Versions.{child_at}
use Rattle.record_rows.proofs.DifferLemmas.{Differ, all_append, all_both, all_each, all_more}
use Rattle.record_rows.proofs.EntryRecords.{number_told}
use Rattle.record_rows.proofs.Listings.{nodes_of}
use Rattle.record_rows.proofs.LinkLemmas.{layer_down, news_links, of_component, supervoxel_layer}
use Rattle.record_rows.proofs.NodeIds.{node_layer}
use Rattle.record_rows.proofs.NodeOrder.{node_of, nodes_rows}
use Rattle.record_rows.proofs.NodePlaces.{known}
use Rattle.record_rows.proofs.OnceLemmas.{all_has_self, nodes_once}
use Rattle.record_rows.proofs.RowFacts.{all_at, all_base, all_entry, any_left, nodes_made, number_below, parent_known}
use Rattle.row_append.specs.Ends.{ChildrenOf, VersionsOf, HasNone, IsFree, belongs, has_part, owns}
use Rattle.base_rows.specs.BaseRows.{ids_of}
use Rattle.base_rows.specs.Lists.{IsOnce}
use Rattle.new_ids.specs.NewIds.{IsNewNode, NewIdsAreFree}
use Rattle.new_ids.proofs.PairFacts.{edges_unchanged}
use Rattle.new_ids.proofs.NodeAscent.{news_ascend}

abbrev OtherId : Node → Node → Type 0
OtherId m n = m.id ≡ n.id → ⊥

both : (a b : Bool) → a ≡ false → b ≡ false → (a || b) ≡ false
both true b e f = e
both false b e f = f

is_false : (t : Bool) → (t ≡ true → ⊥) → t ≡ false
is_false true f = absurd (f refl)
is_false false f = refl

none_at : (test : Row → Bool) (rows : List Row) → ((p : ℕ) (row : Row) → slice_get rows p ≡ Some row → test row ≡ false) → list_any test rows ≡ false
none_at test [] f = refl
none_at test (r ∷ rows) f = rw (f 0 r refl, none_at test rows (λ p row h. f (suc p) row h)) refl

any_stands : (test : Row → Bool) (rows : List Row) (p : ℕ) (row : Row) → slice_get rows p ≡ Some row → test row ≡ true → list_any test rows ≡ true
any_stands test [] p row h t = cc
any_stands test (r ∷ rows) zero row h t = let q : r ≡ row = cc in or_left (test r) _ (ap test q ∙ t)
any_stands test (r ∷ rows) (suc p) row h t = or_right (test r) _ (any_stands test rows p row h t)

node_passes : (n : Node) (id : ℕ) → eqb n.id id ≡ true → is_node id (NodeRow n) ≡ true
unfolding is_node
node_passes n id q = q

-- nodes in front differ from those behind
apart : (xs ys : List Node) → Differ OtherId (xs ++ ys) → AllByRecursion (λ n. (list_any (λ m. eqb m.id n.id) xs ≡ true) → ⊥) ys
apart [] ys h = all_each (λ n. (false ≡ true) → ⊥) ys (λ n e. false≢true e)
apart (x ∷ xs) ys h =
    all_more (λ n. OtherId x n × ((list_any (λ m. eqb m.id n.id) xs ≡ true) → ⊥)) (λ n. (list_any (λ m. eqb m.id n.id) (x ∷ xs) ≡ true) → ⊥) ys
    (λ n p e. elim (or_cases (eqb x.id n.id) (list_any (λ m. eqb m.id n.id) xs) e) [ inl q ↦ p.0 (eqb-true x.id n.id q) | inr q ↦ p.1 q ])
    (all_both (OtherId x) (λ n. (list_any (λ m. eqb m.id n.id) xs ≡ true) → ⊥) ys (front xs ys h.0) (apart xs ys h.1))
  where
    front : (us vs : List Node) → AllByRecursion (OtherId x) (us ++ vs) → AllByRecursion (OtherId x) vs
    front [] vs a = a
    front (u ∷ us) vs a = front us vs a.1

behind : (xs ys : List Node) → Differ OtherId (xs ++ ys) → Differ OtherId ys
behind [] ys h = h
behind (x ∷ xs) ys h = behind xs ys h.1

-- a list of nodes with different ids has each id once
not_there : (x : ℕ) (ns : List Node) (j : ℕ) → AllByRecursion (λ n. x ≡ n.id → ⊥) ns → j < length (ids_of ns) → x ≡ get_or (ids_of ns) j 0 → ⊥
not_there x [] j a l e = absurd (omega arith)
not_there x (n ∷ ns) zero a l e = a.0 e
not_there x (n ∷ ns) (suc j) a l e = not_there x ns j a.1 (omega arith) e

once_of : (ns : List Node) → Differ OtherId ns → IsOnce (ids_of ns)
once_of [] h i j l k e = absurd (omega arith)
once_of (n ∷ ns) h zero zero l k e = refl
once_of (n ∷ ns) h zero (suc j) l k e = absurd (not_there n.id ns j h.0 (omega arith) e)
once_of (n ∷ ns) h (suc i) zero l k e = absurd (not_there n.id ns i h.0 (omega arith) (sym e))
once_of (n ∷ ns) h (suc i) (suc j) l k e = ap suc (once_of ns h.1 i j (omega arith) (omega arith) e)

-- the node of a record is listed
listed : (id : ℕ) (rows : List Row) → list_any (is_node id) rows ≡ true → list_any (λ m. eqb m.id id) (filter_map node_of rows) ≡ true
unfolding is_node node_of
listed id [] h = h
listed id (NodeRow n ∷ rows) h = elim (or_cases (eqb n.id id) (list_any (is_node id) rows) h) [ inl q ↦ or_left (eqb n.id id) _ q | inr q ↦ or_right (eqb n.id id) _ (listed id rows q) ]
listed id (HeaderRow d s c ∷ rows) h = listed id rows h
listed id (SupervoxelRow v ∷ rows) h = listed id rows h
listed id (ChunkRow c ∷ rows) h = listed id rows h
listed id (LinkRow x ∷ rows) h = listed id rows h
listed id (EdgeRow k x ∷ rows) h = listed id rows h
listed id (ChangeRow k x ∷ rows) h = listed id rows h
listed id (ItemRow x ∷ rows) h = listed id rows h
listed id (EntryRow x ∷ rows) h = listed id rows h

-- each of some nodes with a record among these has a place there
at_place : (rows : List Row) (xs : List Row) (n : Node) (j : ℕ) → slice_get xs j ≡ Some (NodeRow n) → slice_get (rows ++ xs) (length rows + j) ≡ Some (NodeRow n)
at_place [] xs n j h = let e : 0 + j ≡ j = omega arith in rw e h
at_place (r ∷ rows) xs n j h = let e : suc (length rows) + j ≡ suc (length rows + j) = omega arith in rw e (at_place rows xs n j h)

stand : (xs : List Row) (ns : List Node) (ys : List Row) → AllByRecursion (λ n. (p : ℕ) × (slice_get (xs ++ (map NodeRow ns ++ ys)) p ≡ Some (NodeRow n))) ns
stand xs [] ys = tt
stand xs (n ∷ ns) ys = (
  (length xs + 0, at_place xs (NodeRow n ∷ (map NodeRow ns ++ ys)) n 0 refl),
  subst (λ rs. AllByRecursion (λ m. (p : ℕ) × (slice_get rs p ≡ Some (NodeRow m))) ns) (append_assoc xs (NodeRow n ∷ []) (map NodeRow ns ++ ys)) (stand (xs ++ NodeRow n ∷ []) ns ys),
)

module _ (d : Dataset) (b : Base) (valid : IsDataset d) (base : IsBase d b) where
  -- a supervoxel or a node of the log
  abbrev Known : List Entry → ℕ → Type 0
  Known log id = (has b.supervoxels id ≡ true) ⊎ (list_any (is_node id) (rows_of d b log) ≡ true)

  known_more : (e : Entry) (log : List Entry) (id : ℕ) → Known log id → Known (e ∷ log) id
  unfolding rows_of
  known_more e log id (inl h) = inl h
  known_more e log id (inr h) = inr (any_left (is_node id) (rows_of d b log) (entry_rows d b log e) h)

  -- the record is of a known supervoxel or node, or a link of a known child
  abbrev Fine : List Entry → Row → Type 0
  Fine log (SupervoxelRow v) = has b.supervoxels v ≡ true
  Fine log (LinkRow l) = Known log l.child
  Fine log row = Unit {0}

  fine_more : (e : Entry) (log : List Entry) (row : Row) → Fine log row → Fine (e ∷ log) row
  fine_more e log (LinkRow l) h = known_more e log l.child h
  fine_more e log (SupervoxelRow v) h = h
  fine_more e log row h = tt

  child_known : (e : Entry) (log : List Entry) → Legal d b (e ∷ log) → (l u : ℕ) → has (layers d) l ≡ true → has b.supervoxels u ≡ true → Known (e ∷ log) (child_at d b (e ∷ log) l u)
  unfolding child_at
  child_known e log legal l u hl hu = go (eqb l 2) refl
    where
      go : (t : Bool) → eqb l 2 ≡ t → Known (e ∷ log) (cond t u (node d b (e ∷ log) (l - 1) u))
      go true q = inl hu
      go false q = inr (known d b valid base e log legal (l - 1) u ((layer_down d l hl).1 (eqb-false l 2 q)) hu)

  entry_fine : (e : Entry) (log : List Entry) → Legal d b (e ∷ log) → AllByRecursion (Fine (e ∷ log)) (entry_rows d b log e)
  entry_fine e log legal =
      all_entry d b (Fine (e ∷ log)) log e (λ x. tt) (λ i. tt) (λ c. tt)
      (all_each (λ n. Unit {0}) (new_nodes d b (e ∷ log) e.number) (λ n. tt))
      (all_more _ (λ l. Known (e ∷ log) l.child) (new_links d b (e ∷ log) e.number)
      (λ m q. subst (Known (e ∷ log)) (sym q.2.6) (child_known e log legal q.0 q.2.1 q.1.0 (of_component d b valid base (e ∷ log) q.0 q.2.0 q.2.1 q.2.5).0))
      (news_links d b valid base (e ∷ log) e.number))
      tt

  rows_fine : (log : List Entry) → Legal d b log → AllByRecursion (Fine log) (rows_of d b log)
  unfolding rows_of
  rows_fine [] legal = absurd legal
  rows_fine (e ∷ []) legal =
      all_append (Fine (e ∷ [])) (rows_of d b []) (entry_rows d b [] e) (all_base d b (Fine (e ∷ [])) tt (all_has_self b.supervoxels) (all_each (λ c. Unit {0}) (chunks d b) (λ c. tt))) (entry_fine e [] legal)
  rows_fine (e ∷ f ∷ log) legal =
      all_append (Fine (e ∷ f ∷ log)) (rows_of d b (f ∷ log)) (entry_rows d b (f ∷ log) e)
      (all_more (Fine (f ∷ log)) (Fine (e ∷ f ∷ log)) (rows_of d b (f ∷ log)) (fine_more e (f ∷ log)) (rows_fine (f ∷ log) legal.1)) (entry_fine e (f ∷ log) legal)

  -- an id that no supervoxel and no node has
  module _ (log : List Entry) (legal : Legal d b log) (id : ℕ) (none : Known log id → ⊥) where
    row_other : (p : ℕ) (row : Row) → slice_get (rows_of d b log) p ≡ Some row → Fine log row → (has_id id row ≡ false) × (child_of id row ≡ false) × (version_of id row ≡ false) × (is_node id row ≡ false)
    unfolding has_id child_of version_of is_node
    row_other p (SupervoxelRow v) h a = (is_false (eqb v id) (λ q. none (inl (subst (λ x. has b.supervoxels x ≡ true) (eqb-true v id q) a))), refl, refl, refl)
    row_other p (NodeRow n) h a =
        let z : eqb n.id id ≡ false = is_false (eqb n.id id) (λ q. none (inr (any_stands (is_node id) (rows_of d b log) p (NodeRow n) h (node_passes n id q)))) in
        (z, refl, refl, z)
    row_other p (LinkRow l) h a = (
      refl,
      is_false (eqb l.parent id) (λ q. none (inr (subst (λ x. list_any (is_node x) (rows_of d b log) ≡ true) (eqb-true l.parent id q) (parent_known d b log p l h)))),
      is_false (eqb l.child id) (λ q. none (subst (Known log) (eqb-true l.child id q) a)),
      refl,
    )
    row_other p (HeaderRow x s c) h a = (refl, refl, refl, refl)
    row_other p (ChunkRow c) h a = (refl, refl, refl, refl)
    row_other p (EdgeRow k x) h a = (refl, refl, refl, refl)
    row_other p (ChangeRow k x) h a = (refl, refl, refl, refl)
    row_other p (ItemRow x) h a = (refl, refl, refl, refl)
    row_other p (EntryRow x) h a = (refl, refl, refl, refl)

    others : (p : ℕ) (row : Row) → slice_get (rows_of d b log) p ≡ Some row → (has_id id row ≡ false) × (child_of id row ≡ false) × (version_of id row ≡ false) × (is_node id row ≡ false)
    others p row h = row_other p row h (all_at (Fine log) (rows_of d b log) (rows_fine log legal) p row h)

    free_children : IsFree (ChildrenOf id) (rows_of d b log)
    unfolding has_part owns belongs
    free_children = none_at (has_part (ChildrenOf id)) (rows_of d b log) (λ p row h. let o = others p row h in both (is_node id row) (child_of id row) o.3 o.1)

    free_versions : IsFree (VersionsOf id) (rows_of d b log)
    unfolding has_part owns belongs
    free_versions = none_at (has_part (VersionsOf id)) (rows_of d b log) (λ p row h. let o = others p row h in both (has_id id row) (version_of id row) o.0 o.2)

    no_children : HasNone (ChildrenOf id) (rows_of d b log)
    unfolding belongs
    no_children = none_at (belongs (ChildrenOf id)) (rows_of d b log) (λ p row h. (others p row h).1)

    no_versions : HasNone (VersionsOf id) (rows_of d b log)
    unfolding belongs
    no_versions = none_at (belongs (VersionsOf id)) (rows_of d b log) (λ p row h. (others p row h).2)

    no_id : list_any (has_id id) (rows_of d b log) ≡ false
    no_id = none_at (has_id id) (rows_of d b log) (λ p row h. (others p row h).0)

  -- no entry of the log retires a node that a later one makes
  row_keeps : (log : List Entry) → Legal d b log → (n : Node) → length log ≤ n.made → (p : ℕ) (row : Row) → slice_get (rows_of d b log) p ≡ Some row → retires n row ≡ false
  unfolding retires
  row_keeps log legal n l p (EntryRow x) h =
      let k = number_below d b log legal p x h in
      let z : ltb n.made x.number ≡ false = le-ltb n.made x.number (omega arith) in
      rw z refl
  row_keeps log legal n l p (NodeRow m) h = refl
  row_keeps log legal n l p (LinkRow m) h = refl
  row_keeps log legal n l p (SupervoxelRow v) h = refl
  row_keeps log legal n l p (HeaderRow x s c) h = refl
  row_keeps log legal n l p (ChunkRow c) h = refl
  row_keeps log legal n l p (EdgeRow k x) h = refl
  row_keeps log legal n l p (ChangeRow k x) h = refl
  row_keeps log legal n l p (ItemRow x) h = refl

  -- what the new nodes have: no node of the log has the id, and their records stand behind the log
  news_stand : (e : Entry) (log : List Entry) → AllByRecursion (λ n. (p : ℕ) × (slice_get (rows_of d b (e ∷ log)) p ≡ Some (NodeRow n))) (new_nodes d b (e ∷ log) e.number)
  unfolding rows_of entry_rows
  news_stand e log =
      let xs : List Row = map (EdgeRow e.number) (new_edges d b log e) in
      let ns : List Node = new_nodes d b (e ∷ log) e.number in
      let ys : List Row = map LinkRow (new_links d b (e ∷ log) e.number) ++ (map ItemRow (marks e.number e.asked) ++ (map (ChangeRow e.number) e.changed ++ EntryRow e ∷ [])) in
      subst (λ rs. AllByRecursion (λ n. (p : ℕ) × (slice_get rs p ≡ Some (NodeRow n))) ns) (append_assoc (rows_of d b log) xs (map NodeRow ns ++ ys)) (stand (rows_of d b log ++ xs) ns ys)

  new_node_free : (e f : Entry) (log : List Entry) → Legal d b (e ∷ f ∷ log) → (n : Node) → n.made ≡ e.number → ((list_any (λ m. eqb m.id n.id) (nodes_of d b (f ∷ log)) ≡ true) → ⊥)
      → (p : ℕ) → slice_get (rows_of d b (e ∷ f ∷ log)) p ≡ Some (NodeRow n) → IsNewNode (rows_of d b (f ∷ log)) n
  new_node_free e f log legal n made other p h = record {
    unknown = no_id (f ∷ log) legal.1 n.id none;
    children = free_children (f ∷ log) legal.1 n.id none;
    versions = free_versions (f ∷ log) legal.1 n.id none;
    no_children = no_children (f ∷ log) legal.1 n.id none;
    no_versions = no_versions (f ∷ log) legal.1 n.id none;
    unretired = none_at (retires n) (rows_of d b (f ∷ log)) (row_keeps (f ∷ log) legal.1 n (let k : e.number ≡ length (f ∷ log) = number_told d b e (f ∷ log) legal in omega (arith, k, made)));
  }
    where
      none : Known (f ∷ log) n.id → ⊥
      none (inl v) = let a = node_layer d b valid base (e ∷ f ∷ log) legal p n h in let c = supervoxel_layer d b valid base n.id v in omega (arith, a, c)
      none (inr k) = other (subst (λ ns. list_any (λ m. eqb m.id n.id) ns ≡ true) (nodes_rows d b (f ∷ log)) (listed n.id (rows_of d b (f ∷ log)) k))

pub new_ids_are_free : NewIdsAreFree
unfolding nodes_of
new_ids_are_free d b valid base e f log legal =
    let ns : List Node = new_nodes d b (e ∷ f ∷ log) e.number in
    let once : Differ OtherId (nodes_of d b (f ∷ log) ++ ns) = nodes_once d b valid base (e ∷ f ∷ log) legal in
    record {
      ascending = news_ascend d b valid base e (f ∷ log) legal;
      once = once_of ns (behind (nodes_of d b (f ∷ log)) ns once);
      nodes = all_more (λ n. ((n.made ≡ e.number) × ((list_any (λ m. eqb m.id n.id) (nodes_of d b (f ∷ log)) ≡ true) → ⊥)) × ((p : ℕ) × (slice_get (rows_of d b (e ∷ f ∷ log)) p ≡ Some (NodeRow n)))) (IsNewNode (rows_of d b (f ∷ log))) ns
          (λ n q. new_node_free d b valid base e f log legal n q.0.0 q.0.1 q.1.0 q.1.1)
          (all_both _ _ ns (all_both _ _ ns (nodes_made d b (e ∷ f ∷ log) e.number) (apart (nodes_of d b (f ∷ log)) ns once)) (news_stand d b valid base e (f ∷ log)));
      edges = edges_unchanged d b f log e;
    }
