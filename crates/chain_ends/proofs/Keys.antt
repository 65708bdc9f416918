-- No two records are of one supervoxel, one chunk, one id or one pair.
use Rattle.std.proofs.Common.{◌≡◌, ℕ, zero, suc, ◌<◌, Bool, true, false, cond, not, ◌||◌, List, [], ◌∷◌, ◌++◌, map, Option, Some, None, refl, sym, ◌∙◌, ap, ap₂, subst, inl, inr, ◌⊎◌, arith, append-nil}
use Rattle.std.specs.List.{AllByRecursion, filter, filter_map, cons_option, slice_get, list_any}
use Rattle.std.proofs.lemmas.Bool.{false≢true, eqb-true, and_parts, cases_order, or_cases, or_left, or_right}
use Rattle.std.proofs.lemmas.List.Elements.{filter_map-append}
use Rattle.std.proofs.lemmas.Option.{same_Some}
use Rattle.node_ids.specs.Ids.{parts_of}
use Rattle.op_model.specs.declared.base.Dataset.{Dataset}
use Rattle.op_model.specs.declared.base.Base.{Base}
use Rattle.op_model.specs.declared.base.Pair.{Pair}
use Rattle.op_model.specs.declared.base.Edge.{Edge}
use Rattle.op_model.specs.declared.base.Weight.TheVariants.{Affinity}
use Rattle.op_model.specs.declared.entry.Changed.{Changed}
use Rattle.op_model.specs.declared.entry.Entry.{Entry}
use Rattle.graph_model.specs.Lists.{has}
use Rattle.op_model.specs.Edges.{edges_after, pair_before, same_pair, put_changed, put_edge}
use Rattle.op_model.specs.Labels.{edges}
use Rattle.op_model.specs.Operations.{first_entry}
use Rattle.op_model.specs.Legal.{Legal}
use Rattle.op_model.specs.Valid.{IsBase, IsDataset}
use Rattle.op_model.proofs.EdgeLemmas.{same_pair_self}
use Rattle.op_model.proofs.OrderLemmas.{after_sorted}
use Rattle.record_rows.specs.Rows.{Row, HeaderRow, SupervoxelRow, ChunkRow, NodeRow, LinkRow, EdgeRow, ChangeRow, ItemRow, EntryRow, Node}
use Rattle.record_rows.specs.Chains.{has_id, is_edge}
use Rattle.record_rows.specs.Walks.{is_chunk, is_supervoxel}
use Rattle.record_rows.specs.LogRows.{base_rows, chunks, entry_rows, marks, new_edges, new_links, new_nodes, rows_of, unknown}
use Rattle.record_rows.proofs.BaseRows.{chunks_ascend}
use Rattle.record_rows.proofs.DifferLemmas.{Differ, all_append, all_each, all_filter, all_map, all_more, differ_append, differ_filter, differ_map, differ_more}
use Rattle.record_rows.proofs.LinkLemmas.{supervoxel_layer}
use Rattle.record_rows.proofs.NodeIds.{node_layer}
use Rattle.record_rows.proofs.NodeRecords.{node_records_once}
use Rattle.record_rows.proofs.OnceLemmas.{all_has_self, ascending_differ}
use Rattle.record_rows.proofs.Picks.{picked_each, picked_entry, picked_map, picked_none}
use Rattle.edge_rows.proofs.EdgeLists.{known, known_put}
use Rattle.new_ids.proofs.PairFacts.{Knows, changed_more, changed_self}
use Rattle.edge_rows.proofs.PairOrder.{Before, all_ascend, edges_ascend}

-- what holds of all that is picked holds of what is picked of one record
pub picked_all : {K : Type 0} (P : K → Type 0) (pick : Row → Option K) (rows : List Row) (p : ℕ) (row : Row) (k : K) → AllByRecursion P (filter_map pick rows) → slice_get rows p ≡ Some row → pick row ≡ Some k → P k
picked_all P pick [] p row k a h e = cc
picked_all {K = K} P pick (r ∷ rows) zero row k a h e = let q : r ≡ row = cc in go (pick r) (ap pick q ∙ e) a
  where
    go : (o : Option K) → o ≡ Some k → AllByRecursion P (cons_option o (filter_map pick rows)) → P k
    go None e a = cc
    go (Some x) e a = subst P (same_Some x k e) a.0
picked_all {K = K} P pick (r ∷ rows) (suc p) row k a h e = picked_all P pick rows p row k (go (pick r) a) h e
  where
    go : (o : Option K) → AllByRecursion P (cons_option o (filter_map pick rows)) → AllByRecursion P (filter_map pick rows)
    go None a = a
    go (Some x) a = a.1

picked_two : {K : Type 0} (R : K → K → Type 0) (pick : Row → Option K) (rows : List Row) (p q : ℕ) (r s : Row) (j k : K) → Differ R (filter_map pick rows) → p < q → slice_get rows p ≡ Some r → slice_get rows q ≡ Some s → pick r ≡ Some j → pick s ≡ Some k → R j k
picked_two R pick [] p q r s j k a l h g e f = cc
picked_two R pick (x ∷ rows) p zero r s j k a l h g e f = absurd (omega arith)
picked_two {K = K} R pick (x ∷ rows) zero (suc q) r s j k a l h g e f = let z : x ≡ r = cc in go (pick x) (ap pick z ∙ e) a
  where
    go : (o : Option K) → o ≡ Some j → Differ R (cons_option o (filter_map pick rows)) → R j k
    go None e a = cc
    go (Some y) e a = subst (λ i. R i k) (same_Some y j e) (picked_all (R y) pick rows q s k a.0 g f)
picked_two {K = K} R pick (x ∷ rows) (suc p) (suc q) r s j k a l h g e f = picked_two R pick rows p q r s j k (go (pick x) a) (omega arith) h g e f
  where
    go : (o : Option K) → Differ R (cons_option o (filter_map pick rows)) → Differ R (filter_map pick rows)
    go None a = a
    go (Some y) a = a.1

abbrev Other : {K : Type 0} → K → K → Type 0
Other j k = j ≡ k → ⊥

picked_once : {K : Type 0} (pick : Row → Option K) (rows : List Row) (p q : ℕ) (r s : Row) (k : K) → Differ Other (filter_map pick rows) → slice_get rows p ≡ Some r → slice_get rows q ≡ Some s → pick r ≡ Some k → pick s ≡ Some k → q ≡ p
picked_once pick rows p q r s k a h g e f = elim (cases_order p q) [
  | inl z ↦ sym z
  | inr (inl l) ↦ absurd (picked_two Other pick rows p q r s k k a l h g e f refl)
  | inr (inr l) ↦ absurd (picked_two Other pick rows q p s r k k a l g h f e refl)
]

-- the id of a supervoxel's record, that of a chunk's, and the pair of an edge's
unfoldable pub supervoxel_in : Row → Option ℕ
supervoxel_in (SupervoxelRow v) = Some v
supervoxel_in row = None

unfoldable pub chunk_in : Row → Option ℕ
chunk_in (ChunkRow c) = Some c
chunk_in row = None

unfoldable pub pair_in : Row → Option Pair
pair_in (EdgeRow made e) = Some e.pair
pair_in row = None

before_other : (p q : Pair) → Before p q → Other p q
unfolding pair_before
before_other p q h e = let z : Before p p = subst (Before p) (sym e) h in not_self p z
  where
    not_self : (x : Pair) → Before x x → ⊥
    not_self x h = grind arith

module _ (d : Dataset) (b : Base) where
  no_more : {K : Type 0} (pick : Row → Option K) → ((k : ℕ) (x : Edge) → pick (EdgeRow k x) ≡ None) → ((x : Node) → pick (NodeRow x) ≡ None) → ((x : _) → pick (LinkRow x) ≡ None) → ((x : _) → pick (ItemRow x) ≡ None)
      → ((k : ℕ) (x : Changed) → pick (ChangeRow k x) ≡ None) → ((x : Entry) → pick (EntryRow x) ≡ None) → (log : List Entry) → filter_map pick (rows_of d b log) ≡ filter_map pick (base_rows d b)
  unfolding rows_of
  no_more pick edge node link item change entry [] = refl
  no_more pick edge node link item change entry (e ∷ log) =
      let none : filter_map pick (entry_rows d b log e) ≡ [] =
      picked_entry pick d b edge item change entry log e
      ∙ (ap (λ ns. ns ++ filter_map (λ l. pick (LinkRow l)) (new_links d b (e ∷ log) e.number)) (picked_none (λ n. pick (NodeRow n)) node (new_nodes d b (e ∷ log) e.number)) ∙ picked_none (λ l. pick (LinkRow l)) link (new_links d b (e ∷ log) e.number)) in
      filter_map-append pick (rows_of d b log) (entry_rows d b log e) ∙ (ap (λ ks. filter_map pick (rows_of d b log) ++ ks) none ∙ (append-nil (filter_map pick (rows_of d b log)) ∙ no_more pick edge node link item change entry log))

  supervoxels_picked : (log : List Entry) → filter_map supervoxel_in (rows_of d b log) ≡ b.supervoxels
  unfolding base_rows supervoxel_in
  supervoxels_picked log =
      no_more supervoxel_in (λ k x. refl) (λ x. refl) (λ x. refl) (λ x. refl) (λ k x. refl) (λ x. refl) log
      ∙ (filter_map-append supervoxel_in (map SupervoxelRow b.supervoxels) (map ChunkRow (chunks d b))
      ∙ (ap₂ (λ xs ys. xs ++ ys) (picked_map supervoxel_in SupervoxelRow b.supervoxels ∙ picked_each b.supervoxels) (picked_map supervoxel_in ChunkRow (chunks d b) ∙ picked_none (λ c. supervoxel_in (ChunkRow c)) (λ c. refl) (chunks d b)) ∙ append-nil b.supervoxels))

  chunks_picked : (log : List Entry) → filter_map chunk_in (rows_of d b log) ≡ chunks d b
  unfolding base_rows chunk_in
  chunks_picked log =
      no_more chunk_in (λ k x. refl) (λ x. refl) (λ x. refl) (λ x. refl) (λ k x. refl) (λ x. refl) log
      ∙ (filter_map-append chunk_in (map SupervoxelRow b.supervoxels) (map ChunkRow (chunks d b))
      ∙ ap₂ (λ xs ys. xs ++ ys) (picked_map chunk_in SupervoxelRow b.supervoxels ∙ picked_none (λ v. chunk_in (SupervoxelRow v)) (λ v. refl) b.supervoxels) (picked_map chunk_in ChunkRow (chunks d b) ∙ picked_each (chunks d b)))

  less_other : (xs : List ℕ) → Differ (λ x y. x < y) xs → Differ Other xs
  less_other xs h = differ_more (λ x. Unit {0}) (λ x y. x < y) Other xs (λ x y p q l e. absurd (let z : x < x = subst (λ w. x < w) (sym e) l in omega (arith, z))) (all_each (λ x. Unit {0}) xs (λ x. tt)) h

  pub supervoxel_once : IsBase d b → (log : List Entry) (p q v : ℕ) (other : Row) → slice_get (rows_of d b log) p ≡ Some (SupervoxelRow v) → slice_get (rows_of d b log) q ≡ Some other → is_supervoxel v other ≡ true → q ≡ p
  unfolding is_supervoxel supervoxel_in
  supervoxel_once base log p q v other h g t =
      picked_once supervoxel_in (rows_of d b log) p q (SupervoxelRow v) other v (subst (Differ Other) (sym (supervoxels_picked log)) (less_other b.supervoxels (ascending_differ b.supervoxels base.ascending))) h g refl (go other t)
    where
      go : (row : Row) → is_supervoxel v row ≡ true → supervoxel_in row ≡ Some v
      go (SupervoxelRow x) t = ap (λ y. Some y) (eqb-true x v t)
      go row t = absurd (false≢true t)

  pub supervoxel_known : (log : List Entry) (p v : ℕ) → slice_get (rows_of d b log) p ≡ Some (SupervoxelRow v) → has b.supervoxels v ≡ true
  unfolding supervoxel_in
  supervoxel_known log p v h = picked_all (λ x. has b.supervoxels x ≡ true) supervoxel_in (rows_of d b log) p (SupervoxelRow v) v (subst (AllByRecursion (λ x. has b.supervoxels x ≡ true)) (sym (supervoxels_picked log)) (all_has_self b.supervoxels)) h refl

  pub chunk_once : IsDataset d → IsBase d b → (log : List Entry) (p q c : ℕ) (other : Row) → slice_get (rows_of d b log) p ≡ Some (ChunkRow c) → slice_get (rows_of d b log) q ≡ Some other → is_chunk c other ≡ true → q ≡ p
  unfolding is_chunk chunk_in
  chunk_once valid base log p q c other h g t =
      picked_once chunk_in (rows_of d b log) p q (ChunkRow c) other c (subst (Differ Other) (sym (chunks_picked log)) (less_other (chunks d b) (chunks_ascend d b valid base))) h g refl (go other t)
    where
      go : (row : Row) → is_chunk c row ≡ true → chunk_in row ≡ Some c
      go (ChunkRow x) t = ap (λ y. Some y) (eqb-true x c t)
      go row t = absurd (false≢true t)

  -- no supervoxel's record has the id of a node's
  pub apart : IsDataset d → IsBase d b → (log : List Entry) → Legal d b log → (v p : ℕ) (n : Node) → has b.supervoxels v ≡ true → slice_get (rows_of d b log) p ≡ Some (NodeRow n) → n.id ≡ v → ⊥
  apart valid base log legal v p n hv h e =
      let a = node_layer d b valid base log legal p n h in
      let c = supervoxel_layer d b valid base v hv in
      let z = ap (λ i. (parts_of d.layout i).layer) e in
      omega (arith, a, c, z)

  pub id_once : IsDataset d → IsBase d b → (log : List Entry) → Legal d b log → (id p q : ℕ) (row other : Row) → slice_get (rows_of d b log) p ≡ Some row → has_id id row ≡ true → slice_get (rows_of d b log) q ≡ Some other → has_id id other ≡ true → q ≡ p
  unfolding has_id is_supervoxel
  id_once valid base log legal id p q (SupervoxelRow v) (SupervoxelRow w) h t g u =
      let x : v ≡ id = eqb-true v id t in
      supervoxel_once base log p q id (SupervoxelRow w) (subst (λ y. slice_get (rows_of d b log) p ≡ Some (SupervoxelRow y)) x h) g u
  id_once valid base log legal id p q (SupervoxelRow v) (NodeRow n) h t g u = absurd (apart valid base log legal v q n (supervoxel_known log p v h) g (eqb-true n.id id u ∙ sym (eqb-true v id t)))
  id_once valid base log legal id p q (NodeRow n) (SupervoxelRow v) h t g u = absurd (apart valid base log legal v p n (supervoxel_known log q v g) h (eqb-true n.id id t ∙ sym (eqb-true v id u)))
  id_once valid base log legal id p q (NodeRow n) (NodeRow m) h t g u = node_records_once d b valid base log legal q p m n g h (eqb-true m.id id u ∙ sym (eqb-true n.id id t))
  id_once valid base log legal id p q (SupervoxelRow v) row h t g u = absurd (false≢true u)
  id_once valid base log legal id p q (NodeRow n) row h t g u = absurd (false≢true u)
  id_once valid base log legal id p q row other h t g u = absurd (false≢true t)

  -- pairs of records of edges
  abbrev pairs : List Entry → List Pair
  pairs log = filter_map pair_in (rows_of d b log)

  pairs_base : filter_map pair_in (base_rows d b) ≡ []
  unfolding base_rows pair_in
  pairs_base =
      filter_map-append pair_in (map SupervoxelRow b.supervoxels) (map ChunkRow (chunks d b))
      ∙ ap₂ (λ xs ys. xs ++ ys) (picked_map pair_in SupervoxelRow b.supervoxels ∙ picked_none (λ v. pair_in (SupervoxelRow v)) (λ v. refl) b.supervoxels) (picked_map pair_in ChunkRow (chunks d b) ∙ picked_none (λ c. pair_in (ChunkRow c)) (λ c. refl) (chunks d b))

  pairs_entry : (log : List Entry) (e : Entry) → filter_map pair_in (entry_rows d b log e) ≡ map (λ x. x.pair) (new_edges d b log e)
  unfolding entry_rows pair_in
  pairs_entry log e =
      let edges_are : filter_map pair_in (map (EdgeRow e.number) (new_edges d b log e)) ≡ map (λ x. x.pair) (new_edges d b log e) = picked_map pair_in (EdgeRow e.number) (new_edges d b log e) ∙ each (new_edges d b log e) in
      let nodes_none : filter_map pair_in (map NodeRow (new_nodes d b (e ∷ log) e.number)) ≡ [] = picked_map pair_in NodeRow (new_nodes d b (e ∷ log) e.number) ∙ picked_none (λ x. pair_in (NodeRow x)) (λ x. refl) (new_nodes d b (e ∷ log) e.number) in
      let links_none : filter_map pair_in (map LinkRow (new_links d b (e ∷ log) e.number)) ≡ [] = picked_map pair_in LinkRow (new_links d b (e ∷ log) e.number) ∙ picked_none (λ x. pair_in (LinkRow x)) (λ x. refl) (new_links d b (e ∷ log) e.number) in
      let items_none : filter_map pair_in (map ItemRow (marks e.number e.asked)) ≡ [] = picked_map pair_in ItemRow (marks e.number e.asked) ∙ picked_none (λ x. pair_in (ItemRow x)) (λ x. refl) (marks e.number e.asked) in
      let changes_none : filter_map pair_in (map (ChangeRow e.number) e.changed) ≡ [] = picked_map pair_in (ChangeRow e.number) e.changed ∙ picked_none (λ x. pair_in (ChangeRow e.number x)) (λ x. refl) e.changed in
      simp (filter_map-append, edges_are, nodes_none, links_none, items_none, changes_none, append-nil)
    where
      each : (xs : List Edge) → filter_map (λ (x : Edge). Some x.pair) xs ≡ map (λ x. x.pair) xs
      each [] = refl
      each (x ∷ xs) = ap (λ ys. x.pair ∷ ys) (each xs)

  pairs_more : (e : Entry) (log : List Entry) → pairs (e ∷ log) ≡ pairs log ++ map (λ x. x.pair) (new_edges d b log e)
  unfolding rows_of
  pairs_more e log = filter_map-append pair_in (rows_of d b log) (entry_rows d b log e) ∙ ap (λ ps. filter_map pair_in (rows_of d b log) ++ ps) (pairs_entry log e)

  new_differ : (f : Entry) (log : List Entry) (e : Entry) → Legal d b (e ∷ f ∷ log) → Differ Other (map (λ x. x.pair) (new_edges d b (f ∷ log) e))
  unfolding new_edges unknown
  new_differ f log e legal =
      let test : Changed → Bool = λ c. not (list_any (λ g. same_pair g.pair c.pair) (edges d b (f ∷ log))) in
      let cs : List Changed = filter test e.changed in
      let up : Differ (λ (c x : Changed). Before c.pair x.pair) cs = differ_filter test (λ (c x : Changed). Before c.pair x.pair) e.changed (all_ascend d b (e ∷ f ∷ log) legal).0 in
      differ_map (λ (x : Edge). x.pair) Other (map (λ c. record { pair = c.pair; weight = Affinity d.merge_affinity; active = false }) cs)
      (differ_map (λ c. record { pair = c.pair; weight = Affinity d.merge_affinity; active = false }) (λ (x y : Edge). Other x.pair y.pair) cs
      (differ_more (λ c. Unit {0}) (λ (c x : Changed). Before c.pair x.pair) (λ (c x : Changed). Other c.pair x.pair) cs (λ c x p q l. before_other c.pair x.pair l) (all_each (λ c. Unit {0}) cs (λ c. tt)) up))

  -- the pairs that an entry makes known are no edges before it
  new_unknown : (f : Entry) (log : List Entry) (e : Entry) → AllByRecursion (λ p. list_any (λ g. same_pair g.pair p) (edges d b (f ∷ log)) ≡ false) (map (λ x. x.pair) (new_edges d b (f ∷ log) e))
  unfolding new_edges unknown
  new_unknown f log e =
      let test : Changed → Bool = λ c. not (list_any (λ g. same_pair g.pair c.pair) (edges d b (f ∷ log))) in
      let P : Pair → Type 0 = λ p. list_any (λ g. same_pair g.pair p) (edges d b (f ∷ log)) ≡ false in
      all_map (λ (x : Edge). x.pair) P (map (λ c. record { pair = c.pair; weight = Affinity d.merge_affinity; active = false }) (filter test e.changed))
      (all_map (λ c. record { pair = c.pair; weight = Affinity d.merge_affinity; active = false }) (λ (x : Edge). P x.pair) (filter test e.changed)
      (all_more (λ c. Unit {0} × (test c ≡ true)) (λ (c : Changed). P c.pair) (filter test e.changed) (λ c q. flip _ q.1) (all_filter test (λ c. Unit {0}) e.changed (all_each (λ c. Unit {0}) e.changed (λ c. tt)))))
    where
      flip : (t : Bool) → not t ≡ true → t ≡ false
      flip true h = absurd (false≢true h)
      flip false h = refl

  knows_self : (fs : List Edge) → AllByRecursion (Knows fs) (map (λ x. x.pair) fs)
  knows_self [] = tt
  knows_self (f ∷ fs) = (first (same_pair f.pair f.pair) (same_pair_self f.pair), all_more (Knows fs) (Knows (f ∷ fs)) (map (λ x. x.pair) fs) (λ p k. rest (same_pair f.pair p) k) (knows_self fs))
    where
      first : (t : Bool) → t ≡ true → (t || list_any (λ g. same_pair g.pair f.pair) fs) ≡ true
      first true e = refl
      first false e = absurd (false≢true e)

      rest : (t : Bool) {u : Bool} → u ≡ true → (t || u) ≡ true
      rest true k = refl
      rest false k = k

  new_known : (f : Entry) (log : List Entry) (e : Entry) → AllByRecursion (Knows (edges d b (e ∷ f ∷ log))) (map (λ x. x.pair) (new_edges d b (f ∷ log) e))
  unfolding new_edges unknown edges edges_after
  new_known f log e =
      let test : Changed → Bool = λ c. not (list_any (λ g. same_pair g.pair c.pair) (edges d b (f ∷ log))) in
      let P : Pair → Type 0 = Knows (edges d b (e ∷ f ∷ log)) in
      all_map (λ (x : Edge). x.pair) P (map (λ c. record { pair = c.pair; weight = Affinity d.merge_affinity; active = false }) (filter test e.changed))
      (all_map (λ c. record { pair = c.pair; weight = Affinity d.merge_affinity; active = false }) (λ (x : Edge). P x.pair) (filter test e.changed)
      (all_more (λ c. P c.pair × (test c ≡ true)) (λ (c : Changed). P c.pair) (filter test e.changed) (λ c q. q.0) (all_filter test (λ (c : Changed). P c.pair) e.changed (changed_self d.merge_affinity e.changed (edges d b (f ∷ log))))))

  pub pairs_told : (e : Entry) (log : List Entry) → Legal d b (e ∷ log) → Differ Other (pairs (e ∷ log)) × AllByRecursion (Knows (edges d b (e ∷ log))) (pairs (e ∷ log))
  unfolding rows_of new_edges edges edges_after
  pairs_told e [] legal =
      let all : pairs (e ∷ []) ≡ map (λ x. x.pair) (edges d b []) = pairs_more e [] ∙ ap (λ ps. ps ++ map (λ x. x.pair) (edges d b [])) pairs_base in
      let ups : Differ Before (map (λ x. x.pair) (edges d b [])) = edges_ascend (edges d b []) (after_sorted b.edges d.merge_affinity []) in
      let ps : List Pair = map (λ x. x.pair) (edges d b []) in (
        subst (Differ Other) (sym all) (differ_more (λ p. Unit {0}) Before Other ps (λ p q x y l. before_other p q l) (all_each (λ p. Unit {0}) ps (λ p. tt)) ups),
        subst (AllByRecursion (Knows (edges d b (e ∷ [])))) (sym all) (all_more (Knows (edges d b [])) (Knows (edges d b (e ∷ []))) ps (λ p k. changed_more d.merge_affinity e.changed (edges d b []) p k) (knows_self (edges d b []))),
      )
  pairs_told e (f ∷ log) legal =
      let ih = pairs_told f log legal.1 in
      let new : List Pair = map (λ x. x.pair) (new_edges d b (f ∷ log) e) in (
        subst (Differ Other) (sym (pairs_more e (f ∷ log)))
            (differ_append Other (pairs (f ∷ log)) new ih.0 (new_differ f log e legal)
            (all_more (Knows (edges d b (f ∷ log))) (λ p. AllByRecursion (Other p) new) (pairs (f ∷ log))
            (λ p k. all_more (λ q. list_any (λ g. same_pair g.pair q) (edges d b (f ∷ log)) ≡ false) (Other p) new (λ q u z. false≢true (sym u ∙ subst (Knows (edges d b (f ∷ log))) z k)) (new_unknown f log e)) ih.1)),
        subst (AllByRecursion (Knows (edges d b (e ∷ f ∷ log)))) (sym (pairs_more e (f ∷ log)))
            (all_append (Knows (edges d b (e ∷ f ∷ log))) (pairs (f ∷ log)) new
            (all_more (Knows (edges d b (f ∷ log))) (Knows (edges d b (e ∷ f ∷ log))) (pairs (f ∷ log)) (λ p k. changed_more d.merge_affinity e.changed (edges d b (f ∷ log)) p k) ih.1) (new_known f log e)),
      )

  same_pairs : (p q : Pair) → same_pair p q ≡ true → p ≡ q
  unfolding same_pair
  same_pairs p q h =
      let s = and_parts _ _ h in
      let x : p.a ≡ q.a = eqb-true p.a q.a s.0 in
      let y : p.b ≡ q.b = eqb-true p.b q.b s.1 in
      λ i. record { a = x i; b = y i }

  pair_row : (p : Pair) (row : Row) → is_edge p row ≡ true → pair_in row ≡ Some p
  unfolding is_edge pair_in
  pair_row p (EdgeRow made e) t = ap (λ x. Some x) (same_pairs e.pair p t)
  pair_row p row t = absurd (false≢true t)

  pub edge_once : (e : Entry) (log : List Entry) → Legal d b (e ∷ log) → (p q : ℕ) (pair : Pair) (row other : Row) → slice_get (rows_of d b (e ∷ log)) p ≡ Some row → is_edge pair row ≡ true → slice_get (rows_of d b (e ∷ log)) q ≡ Some other → is_edge pair other ≡ true → q ≡ p
  edge_once e log legal p q pair row other h t g u = picked_once pair_in (rows_of d b (e ∷ log)) p q row other pair (pairs_told e log legal).0 h g (pair_row pair row t) (pair_row pair other u)

  -- the pair of an edge's record is one of the log's edges
  pub edge_known : (e : Entry) (log : List Entry) → Legal d b (e ∷ log) → (p : ℕ) (pair : Pair) (row : Row) → slice_get (rows_of d b (e ∷ log)) p ≡ Some row → is_edge pair row ≡ true → Knows (edges d b (e ∷ log)) pair
  edge_known e log legal p pair row h t = picked_all (Knows (edges d b (e ∷ log))) pair_in (rows_of d b (e ∷ log)) p row pair (pairs_told e log legal).1 h (pair_row pair row t)

  put_knows : (affinity : ℕ) (cs : List Changed) (fs : List Edge) (p : Pair) → Knows (put_changed affinity cs fs) p → Knows fs p ⊎ (list_any (λ c. same_pair c.pair p) cs ≡ true)
  unfolding put_changed known
  put_knows affinity [] fs p k = inl k
  put_knows affinity (c ∷ cs) fs p k =
      let e : Edge = record { pair = c.pair; weight = Affinity affinity; active = c.active } in
      elim (put_knows affinity cs (put_edge e fs) p k) [
        | inl h ↦ elim (or_cases (same_pair c.pair p) (list_any (λ f. same_pair f.pair p) fs) (sym (known_put p e fs) ∙ h)) [ inl s ↦ inr (or_left (same_pair c.pair p) _ s) | inr g ↦ inl g ]
        | inr h ↦ inr (or_right (same_pair c.pair p) _ h)
      ]

  kept_new : (fs : List Edge) (p : Pair) → list_any (λ g. same_pair g.pair p) fs ≡ false → (cs : List Changed) → list_any (λ c. same_pair c.pair p) cs ≡ true
      → list_any (λ q. same_pair q p) (map (λ (x : Edge). x.pair) (map (λ c. record { pair = c.pair; weight = Affinity d.merge_affinity; active = false }) (filter (λ c. not (list_any (λ g. same_pair g.pair c.pair) fs)) cs))) ≡ true
  kept_new fs p n [] h = h
  kept_new fs p n (c ∷ cs) h = go (list_any (λ g. same_pair g.pair c.pair) fs) refl (or_cases (same_pair c.pair p) (list_any (λ x. same_pair x.pair p) cs) h) (λ g. kept_new fs p n cs g)
    where
      rest : List Changed
      rest = filter (λ x. not (list_any (λ g. same_pair g.pair x.pair) fs)) cs

      mk : Changed → Edge
      mk x = record { pair = x.pair; weight = Affinity d.merge_affinity; active = false }

      go : (t : Bool) → list_any (λ g. same_pair g.pair c.pair) fs ≡ t → (same_pair c.pair p ≡ true) ⊎ (list_any (λ x. same_pair x.pair p) cs ≡ true)
          → (list_any (λ x. same_pair x.pair p) cs ≡ true → list_any (λ q. same_pair q p) (map (λ (x : Edge). x.pair) (map mk rest)) ≡ true)
          → list_any (λ q. same_pair q p) (map (λ (x : Edge). x.pair) (map mk (cond (not t) (c ∷ rest) rest))) ≡ true
      go true t (inl s) ih = absurd (false≢true (sym n ∙ subst (λ q. list_any (λ g. same_pair g.pair q) fs ≡ true) (same_pairs c.pair p s) t))
      go true t (inr g) ih = ih g
      go false t (inl s) ih = or_left (same_pair c.pair p) _ s
      go false t (inr g) ih = or_right (same_pair c.pair p) _ (ih g)

  any_left : {X : Type 0} (test : X → Bool) (xs ys : List X) → list_any test xs ≡ true → list_any test (xs ++ ys) ≡ true
  any_left test [] ys h = absurd (false≢true h)
  any_left test (x ∷ xs) ys h = elim (or_cases (test x) (list_any test xs) h) [ inl q ↦ or_left (test x) _ q | inr q ↦ or_right (test x) _ (any_left test xs ys q) ]

  any_right : {X : Type 0} (test : X → Bool) (xs ys : List X) → list_any test ys ≡ true → list_any test (xs ++ ys) ≡ true
  any_right test [] ys h = h
  any_right test (x ∷ xs) ys h = or_right (test x) _ (any_right test xs ys h)

  of_pairs : (fs : List Edge) (p : Pair) → Knows fs p → list_any (λ q. same_pair q p) (map (λ (x : Edge). x.pair) fs) ≡ true
  of_pairs [] p k = k
  of_pairs (f ∷ fs) p k = elim (or_cases (same_pair f.pair p) (list_any (λ g. same_pair g.pair p) fs) k) [ inl q ↦ or_left (same_pair f.pair p) _ q | inr q ↦ or_right (same_pair f.pair p) _ (of_pairs fs p q) ]

  pairs_back : (e : Entry) (log : List Entry) → Legal d b (e ∷ log) → (p : Pair) → Knows (edges d b (e ∷ log)) p → list_any (λ q. same_pair q p) (pairs (e ∷ log)) ≡ true
  unfolding rows_of new_edges unknown edges edges_after first_entry
  pairs_back e [] legal p k =
      let all : pairs (e ∷ []) ≡ map (λ x. x.pair) (edges d b []) = pairs_more e [] ∙ ap (λ ps. ps ++ map (λ x. x.pair) (edges d b [])) pairs_base in
      let none : e.changed ≡ [] = ap (λ x. x.changed) legal.0 in
      elim (put_knows d.merge_affinity e.changed (edges d b []) p k) [
        | inl h ↦ subst (λ ps. list_any (λ q. same_pair q p) ps ≡ true) (sym all) (of_pairs (edges d b []) p h)
        | inr h ↦ absurd (false≢true (subst (λ cs. list_any (λ (c : Changed). same_pair c.pair p) cs ≡ true) none h))
      ]
  pairs_back e (f ∷ log) legal p k =
      subst (λ ps. list_any (λ q. same_pair q p) ps ≡ true) (sym (pairs_more e (f ∷ log))) (go (list_any (λ g. same_pair g.pair p) (edges d b (f ∷ log))) refl (pairs_back f log legal.1 p))
    where
      new : List Pair
      new = map (λ x. x.pair) (new_edges d b (f ∷ log) e)

      go : (t : Bool) → list_any (λ g. same_pair g.pair p) (edges d b (f ∷ log)) ≡ t → (Knows (edges d b (f ∷ log)) p → list_any (λ q. same_pair q p) (pairs (f ∷ log)) ≡ true) → list_any (λ q. same_pair q p) (pairs (f ∷ log) ++ new) ≡ true
      go true t ih = any_left (λ q. same_pair q p) (pairs (f ∷ log)) new (ih t)
      go false t ih = elim (put_knows d.merge_affinity e.changed (edges d b (f ∷ log)) p k) [
        | inl h ↦ absurd (false≢true (sym t ∙ h))
        | inr h ↦ any_right (λ q. same_pair q p) (pairs (f ∷ log)) new (kept_new (edges d b (f ∷ log)) p t e.changed h)
      ]

  unlisted : (p : Pair) (rows : List Row) → list_any (λ q. same_pair q p) (filter_map pair_in rows) ≡ true → list_any (is_edge p) rows ≡ true
  unfolding is_edge pair_in
  unlisted p [] h = h
  unlisted p (EdgeRow k x ∷ rows) h = elim (or_cases (same_pair x.pair p) (list_any (λ q. same_pair q p) (filter_map pair_in rows)) h) [ inl q ↦ or_left (same_pair x.pair p) _ q | inr q ↦ or_right (same_pair x.pair p) _ (unlisted p rows q) ]
  unlisted p (NodeRow n ∷ rows) h = unlisted p rows h
  unlisted p (HeaderRow x s c ∷ rows) h = unlisted p rows h
  unlisted p (SupervoxelRow v ∷ rows) h = unlisted p rows h
  unlisted p (ChunkRow c ∷ rows) h = unlisted p rows h
  unlisted p (LinkRow x ∷ rows) h = unlisted p rows h
  unlisted p (ChangeRow k x ∷ rows) h = unlisted p rows h
  unlisted p (ItemRow x ∷ rows) h = unlisted p rows h
  unlisted p (EntryRow x ∷ rows) h = unlisted p rows h

  -- and each of the log's edges has a record
  pub edge_recorded : (e : Entry) (log : List Entry) → Legal d b (e ∷ log) → (p : Pair) → Knows (edges d b (e ∷ log)) p → list_any (is_edge p) (rows_of d b (e ∷ log)) ≡ true
  edge_recorded e log legal p k = unlisted p (rows_of d b (e ∷ log)) (pairs_back e log legal p k)
