-- The ends of the chunks' nodes, before the first node and with one more.
use Rattle.std.proofs.Common.{◌≡◌, ℕ, suc, ◌+◌, ◌*◌, ◌<◌, false, List, [], ◌∷◌, ◌++◌, length, take, map, get_or, Some, set, refl, sym, ◌∙◌, ap, subst, arith, append_assoc}
use Rattle.std.specs.List.{list_any}
use Rattle.std.proofs.lemmas.Option.{slice_get-get_or}
use Rattle.record_rows.proofs.ImageLemmas.{length-map}
use Rattle.std.proofs.lemmas.Bool.{ne_eqb}
use Rattle.op_model.specs.declared.base.Dataset.{Dataset}
use Rattle.record_rows.specs.Rows.{Row, HeaderRow, SupervoxelRow, ChunkRow, NodeRow, LinkRow, EdgeRow, EntryRow, ChangeRow, ItemRow, Node}
use Rattle.record_rows.specs.Chains.{version_of, child_of, node_in}
use Rattle.record_rows.specs.Walks.{is_chunk}
use Rattle.record_rows.specs.Words.{words_of}
use Rattle.row_append.specs.Ends.{NodesIn, ChildrenOf, VersionsOf, owns, belongs, has_part, HasNone, EndsAt, is_logged}
use Rattle.row_append.specs.Tails.{word_number}
use Rattle.row_append.specs.declared.tail.Tail.{Tail}
use Rattle.row_append.proofs.EndLaws.{chunks_begin, nodes_end}
use Rattle.row_append.proofs.Leaving.{or_none}
use Rattle.base_rows.specs.declared.lists.BaseEdge.{BaseEdge}
use Rattle.base_rows.specs.declared.lists.BaseNode.{BaseNode}
use Rattle.base_rows.specs.Lists.{IsOnce, IsNode, AreNodes}
use Rattle.base_rows.specs.BaseRows.{owner_rows, edged_rows, ids_of}
use Rattle.base_rows.specs.States.{tails_from, AreRows, Noding, is_link}
use Rattle.base_rows.proofs.Passing.{NonePass, none_both, none_map, headed, map_more, get_or_any}
use Rattle.base_rows.proofs.TailLists.{length-tails_from, tail_at, tail_set}
use Rattle.base_rows.proofs.Begun.{begun}
use Rattle.base_rows.proofs.EdgeSteps.{rows_more, owners_are, map_same}

-- where no link stands, no node has a child and none a parent
no_link : (id : ℕ) (r : Row) → is_link r ≡ false → (belongs (ChildrenOf id) r ≡ false) × (belongs (VersionsOf id) r ≡ false)
unfolding belongs child_of version_of is_link
no_link id (HeaderRow d s c) e = (refl, refl)
no_link id (SupervoxelRow v) e = (refl, refl)
no_link id (ChunkRow c) e = (refl, refl)
no_link id (NodeRow n) e = (refl, refl)
no_link id (LinkRow l) e = cc
no_link id (EdgeRow m x) e = (refl, refl)
no_link id (ChangeRow m x) e = (refl, refl)
no_link id (ItemRow i) e = (refl, refl)
no_link id (EntryRow x) e = (refl, refl)

pub no_links : (id : ℕ) (rows : List Row) → NonePass is_link rows → HasNone (ChildrenOf id) rows × HasNone (VersionsOf id) rows
no_links id [] n = (refl, refl)
no_links id (r ∷ rows) n =
    let q = or_none (is_link r) (list_any is_link rows) n in
    let one = no_link id r q.0 in
    let more = no_links id rows q.1 in
    (rw one.0 more.0, rw one.1 more.1)

node_apart : (u : ℕ) (n : Node) → (n.chunk ≡ u → ⊥) → has_part (NodesIn u) (NodeRow n) ≡ false
unfolding has_part owns belongs is_chunk node_in
node_apart u n f = rw (ne_eqb n.chunk u f) refl

module _ (chunks : List ℕ) (rows : List Row) (old new : List ℕ) (tails : List Tail) (x : BaseNode) (n : Node) (place : ℕ) (st : Noding chunks rows old tails) (p : IsNode chunks x n)
    (here : place ≡ length rows) (w : new ≡ words_of (rows ++ NodeRow n ∷ [])) where
  -- with one more node
  pub node_more : Noding chunks (rows ++ NodeRow n ∷ []) new (set tails x.chunk (record { spot = place; word = 7 }))
  unfolding is_logged is_link
  node_more = record {
    rows_are = rows_more rows old new (NodeRow n) st.rows_are refl w;
    once = st.once;
    tails_are =
        tail_set NodesIn chunks rows (NodeRow n) tails x.chunk _ st.rows_are.headed st.tails_are st.once p.chunk
        (subst (λ v. EndsAt (NodesIn v) (rows ++ NodeRow n ∷ []) (8 * place + 7)) (sym p.chunk_is)
        (subst (λ k. EndsAt (NodesIn n.chunk) (rows ++ NodeRow n ∷ []) (8 * k + 7)) (sym here) (nodes_end rows n st.rows_are.headed)))
        (λ u f. node_apart u n (λ q. f (p.chunk_is ∙ q)));
    unlinked = none_both is_link rows (NodeRow n ∷ []) st.unlinked refl;
  }

-- of the records before the nodes only chunks are part of their chains
header_apart : (u : ℕ) (d : Dataset) (s c : ℕ) → has_part (NodesIn u) (HeaderRow d s c) ≡ false
unfolding has_part owns belongs is_chunk node_in
header_apart u d s c = refl

supervoxel_apart : (u v : ℕ) → has_part (NodesIn u) (SupervoxelRow v) ≡ false
unfolding has_part owns belongs is_chunk node_in
supervoxel_apart u v = refl

chunk_apart : (u c : ℕ) → (c ≡ u → ⊥) → has_part (NodesIn u) (ChunkRow c) ≡ false
unfolding has_part owns belongs is_chunk node_in
chunk_apart u c f = rw (ne_eqb c u f) refl

edge_apart : (u : ℕ) (x : BaseEdge) → has_part (NodesIn u) (EdgeRow 0 x.edge) ≡ false
unfolding has_part owns belongs is_chunk node_in
edge_apart u x = refl

abbrev pub edge_rows : List BaseEdge → List Row
edge_rows edges = map (λ (x : BaseEdge). EdgeRow 0 x.edge) edges

module _ (d : Dataset) (ids chunks : List ℕ) (edges : List BaseEdge) where
  abbrev front : List Row
  front = HeaderRow d (length ids) (length chunks) ∷ map SupervoxelRow ids

  unlogged : NonePass is_logged (map (λ (x : BaseEdge). EdgeRow 0 x.edge) edges)
  unfolding is_logged
  unlogged = none_map is_logged (λ (x : BaseEdge). EdgeRow 0 x.edge) (λ x. refl) edges

  unlinked : NonePass is_link (edged_rows d ids chunks edges)
  unfolding edged_rows owner_rows is_link
  unlinked =
      none_both is_link (front ++ map ChunkRow chunks) (edge_rows edges)
      (none_both is_link front (map ChunkRow chunks) (none_map is_link SupervoxelRow (λ v. refl) ids) (none_map is_link ChunkRow (λ c. refl) chunks))
      (none_map is_link (λ (x : BaseEdge). EdgeRow 0 x.edge) (λ x. refl) edges)

  -- the records before the nodes
  pub edged_are : (words : List ℕ) → words ≡ words_of (edged_rows d ids chunks edges) → AreRows (edged_rows d ids chunks edges) words
  unfolding edged_rows owner_rows
  edged_are words w = record {
    headed = headed d (length ids) (length chunks) ((map SupervoxelRow ids ++ map ChunkRow chunks) ++ edge_rows edges);
    stand = w;
    unlogged = none_both is_logged (owner_rows d ids chunks) (edge_rows edges) (owners_are d ids chunks (words_of (owner_rows d ids chunks)) refl).unlogged unlogged;
  }

  nodes_begin : IsOnce chunks → (i : ℕ) → i < length chunks → EndsAt (NodesIn (get_or chunks i 0)) (edged_rows d ids chunks edges) (8 * (1 + length ids + i) + 4)
  unfolding edged_rows owner_rows
  nodes_begin once i l =
      let s : List ℕ → Type 0 = λ xs. IsOnce xs → i < length xs → EndsAt (NodesIn (get_or xs i 0)) (front ++ (map ChunkRow chunks ++ edge_rows edges)) (8 * (length front + i) + 4) in
      let m : length (map SupervoxelRow ids) ≡ length ids = length-map SupervoxelRow ids in
      let e : 8 * (length front + i) + 4 ≡ 8 * (1 + length ids + i) + 4 = omega (arith, m) in
      subst (EndsAt (NodesIn (get_or chunks i 0)) ((front ++ map ChunkRow chunks) ++ edge_rows edges)) e
      (subst (λ rs. EndsAt (NodesIn (get_or chunks i 0)) rs (8 * (length front + i) + 4)) (sym (append_assoc front (map ChunkRow chunks) (edge_rows edges)))
      (subst s (map_same chunks)
      (λ o m. begun (λ v. v) ChunkRow NodesIn 4 (λ rs c h f. chunks_begin rs c h f) (λ u c f. chunk_apart u c f) chunks front (edge_rows edges)
      (headed d (length ids) (length chunks) (map SupervoxelRow ids)) o
      (λ j k. let u = get_or (map (λ v. v) chunks) j 0 in rw (header_apart u d (length ids) (length chunks)) (none_map (has_part (NodesIn u)) SupervoxelRow (supervoxel_apart u) ids))
      (λ j k. let u = get_or (map (λ v. v) chunks) j 0 in none_map (has_part (NodesIn u)) (λ (x : BaseEdge). EdgeRow 0 x.edge) (edge_apart u) edges) i m)
      once l))

  -- before the first node
  pub noding_begins : (words : List ℕ) → words ≡ words_of (edged_rows d ids chunks edges) → IsOnce chunks
      → Noding chunks (edged_rows d ids chunks edges) words (tails_from (1 + length ids) 4 (length chunks))
  noding_begins words w once = record {
    rows_are = edged_are words w;
    once = once;
    tails_are = record {
      count = length-tails_from (1 + length ids) 4 (length chunks);
      each = λ i t l. subst (λ y. EndsAt (NodesIn (get_or chunks i 0)) (edged_rows d ids chunks edges) (word_number y)) (sym (tail_at (1 + length ids) 4 (length chunks) i t l)) (nodes_begin once i l);
    };
    unlinked = unlinked;
  }

-- the node of a place, with those before it
pub node_there : (chunks : List ℕ) (xs : List BaseNode) (ns : List Node) (i : ℕ) (x : BaseNode) → AreNodes chunks xs ns → i < length xs → x ≡ get_or xs i x
    → (n : Node) × IsNode chunks x n × (map NodeRow (take (i + 1) ns) ≡ map NodeRow (take i ns) ++ NodeRow n ∷ [])
node_there chunks xs ns i x a l e =
    let other : Node = record { id = 0; chunk = 0; leaves = []; made = 0 } in
    let n : Node = get_or ns i other in
    let m : i < length ns = (let c = a.count in omega (arith, c, l)) in
    let there = slice_get-get_or ns i other m in
    (n, a.each i x n (slice_get-get_or xs i x l ∙ ap Some (sym e)) there, map_more NodeRow ns i n m (get_or_any ns i other n m))

-- the ids of the nodes
pub node_ids : (chunks : List ℕ) (xs : List BaseNode) (ns : List Node) → AreNodes chunks xs ns → map (λ x. x.id) xs ≡ ids_of ns
node_ids chunks [] [] a = refl
node_ids chunks [] (n ∷ ns) a = let c : 0 ≡ suc (length ns) = a.count in absurd (omega arith)
node_ids chunks (x ∷ xs) [] a = let c : suc (length xs) ≡ 0 = a.count in absurd (omega arith)
node_ids chunks (x ∷ xs) (n ∷ ns) a =
    let c : suc (length xs) ≡ suc (length ns) = a.count in
    let rest : AreNodes chunks xs ns = record { count = omega arith; each = λ i y m s t. a.each (suc i) y m s t } in
    ap (λ k. k ∷ map (λ (y : BaseNode). y.id) xs) (sym (a.each 0 x n refl refl).id) ∙ ap (λ ks. n.id ∷ ks) (node_ids chunks xs ns rest)

pub length_ids : (chunks : List ℕ) (xs : List BaseNode) (ns : List Node) → AreNodes chunks xs ns → length xs ≡ length (ids_of ns)
length_ids chunks xs ns a = a.count ∙ sym (length-map (λ (n : Node). n.id) ns)
