-- The ends of the nodes' children and of the links from supervoxels and nodes, and where their records stand, before the first link.
use Rattle.std.proofs.Common.{◌≡◌, ℕ, suc, ◌+◌, ◌-◌, ◌*◌, ◌<◌, ◌≤◌, inl, inr, Bool, true, false, List, [], ◌∷◌, ◌++◌, length, length-append, map, get_or, refl, sym, ◌∙◌, ap, subst, arith, append_assoc, append-nil}
use Rattle.std.proofs.lemmas.List.{get_or_append_left, get_or-append_right}
use Rattle.std.proofs.lemmas.Bool.{ne_eqb, eq-eqb, cases_lt, lt-ltb, le-ltb}
use Rattle.op_model.specs.declared.base.Dataset.{Dataset}
use Rattle.record_rows.specs.Rows.{Row, HeaderRow, SupervoxelRow, ChunkRow, NodeRow, LinkRow, EdgeRow, Node}
use Rattle.record_rows.specs.Chains.{version_of, child_of, has_id, is_node}
use Rattle.record_rows.specs.Words.{place_from, words_of}
use Rattle.record_rows.proofs.ImageLemmas.{length-map}
use Rattle.row_append.specs.Ends.{ChildrenOf, VersionsOf, owns, belongs, has_part, EndsAt, IsHeaded, is_logged}
use Rattle.row_append.specs.Tails.{word_number}
use Rattle.row_append.specs.declared.tail.Tail.{Tail}
use Rattle.row_append.proofs.EndLaws.{headers_stay, supervoxels_begin, nodes_begin}
use Rattle.base_rows.specs.declared.lists.BaseEdge.{BaseEdge}
use Rattle.base_rows.specs.declared.lists.BaseLink.{BaseLink}
use Rattle.base_rows.specs.Lists.{IsOnce, link_of}
use Rattle.base_rows.specs.BaseRows.{owner_rows, edged_rows, noded_rows, linked_rows, ids_of}
use Rattle.base_rows.specs.States.{tails_from, AreRows, Linking, owner_place}
use Rattle.base_rows.proofs.Passing.{NonePass, none_both, none_map, headed}
use Rattle.base_rows.proofs.TailLists.{length-tails_from, tail_at}
use Rattle.base_rows.proofs.Begun.{begun, found}
use Rattle.base_rows.proofs.EdgeSteps.{map_same}
use Rattle.base_rows.proofs.NodeSteps.{edge_rows, edged_are}
use Rattle.base_rows.proofs.OwnerLists.{once_front, once_behind, once_apart}

-- which records are part of these chains
header_parts : (u : ℕ) (d : Dataset) (s c : ℕ) → (has_part (ChildrenOf u) (HeaderRow d s c) ≡ false) × (has_part (VersionsOf u) (HeaderRow d s c) ≡ false) × (has_id u (HeaderRow d s c) ≡ false) × (is_node u (HeaderRow d s c) ≡ false)
unfolding has_part owns belongs is_node has_id child_of version_of
header_parts u d s c = (refl, refl, refl, refl)

supervoxel_parts : (u v : ℕ) → (has_part (ChildrenOf u) (SupervoxelRow v) ≡ false) × (is_node u (SupervoxelRow v) ≡ false)
unfolding has_part owns belongs is_node child_of
supervoxel_parts u v = (refl, refl)

supervoxel_others : (u v : ℕ) → (v ≡ u → ⊥) → (has_part (VersionsOf u) (SupervoxelRow v) ≡ false) × (has_id u (SupervoxelRow v) ≡ false)
unfolding has_part owns belongs has_id version_of
supervoxel_others u v f = (rw (ne_eqb v u f) refl, ne_eqb v u f)

chunk_parts : (u c : ℕ) → (has_part (ChildrenOf u) (ChunkRow c) ≡ false) × (has_part (VersionsOf u) (ChunkRow c) ≡ false) × (has_id u (ChunkRow c) ≡ false) × (is_node u (ChunkRow c) ≡ false)
unfolding has_part owns belongs is_node has_id child_of version_of
chunk_parts u c = (refl, refl, refl, refl)

edge_parts : (u : ℕ) (x : BaseEdge) → (has_part (ChildrenOf u) (EdgeRow 0 x.edge) ≡ false) × (has_part (VersionsOf u) (EdgeRow 0 x.edge) ≡ false) × (has_id u (EdgeRow 0 x.edge) ≡ false) × (is_node u (EdgeRow 0 x.edge) ≡ false)
unfolding has_part owns belongs is_node has_id child_of version_of
edge_parts u x = (refl, refl, refl, refl)

node_others : (u : ℕ) (n : Node) → (n.id ≡ u → ⊥) → (has_part (ChildrenOf u) (NodeRow n) ≡ false) × (has_part (VersionsOf u) (NodeRow n) ≡ false) × (has_id u (NodeRow n) ≡ false) × (is_node u (NodeRow n) ≡ false)
unfolding has_part owns belongs is_node has_id child_of version_of
node_others u n f = (rw (ne_eqb n.id u f) refl, rw (ne_eqb n.id u f) refl, ne_eqb n.id u f, ne_eqb n.id u f)

supervoxel_own : (v : ℕ) → has_id v (SupervoxelRow v) ≡ true
unfolding has_id
supervoxel_own v = eq-eqb v v refl

node_own : (n : Node) → (has_id n.id (NodeRow n) ≡ true) × (is_node n.id (NodeRow n) ≡ true)
unfolding has_id is_node
node_own n = (eq-eqb n.id n.id refl, eq-eqb n.id n.id refl)

-- none of some ids
none_of : (test : ℕ → Row → Bool) → ((u v : ℕ) → (v ≡ u → ⊥) → test u (SupervoxelRow v) ≡ false) → (u : ℕ) (vs : List ℕ) → ((i : ℕ) → i < length vs → get_or vs i 0 ≡ u → ⊥) → NonePass (test u) (map SupervoxelRow vs)
none_of test apart u [] f = refl
none_of test apart u (v ∷ vs) f = rw (apart u v (f 0 (omega arith))) (none_of test apart u vs (λ i l. f (suc i) (omega arith)))

no_nodes : (test : ℕ → Row → Bool) → ((u : ℕ) (n : Node) → (n.id ≡ u → ⊥) → test u (NodeRow n) ≡ false) → (u : ℕ) (ns : List Node) → ((i : ℕ) → i < length (ids_of ns) → get_or (ids_of ns) i 0 ≡ u → ⊥) → NonePass (test u) (map NodeRow ns)
no_nodes test apart u [] f = refl
no_nodes test apart u (n ∷ ns) f = rw (apart u n (f 0 (omega arith))) (no_nodes test apart u ns (λ i l. f (suc i) (omega arith)))

module _ (d : Dataset) (ids chunks : List ℕ) (edges : List BaseEdge) (ns : List Node) (once : IsOnce (ids ++ ids_of ns)) where
  abbrev header : Row
  header = HeaderRow d (length ids) (length chunks)

  abbrev front : List Row
  front = ((header ∷ map SupervoxelRow ids) ++ map ChunkRow chunks) ++ edge_rows edges

  abbrev behind : List Row
  behind = map ChunkRow chunks ++ (edge_rows edges ++ map NodeRow ns)

  -- the records with the nodes behind the others, and with the supervoxels behind the header
  rows_last : noded_rows d ids chunks edges ns ≡ front ++ (map NodeRow ns ++ [])
  unfolding noded_rows edged_rows owner_rows
  rows_last = ap (λ rs. front ++ rs) (sym (append-nil (map NodeRow ns)))

  rows_first : noded_rows d ids chunks edges ns ≡ (header ∷ []) ++ (map SupervoxelRow ids ++ behind)
  unfolding noded_rows edged_rows owner_rows
  rows_first =
      ap (λ rs. header ∷ rs)
      (append_assoc (map SupervoxelRow ids ++ map ChunkRow chunks) (edge_rows edges) (map NodeRow ns)
      ∙ append_assoc (map SupervoxelRow ids) (map ChunkRow chunks) (edge_rows edges ++ map NodeRow ns))

  front_long : length front ≡ length (noded_rows d ids chunks edges [])
  unfolding noded_rows edged_rows owner_rows
  front_long = ap length (sym (append-nil front))

  front_some : 0 < length front
  front_some = omega arith

  -- what no record before the nodes passes
  front_fails : (test : Row → Bool) → test header ≡ false → NonePass test (map SupervoxelRow ids) → ((c : ℕ) → test (ChunkRow c) ≡ false) → ((x : BaseEdge) → test (EdgeRow 0 x.edge) ≡ false) → NonePass test front
  front_fails test h s c e =
      none_both test ((header ∷ map SupervoxelRow ids) ++ map ChunkRow chunks) (edge_rows edges)
      (none_both test (header ∷ map SupervoxelRow ids) (map ChunkRow chunks) (rw h s) (none_map test ChunkRow c chunks))
      (none_map test (λ (x : BaseEdge). EdgeRow 0 x.edge) e edges)

  behind_fails : (test : Row → Bool) → ((c : ℕ) → test (ChunkRow c) ≡ false) → ((x : BaseEdge) → test (EdgeRow 0 x.edge) ≡ false) → NonePass test (map NodeRow ns) → NonePass test behind
  behind_fails test c e n =
      none_both test (map ChunkRow chunks) (edge_rows edges ++ map NodeRow ns) (none_map test ChunkRow c chunks)
      (none_both test (edge_rows edges) (map NodeRow ns) (none_map test (λ (x : BaseEdge). EdgeRow 0 x.edge) e edges) n)

  abbrev nodes : List ℕ
  nodes = ids_of ns

  abbrev first : ℕ
  first = length (noded_rows d ids chunks edges [])

  abbrev rows : List Row
  rows = noded_rows d ids chunks edges ns

  nodes_once : IsOnce nodes
  nodes_once = once_behind ids nodes once

  ids_once : IsOnce ids
  ids_once = once_front ids nodes once

  apart : (i j : ℕ) → i < length ids → j < length nodes → get_or ids i 0 ≡ get_or nodes j 0 → ⊥
  apart = once_apart ids nodes once

  children_end : (i : ℕ) → i < length nodes → EndsAt (ChildrenOf (get_or nodes i 0)) rows (8 * (first + i) + 4)
  children_end i l =
      subst (λ rs. EndsAt (ChildrenOf (get_or nodes i 0)) rs (8 * (first + i) + 4)) (sym rows_last)
      (subst (λ k. EndsAt (ChildrenOf (get_or nodes i 0)) (front ++ (map NodeRow ns ++ [])) (8 * (k + i) + 4)) front_long
      (begun (λ n. n.id) NodeRow ChildrenOf 4 (λ rs n h f. (nodes_begin rs n h).0 f) (λ u n f. (node_others u n f).0) ns front []
      (headed d (length ids) (length chunks) _) nodes_once
      (λ j m. let u = get_or nodes j 0 in
      front_fails (has_part (ChildrenOf u)) (header_parts u d (length ids) (length chunks)).0 (none_map (has_part (ChildrenOf u)) SupervoxelRow (λ v. (supervoxel_parts u v).0) ids) (λ c. (chunk_parts u c).0) (λ x. (edge_parts u x).0))
      (λ j m. refl) i l))

  node_versions_end : (i : ℕ) → i < length nodes → EndsAt (VersionsOf (get_or nodes i 0)) rows (8 * (first + i) + 5)
  node_versions_end i l =
      subst (λ rs. EndsAt (VersionsOf (get_or nodes i 0)) rs (8 * (first + i) + 5)) (sym rows_last)
      (subst (λ k. EndsAt (VersionsOf (get_or nodes i 0)) (front ++ (map NodeRow ns ++ [])) (8 * (k + i) + 5)) front_long
      (begun (λ n. n.id) NodeRow VersionsOf 5 (λ rs n h f. (nodes_begin rs n h).1 f) (λ u n f. (node_others u n f).1) ns front []
      (headed d (length ids) (length chunks) _) nodes_once
      (λ j m. let u = get_or nodes j 0 in
      front_fails (has_part (VersionsOf u)) (header_parts u d (length ids) (length chunks)).1
      (none_of (λ w. has_part (VersionsOf w)) (λ w v f. (supervoxel_others w v f).0) u ids (λ k n e. apart k j n m e)) (λ c. (chunk_parts u c).1) (λ x. (edge_parts u x).1))
      (λ j m. refl) i l))

  supervoxel_versions_end : (i : ℕ) → i < length ids → EndsAt (VersionsOf (get_or ids i 0)) rows (8 * (1 + i) + 5)
  supervoxel_versions_end i l =
      let s : List ℕ → Type 0 = λ xs. IsOnce xs → ((j k : ℕ) → j < length xs → k < length nodes → get_or xs j 0 ≡ get_or nodes k 0 → ⊥) → i < length xs
      → EndsAt (VersionsOf (get_or xs i 0)) ((header ∷ []) ++ (map SupervoxelRow ids ++ behind)) (8 * (1 + i) + 5) in
      subst (λ rs. EndsAt (VersionsOf (get_or ids i 0)) rs (8 * (1 + i) + 5)) (sym rows_first)
      (subst s (map_same ids)
      (λ o a m. begun (λ v. v) SupervoxelRow VersionsOf 5 (λ rs v h f. (supervoxels_begin rs v h).1 f) (λ u v f. (supervoxel_others u v f).0) ids (header ∷ []) behind
      (headed d (length ids) (length chunks) []) o
      (λ j k. let u = get_or (map (λ v. v) ids) j 0 in rw (header_parts u d (length ids) (length chunks)).1 refl)
      (λ j k. let u = get_or (map (λ v. v) ids) j 0 in
      behind_fails (has_part (VersionsOf u)) (λ c. (chunk_parts u c).1) (λ x. (edge_parts u x).1)
      (no_nodes (λ w. has_part (VersionsOf w)) (λ w n f. (node_others w n f).1) u ns (λ t q e. a j t k q (sym e)))) i m)
      ids_once apart l)

  node_stands : (i : ℕ) → i < length nodes → (place_from (has_id (get_or nodes i 0)) 0 rows ≡ first + i) × (place_from (is_node (get_or nodes i 0)) 0 rows ≡ first + i)
  node_stands i l = (
    ap (place_from (has_id (get_or nodes i 0)) 0) rows_last
        ∙ (found (λ n. n.id) NodeRow has_id (λ u n f. (node_others u n f).2) (λ n. (node_own n).0) ns front [] front_some nodes_once
        (λ j m. let u = get_or nodes j 0 in
        front_fails (has_id u) (header_parts u d (length ids) (length chunks)).2
        (none_of has_id (λ w v f. (supervoxel_others w v f).1) u ids (λ k n e. apart k j n m e)) (λ c. (chunk_parts u c).2) (λ x. (edge_parts u x).2)) i l
        ∙ ap (λ k. k + i) front_long),
    ap (place_from (is_node (get_or nodes i 0)) 0) rows_last
        ∙ (found (λ n. n.id) NodeRow is_node (λ u n f. (node_others u n f).3) (λ n. (node_own n).1) ns front [] front_some nodes_once
        (λ j m. let u = get_or nodes j 0 in
        front_fails (is_node u) (header_parts u d (length ids) (length chunks)).3
        (none_map (is_node u) SupervoxelRow (λ v. (supervoxel_parts u v).1) ids) (λ c. (chunk_parts u c).3) (λ x. (edge_parts u x).3)) i l
        ∙ ap (λ k. k + i) front_long),
  )

  supervoxel_stands : (i : ℕ) → i < length ids → place_from (has_id (get_or ids i 0)) 0 rows ≡ 1 + i
  supervoxel_stands i l =
      let s : List ℕ → Type 0 = λ xs. IsOnce xs → i < length xs → place_from (has_id (get_or xs i 0)) 0 ((header ∷ []) ++ (map SupervoxelRow ids ++ behind)) ≡ 1 + i in
      ap (place_from (has_id (get_or ids i 0)) 0) rows_first
      ∙ subst s (map_same ids)
      (λ o m. found (λ v. v) SupervoxelRow has_id (λ u v f. (supervoxel_others u v f).1) supervoxel_own ids (header ∷ []) behind (omega arith) o
      (λ j k. let u = get_or (map (λ v. v) ids) j 0 in rw (header_parts u d (length ids) (length chunks)).2 refl) i m)
      ids_once l

  place_low : (i : ℕ) → i < length ids → owner_place (length ids) first i ≡ 1 + i
  unfolding owner_place
  place_low i l = rw (lt-ltb i (length ids) l) refl

  place_high : (i : ℕ) → length ids ≤ i → owner_place (length ids) first i ≡ first + (i - length ids)
  unfolding owner_place
  place_high i l = rw (le-ltb i (length ids) l) refl

  owner_stands : (i : ℕ) → i < length (ids ++ nodes) → place_from (has_id (get_or (ids ++ nodes) i 0)) 0 rows ≡ owner_place (length ids) first i
  owner_stands i l = elim (cases_lt i (length ids)) [
    | inl m ↦ ap (λ u. place_from (has_id u) 0 rows) (get_or_append_left ids nodes 0 i m) ∙ (supervoxel_stands i m ∙ sym (place_low i m))
    | inr m ↦
        let n = length-append ids nodes in
        ap (λ u. place_from (has_id u) 0 rows) (get_or-append_right ids nodes (length ids) i 0 refl m) ∙ ((node_stands (i - length ids) (omega (arith, n, l, m))).0 ∙ sym (place_high i m))
  ]

  abbrev versions : List Tail
  versions = tails_from 1 5 (length ids) ++ tails_from first 5 (length nodes)

  versions_long : length versions ≡ length (ids ++ nodes)
  versions_long =
      let a = length-append (tails_from 1 5 (length ids)) (tails_from first 5 (length nodes)) in
      let b = length-tails_from 1 5 (length ids) in
      let c = length-tails_from first 5 (length nodes) in
      let e = length-append ids nodes in
      omega (arith, a, b, c, e)

  version_end : (i : ℕ) (t : Tail) → i < length (ids ++ nodes) → EndsAt (VersionsOf (get_or (ids ++ nodes) i 0)) rows (word_number (get_or versions i t))
  version_end i t l = elim (cases_lt i (length ids)) [
    | inl m ↦
        let b = length-tails_from 1 5 (length ids) in
        subst (λ v. EndsAt (VersionsOf v) rows (word_number (get_or versions i t))) (sym (get_or_append_left ids nodes 0 i m))
        (subst (λ y. EndsAt (VersionsOf (get_or ids i 0)) rows (word_number y))
        (sym (get_or_append_left (tails_from 1 5 (length ids)) (tails_from first 5 (length nodes)) t i (omega (arith, b, m)) ∙ tail_at 1 5 (length ids) i t m))
        (supervoxel_versions_end i m))
    | inr m ↦
        let n = length-append ids nodes in
        let k : i - length ids < length nodes = omega (arith, n, l, m) in
        subst (λ v. EndsAt (VersionsOf v) rows (word_number (get_or versions i t))) (sym (get_or-append_right ids nodes (length ids) i 0 refl m))
        (subst (λ y. EndsAt (VersionsOf (get_or nodes (i - length ids) 0)) rows (word_number y))
        (sym (get_or-append_right (tails_from 1 5 (length ids)) (tails_from first 5 (length nodes)) (length ids) i t (length-tails_from 1 5 (length ids)) m ∙ tail_at first 5 (length nodes) (i - length ids) t k))
        (node_versions_end (i - length ids) k))
  ]

  pub noded_are : (words : List ℕ) → words ≡ words_of rows → AreRows rows words
  unfolding noded_rows is_logged
  noded_are words w =
      let a = edged_are d ids chunks edges (words_of (edged_rows d ids chunks edges)) refl in
      record { headed = headers_stay (edged_rows d ids chunks edges) (map NodeRow ns) a.headed; stand = w; unlogged = none_both is_logged (edged_rows d ids chunks edges) (map NodeRow ns) a.unlogged (none_map is_logged NodeRow (λ n. refl) ns) }

  -- before the first link
  pub linking_begins : (words : List ℕ) → words ≡ words_of rows → Linking ids nodes first rows words (tails_from first 4 (length nodes)) versions
  linking_begins words w = record {
    rows_are = noded_are words w;
    once = once;
    children_are = record {
      count = length-tails_from first 4 (length nodes);
      each = λ i t l. subst (λ y. EndsAt (ChildrenOf (get_or nodes i 0)) rows (word_number y)) (sym (tail_at first 4 (length nodes) i t l)) (children_end i l);
    };
    versions_are = record { count = versions_long; each = version_end };
    owners_stand = owner_stands;
    nodes_stand = λ i l. (node_stands i l).1;
    behind = let e = front_long in omega (arith, e);
  }

  -- with links behind them
  pub linked_are : (links : List BaseLink) → IsHeaded (linked_rows d ids chunks edges ns links) × NonePass is_logged (linked_rows d ids chunks edges ns links)
  unfolding linked_rows is_logged
  linked_are links =
      let a = noded_are (words_of rows) refl in
      let more : List Row = map (λ (x : BaseLink). LinkRow (link_of (ids ++ nodes) nodes x)) links in
      (headers_stay rows more a.headed, none_both is_logged rows more a.unlogged (none_map is_logged (λ (x : BaseLink). LinkRow (link_of (ids ++ nodes) nodes x)) (λ x. refl) links))

-- how many records stand before the nodes
pub before_nodes : (d : Dataset) (ids chunks : List ℕ) (edges : List BaseEdge) → length (noded_rows d ids chunks edges []) ≡ 1 + length ids + length chunks + length edges
unfolding noded_rows edged_rows owner_rows
before_nodes d ids chunks edges =
    let s : List Row = map SupervoxelRow ids in
    let c : List Row = map ChunkRow chunks in
    let e : List Row = edge_rows edges in
    let a = length-append (s ++ c) (e) in
    let b = length-append s c in
    let x = length-map SupervoxelRow ids in
    let y = length-map ChunkRow chunks in
    let z = length-map (λ (x : BaseEdge). EdgeRow 0 x.edge) edges in
    let n = length-append ((s ++ c) ++ e) [] in
    omega (arith, a, b, x, y, z, n)
