-- Where chains end, from the last of their members.
use Rattle.std.proofs.Common.{◌≡◌, ℕ, zero, suc, ◌+◌, ◌*◌, ◌<◌, ◌≤◌, true, false, eqb, List, [], ◌∷◌, length, get_or, Option, Some, None, refl, sym, ◌∙◌, subst, inl, inr, arith, eq-eqb}
use Rattle.std.specs.List.{slice_get, list_any}
use Rattle.std.proofs.lemmas.Bool.{false≢true, eqb-true, or_cases, and_parts}
use Rattle.op_model.specs.declared.base.Dataset.{Dataset}
use Rattle.op_model.specs.declared.base.Base.{Base}
use Rattle.op_model.specs.declared.base.Pair.{Pair}
use Rattle.op_model.specs.declared.base.Edge.{Edge}
use Rattle.op_model.specs.declared.entry.Entry.{Entry}
use Rattle.graph_model.specs.Lists.{has}
use Rattle.op_model.specs.Edges.{same_pair}
use Rattle.op_model.specs.Legal.{Legal}
use Rattle.op_model.specs.Valid.{IsBase, IsDataset}
use Rattle.op_model.proofs.EdgeLemmas.{same_pair_self}
use Rattle.record_rows.specs.Rows.{Row, HeaderRow, SupervoxelRow, ChunkRow, NodeRow, LinkRow, EdgeRow, ChangeRow, Node, Link}
use Rattle.record_rows.specs.Chains.{change_of, edge_at, has_id, is_edge, node_in, version_of}
use Rattle.record_rows.specs.Walks.{is_chunk, is_supervoxel}
use Rattle.record_rows.specs.LogRows.{base_rows, chunks, entry_rows, rows_of}
use Rattle.record_rows.specs.Readings.{HoldsChunk, HoldsEdge, HoldsId, HoldsSupervoxel, ParentImage, first_place, last_place}
use Rattle.record_rows.proofs.BaseRows.{chunk_at_place, place_in, supervoxel_at}
use Rattle.record_rows.proofs.ImageFacts.{header}
use Rattle.row_append.specs.Ends.{EdgesOf, VersionsOf, NodesIn, EndsAt, IsHeaded, along, belongs, owns}
use Rattle.row_append.proofs.EndLaws.{headers_stay}
use Rattle.grown_rows.specs.Aimed.{ChangesEndAt}
use Rattle.grown_rows.specs.EndLaws.{IsTheOne}
use Rattle.grown_rows.proofs.EndLemmas.{edges_without_end, last_changes_end, last_members_end, owners_end}
use Rattle.chain_ends.proofs.Keys.{apart, chunk_once, edge_once, id_once, supervoxel_once}
use Rattle.chain_ends.proofs.Lasts.{first_some, last_none, last_some}

pub headed_log : (d : Dataset) (b : Base) (log : List Entry) → IsHeaded (rows_of d b log)
unfolding rows_of base_rows
headed_log d b [] = record { dataset = d; supervoxels = _; chunks = _; rest = _; begins = refl }
headed_log d b (e ∷ log) = headers_stay (rows_of d b log) (entry_rows d b log e) (headed_log d b log)

one_link : (l : Link) → IsTheOne (VersionsOf l.child) (LinkRow l) 2
unfolding along
one_link l = (omega arith, refl, go)
  where
    go : (j : ℕ) → get_or (along (LinkRow l)) j None ≡ Some (VersionsOf l.child) → j ≡ 2
    go zero e = cc
    go (suc zero) e = cc
    go (suc (suc zero)) e = refl
    go (suc (suc (suc zero))) e = cc
    go (suc (suc (suc (suc j)))) e = cc

one_node : (n : Node) → IsTheOne (NodesIn n.chunk) (NodeRow n) 3
unfolding along
one_node n = (omega arith, refl, go)
  where
    go : (j : ℕ) → get_or (along (NodeRow n)) j None ≡ Some (NodesIn n.chunk) → j ≡ 3
    go zero e = cc
    go (suc zero) e = cc
    go (suc (suc zero)) e = cc
    go (suc (suc (suc zero))) e = refl
    go (suc (suc (suc (suc j)))) e = cc

one_chunk : (c : ℕ) → IsTheOne (NodesIn c) (ChunkRow c) 0
unfolding along
one_chunk c = (omega arith, refl, go)
  where
    go : (j : ℕ) → get_or (along (ChunkRow c)) j None ≡ Some (NodesIn c) → j ≡ 0
    go zero e = refl
    go (suc zero) e = cc
    go (suc (suc zero)) e = cc
    go (suc (suc (suc zero))) e = cc
    go (suc (suc (suc (suc j)))) e = cc

one_owner : (n : Node) → IsTheOne (VersionsOf n.id) (NodeRow n) 1
unfolding along
one_owner n = (omega arith, refl, go)
  where
    go : (j : ℕ) → get_or (along (NodeRow n)) j None ≡ Some (VersionsOf n.id) → j ≡ 1
    go zero e = cc
    go (suc zero) e = refl
    go (suc (suc zero)) e = cc
    go (suc (suc (suc zero))) e = cc
    go (suc (suc (suc (suc j)))) e = cc

one_versions : (v : ℕ) → IsTheOne (VersionsOf v) (SupervoxelRow v) 1
unfolding along
one_versions v = (omega arith, refl, go)
  where
    go : (j : ℕ) → get_or (along (SupervoxelRow v)) j None ≡ Some (VersionsOf v) → j ≡ 1
    go zero e = cc
    go (suc zero) e = refl
    go (suc (suc zero)) e = cc
    go (suc (suc (suc zero))) e = cc
    go (suc (suc (suc (suc j)))) e = cc

one_edges : (v : ℕ) → IsTheOne (EdgesOf v) (SupervoxelRow v) 0
unfolding along
one_edges v = (omega arith, refl, go)
  where
    go : (j : ℕ) → get_or (along (SupervoxelRow v)) j None ≡ Some (EdgesOf v) → j ≡ 0
    go zero e = refl
    go (suc zero) e = cc
    go (suc (suc zero)) e = cc
    go (suc (suc (suc zero))) e = cc
    go (suc (suc (suc (suc j)))) e = cc

ends_apart : (u v : ℕ) → Some (EdgesOf u) ≡ Some (EdgesOf v) → u ≡ v
ends_apart u v e = cc

one_lesser : (made : ℕ) (x : Edge) → x.pair.a < x.pair.b → IsTheOne (EdgesOf x.pair.a) (EdgeRow made x) 1
unfolding along
one_lesser made x l = (omega arith, refl, go)
  where
    go : (j : ℕ) → get_or (along (EdgeRow made x)) j None ≡ Some (EdgesOf x.pair.a) → j ≡ 1
    go zero e = cc
    go (suc zero) e = refl
    go (suc (suc zero)) e = absurd (let q = ends_apart x.pair.b x.pair.a e in omega (arith, l, q))
    go (suc (suc (suc zero))) e = cc
    go (suc (suc (suc (suc j)))) e = cc

one_greater : (made : ℕ) (x : Edge) → x.pair.a < x.pair.b → IsTheOne (EdgesOf x.pair.b) (EdgeRow made x) 2
unfolding along
one_greater made x l = (omega arith, refl, go)
  where
    go : (j : ℕ) → get_or (along (EdgeRow made x)) j None ≡ Some (EdgesOf x.pair.b) → j ≡ 2
    go zero e = cc
    go (suc zero) e = absurd (let q = ends_apart x.pair.a x.pair.b e in omega (arith, l, q))
    go (suc (suc zero)) e = refl
    go (suc (suc (suc zero))) e = cc
    go (suc (suc (suc (suc j)))) e = cc

module _ (d : Dataset) (b : Base) (log : List Entry) where
  abbrev rows : List Row
  rows = rows_of d b log

  -- the links of a child end at the last one
  pub versions_last : (id p : ℕ) {found : Option ℕ} → found ≡ last_place (version_of id) rows → found ≡ Some p → EndsAt (VersionsOf id) rows (8 * p + 6)
  unfolding version_of belongs
  versions_last id p e f = let z = last_some (version_of id) rows p e f in go z.0 z.1.0 z.1.1 z.1.2
    where
      go : (row : Row) → slice_get rows p ≡ Some row → version_of id row ≡ true → ((q : ℕ) (other : Row) → slice_get rows q ≡ Some other → version_of id other ≡ true → q ≤ p) → EndsAt (VersionsOf id) rows (8 * p + 6)
      go (LinkRow l) h t m =
          let c : l.child ≡ id = eqb-true l.child id t in
          last_members_end rows (VersionsOf id) p 2 (LinkRow l) (headed_log d b log) h t (subst (λ x. IsTheOne (VersionsOf x) (LinkRow l) 2) c (one_link l)) m
      go row h t m = absurd (false≢true t)

  -- or at the child's own record
  pub versions_none : IsDataset d → IsBase d b → Legal d b log → (id p : ℕ) {found : Option ℕ} → found ≡ last_place (version_of id) rows → ((q : ℕ) → found ≡ Some q → ⊥) → HoldsId d b log p id → EndsAt (VersionsOf id) rows (8 * p + 5)
  unfolding has_id belongs owns
  versions_none valid base legal id p e n h = go h.0 h.1 h.2
    where
      none : list_any (version_of id) rows ≡ false
      none = last_none (version_of id) rows e n

      go : (row : Row) → slice_get rows p ≡ Some row → has_id id row ≡ true → EndsAt (VersionsOf id) rows (8 * p + 5)
      go (SupervoxelRow v) k t =
          let c : v ≡ id = eqb-true v id t in
          owners_end rows (VersionsOf id) p 1 (SupervoxelRow v) (headed_log d b log) k t (subst (λ x. IsTheOne (VersionsOf x) (SupervoxelRow v) 1) c (one_versions v)) none
          (λ q other g u. id_once d b valid base log legal id p q (SupervoxelRow v) other k t g u)
      go (NodeRow x) k t =
          let c : x.id ≡ id = eqb-true x.id id t in
          owners_end rows (VersionsOf id) p 1 (NodeRow x) (headed_log d b log) k t (subst (λ y. IsTheOne (VersionsOf y) (NodeRow x) 1) c (one_owner x)) none
          (λ q other g u. id_once d b valid base log legal id p q (NodeRow x) other k t g u)
      go row k t = absurd (false≢true t)

  -- the nodes of a chunk end at the last one
  pub nodes_last : (c p : ℕ) {found : Option ℕ} → found ≡ last_place (node_in c) rows → found ≡ Some p → EndsAt (NodesIn c) rows (8 * p + 7)
  unfolding node_in belongs
  nodes_last c p e f = let z = last_some (node_in c) rows p e f in go z.0 z.1.0 z.1.1 z.1.2
    where
      go : (row : Row) → slice_get rows p ≡ Some row → node_in c row ≡ true → ((q : ℕ) (other : Row) → slice_get rows q ≡ Some other → node_in c other ≡ true → q ≤ p) → EndsAt (NodesIn c) rows (8 * p + 7)
      go (NodeRow x) h t m =
          let k : x.chunk ≡ c = eqb-true x.chunk c t in
          last_members_end rows (NodesIn c) p 3 (NodeRow x) (headed_log d b log) h t (subst (λ y. IsTheOne (NodesIn y) (NodeRow x) 3) k (one_node x)) m
      go row h t m = absurd (false≢true t)

  -- or at the chunk's own record
  pub nodes_none : IsDataset d → IsBase d b → (c p : ℕ) {found : Option ℕ} → found ≡ last_place (node_in c) rows → ((q : ℕ) → found ≡ Some q → ⊥) → HoldsChunk d b log p c → EndsAt (NodesIn c) rows (8 * p + 4)
  unfolding belongs owns is_chunk
  nodes_none valid base c p e n h =
      owners_end rows (NodesIn c) p 0 (ChunkRow c) (headed_log d b log) h (eq-eqb c c refl) (one_chunk c) (last_none (node_in c) rows e n)
      (λ q other g u. chunk_once d b valid base log p q c other h g u)

  -- the edges of a supervoxel end at the last one: behind its lesser end,
  pub edges_lesser : (v p made : ℕ) (x : Edge) {found : Option ℕ} → found ≡ last_place (edge_at v) rows → found ≡ Some p → HoldsEdge d b log p made x → x.pair.a < x.pair.b → x.pair.a ≡ v → EndsAt (EdgesOf v) rows (8 * p + 5)
  unfolding belongs edge_at
  edges_lesser v p made x e f h l q =
      let z = last_some (edge_at v) rows p e f in
      last_members_end rows (EdgesOf v) p 1 (EdgeRow made x) (headed_log d b log) h (subst (λ r. edge_at v r ≡ true) (same z.0 (sym z.1.0 ∙ h)) z.1.1) (subst (λ y. IsTheOne (EdgesOf y) (EdgeRow made x) 1) q (one_lesser made x l)) z.1.2
    where
      same : (row : Row) → Some row ≡ Some (EdgeRow made x) → row ≡ EdgeRow made x
      same row e = cc

  -- or its greater one,
  pub edges_greater : (v p made : ℕ) (x : Edge) {found : Option ℕ} → found ≡ last_place (edge_at v) rows → found ≡ Some p → HoldsEdge d b log p made x → x.pair.a < x.pair.b → (x.pair.a ≡ v → ⊥) → EndsAt (EdgesOf v) rows (8 * p + 6)
  unfolding belongs edge_at
  edges_greater v p made x e f h l n =
      let z = last_some (edge_at v) rows p e f in
      let t : edge_at v (EdgeRow made x) ≡ true = subst (λ r. edge_at v r ≡ true) (same z.0 (sym z.1.0 ∙ h)) z.1.1 in
      let q : x.pair.b ≡ v = elim (or_cases (eqb x.pair.a v) (eqb x.pair.b v) t) [ inl u ↦ absurd (n (eqb-true x.pair.a v u)) | inr u ↦ eqb-true x.pair.b v u ] in
      last_members_end rows (EdgesOf v) p 2 (EdgeRow made x) (headed_log d b log) h t (subst (λ y. IsTheOne (EdgesOf y) (EdgeRow made x) 2) q (one_greater made x l)) z.1.2
    where
      same : (row : Row) → Some row ≡ Some (EdgeRow made x) → row ≡ EdgeRow made x
      same row e = cc

  -- or at the supervoxel's own record
  pub edges_none : IsBase d b → (v p : ℕ) {found : Option ℕ} → found ≡ last_place (edge_at v) rows → ((q : ℕ) → found ≡ Some q → ⊥) → HoldsSupervoxel d b log p v → EndsAt (EdgesOf v) rows (8 * p + 4)
  unfolding belongs owns is_supervoxel
  edges_none base v p e n h =
      owners_end rows (EdgesOf v) p 0 (SupervoxelRow v) (headed_log d b log) h (eq-eqb v v refl) (one_edges v) (last_none (edge_at v) rows e n)
      (λ q other g u. supervoxel_once d b base log p q v other h g u)

  -- the last edge of a supervoxel is an edge
  pub edge_here : (v p : ℕ) {found : Option ℕ} → found ≡ last_place (edge_at v) rows → found ≡ Some p → (made : ℕ) × (x : Edge) × HoldsEdge d b log p made x
  unfolding edge_at
  edge_here v p e f = let z = last_some (edge_at v) rows p e f in go z.0 z.1.0 z.1.1
    where
      go : (row : Row) → slice_get rows p ≡ Some row → edge_at v row ≡ true → (made : ℕ) × (x : Edge) × HoldsEdge d b log p made x
      go (EdgeRow made x) h t = (made, x, h)
      go row h t = absurd (false≢true t)

  -- a known supervoxel is found, at its own record
  pub supervoxel_here : (words : List ℕ) (i : ParentImage d b log words) (v : ℕ) {found : Option ℕ} → has b.supervoxels v ≡ true → found ≡ first_place (has_id v) rows → (p : ℕ) × (found ≡ Some p) × HoldsSupervoxel d b log p v
  unfolding has_id
  supervoxel_here words i v hv e =
      let k = place_in b.supervoxels v hv in
      let z = first_some (has_id v) rows _ (header d b log words i) (no_header d (length b.supervoxels) (length (chunks d b))) e (1 + k.0) (SupervoxelRow v) (subst (λ x. HoldsSupervoxel d b log (1 + k.0) x) k.2 (supervoxel_at d b log words i k.0 k.1)) (eq-eqb v v refl) in
      (z.0, z.2, go z.0 z.1 z.3 z.4)
    where
      no_header : (x : Dataset) (m n : ℕ) → has_id v (HeaderRow x m n) ≡ false
      no_header x m n = refl

      go : (p : ℕ) (row : Row) → slice_get rows p ≡ Some row → has_id v row ≡ true → HoldsSupervoxel d b log p v
      go p (SupervoxelRow x) h t = subst (λ y. HoldsSupervoxel d b log p y) (eqb-true x v t) h
      go p (NodeRow n) h t = absurd (apart d b i.dataset i.base log i.legal v p n hv h (eqb-true n.id v t))
      go p row h t = absurd (false≢true t)

  pub supervoxel_at_spot : (words : List ℕ) (i : ParentImage d b log words) (v p : ℕ) {found : Option ℕ} → has b.supervoxels v ≡ true → found ≡ first_place (has_id v) rows → found ≡ Some p → HoldsSupervoxel d b log p v
  supervoxel_at_spot words i v p hv e f = let z = supervoxel_here words i v hv e in subst (λ q. HoldsSupervoxel d b log q v) (same z.0 p (sym z.1 ∙ f)) z.2
    where
      same : (x y : ℕ) → Some x ≡ Some y → x ≡ y
      same x y e = cc

  -- so is a chunk of the base
  pub chunk_here : (words : List ℕ) (i : ParentImage d b log words) (c : ℕ) {found : Option ℕ} → has (chunks d b) c ≡ true → found ≡ first_place (is_chunk c) rows → (p : ℕ) × (found ≡ Some p) × HoldsChunk d b log p c
  unfolding is_chunk
  chunk_here words i c hc e =
      let k = place_in (chunks d b) c hc in
      let z = first_some (is_chunk c) rows _ (header d b log words i) (no_header d (length b.supervoxels) (length (chunks d b))) e (1 + length b.supervoxels + k.0) (ChunkRow c) (subst (λ x. HoldsChunk d b log (1 + length b.supervoxels + k.0) x) k.2 (chunk_at_place d b log words i k.0 k.1)) (eq-eqb c c refl) in
      (z.0, z.2, go z.0 z.1 z.3 z.4)
    where
      no_header : (x : Dataset) (m n : ℕ) → is_chunk c (HeaderRow x m n) ≡ false
      no_header x m n = refl

      go : (p : ℕ) (row : Row) → slice_get rows p ≡ Some row → is_chunk c row ≡ true → HoldsChunk d b log p c
      go p (ChunkRow x) h t = subst (λ y. HoldsChunk d b log p y) (eqb-true x c t) h
      go p row h t = absurd (false≢true t)

  same_pairs : (p q : Pair) → same_pair p q ≡ true → p ≡ q
  unfolding same_pair
  same_pairs p q h =
      let s = and_parts _ _ h in
      let x : p.a ≡ q.a = eqb-true p.a q.a s.0 in
      let y : p.b ≡ q.b = eqb-true p.b q.b s.1 in
      λ i. record { a = x i; b = y i }

  -- the changes of an edge end at the last one
  pub changes_last : (pair : Pair) (p : ℕ) {found : Option ℕ} → found ≡ last_place (change_of pair) rows → found ≡ Some p → ChangesEndAt pair rows (8 * p + 5)
  unfolding change_of
  changes_last pair p e f = let z = last_some (change_of pair) rows p e f in go z.0 z.1.0 z.1.1 z.1.2
    where
      go : (row : Row) → slice_get rows p ≡ Some row → change_of pair row ≡ true → ((q : ℕ) (other : Row) → slice_get rows q ≡ Some other → change_of pair other ≡ true → q ≤ p) → ChangesEndAt pair rows (8 * p + 5)
      go (ChangeRow entry c) h t m =
          let s : c.pair ≡ pair = same_pairs c.pair pair t in
          subst (λ x. ChangesEndAt x rows (8 * p + 5)) s (last_changes_end rows p entry c (headed_log d b log) h (λ q other g u. m q other g (subst (λ x. change_of x other ≡ true) s u)))
      go row h t m = absurd (false≢true t)

-- or at the edge's own record
pub changes_none : (d : Dataset) (b : Base) (log : List Entry) → Legal d b log → (p made : ℕ) (x : Edge) {found : Option ℕ} → found ≡ last_place (change_of x.pair) (rows_of d b log) → ((q : ℕ) → found ≡ Some q → ⊥) → HoldsEdge d b log p made x
    → ChangesEndAt x.pair (rows_of d b log) (8 * p + 4)
unfolding is_edge
changes_none d b [] legal p made x e n h = absurd legal
changes_none d b (f ∷ old) legal p made x e n h =
    edges_without_end (rows_of d b (f ∷ old)) p made x (headed_log d b (f ∷ old)) h (last_none (change_of x.pair) (rows_of d b (f ∷ old)) e n)
    (λ q other g u. edge_once d b f old legal p q x.pair (EdgeRow made x) other h (same_pair_self x.pair) g u)
