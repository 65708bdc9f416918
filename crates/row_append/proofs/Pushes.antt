-- The words with one record of each kind behind: the stores that it takes, and its own words.
use Rattle.std.proofs.Common.{◌≡◌, ℕ, ◌+◌, ◌*◌, ◌^◌, true, false, eqb, List, [], ◌∷◌, ◌++◌, length, set, Some, refl, sym, ◌∙◌, ap, ap₂, subst, inl, inr}
use Rattle.std.specs.List.{slice_get, AllByRecursion, list_any}
use Rattle.std.proofs.lemmas.Bool.{false≢true, eqb-true, eq-eqb, or_cases, or_left, or_right}
use Rattle.op_model.specs.declared.base.Dataset.{Dataset}
use Rattle.op_model.specs.declared.base.Edge.{Edge}
use Rattle.op_model.specs.declared.entry.Entry.{Entry}
use Rattle.op_model.specs.Lists.{head_or}
use Rattle.record_rows.specs.Rows.{Row, HeaderRow, SupervoxelRow, ChunkRow, NodeRow, LinkRow, EdgeRow, EntryRow, Node, Link}
use Rattle.record_rows.specs.Chains.{aims, edge_at, version_of, child_of, node_in, is_node, has_id, change_of, retires}
use Rattle.record_rows.specs.Words.{place_from, fixed_words, pointer_word, row_words, words_from, words_of, layout_word, grid_word, bit, strength, kind_code, names}
use Rattle.record_rows.specs.Growth.{stored}
use Rattle.row_append.specs.Ends.{Chain, EdgesOf, VersionsOf, ChildrenOf, NodesIn, belongs, along, HasNone, EndsAt, IsHeaded, is_logged}
use Rattle.row_append.specs.Tails.{IsIngest}
use Rattle.std.specs.Bool.{IsFalse}
use Rattle.row_append.proofs.Growing.{Leaves, End, stores_of, Among, pushed}
use Rattle.row_append.proofs.Leaving.{any_at, supervoxel_leaves, chunk_leaves, link_leaves, edge_leaves, node_leaves, entry_leaves, supervoxel_own, chunk_own, edge_own, node_own, link_own, entry_own}

-- the same of any records that begin with a header
pub pushed_rows : (rows : List Row) (row : Row) (ends : List End) → IsHeaded rows → ((p : ℕ) (r : Row) → slice_get rows p ≡ Some r → Leaves (length rows) row (along r) (aims r))
    → AllByRecursion (λ e. EndsAt e.chain rows e.word × (belongs e.chain row ≡ true)) ends → ((chain : Chain) → belongs chain row ≡ true → Among chain ends)
    → stored (stores_of (length rows) ends) (words_of rows) ++ row_words (rows ++ row ∷ []) (length rows) row [] ≡ words_of (rows ++ row ∷ [])
pushed_rows rows row ends h =
    subst (λ rs. ((p : ℕ) (r : Row) → slice_get rs p ≡ Some r → Leaves (length rs) row (along r) (aims r))
    → AllByRecursion (λ e. EndsAt e.chain rs e.word × (belongs e.chain row ≡ true)) ends → ((chain : Chain) → belongs chain row ≡ true → Among chain ends)
    → stored (stores_of (length rs) ends) (words_of rs) ++ row_words (rs ++ row ∷ []) (length rs) row [] ≡ words_of (rs ++ row ∷ []))
    (sym h.begins)
    (λ others all among. pushed h.dataset h.supervoxels h.chunks h.rest row others ends all among)

-- which chains each kind of record belongs to
supervoxel_alone : (v : ℕ) (chain : Chain) → belongs chain (SupervoxelRow v) ≡ false
unfolding belongs edge_at version_of child_of node_in
supervoxel_alone v (EdgesOf u) = refl
supervoxel_alone v (VersionsOf id) = refl
supervoxel_alone v (ChildrenOf id) = refl
supervoxel_alone v (NodesIn c) = refl

chunk_alone : (k : ℕ) (chain : Chain) → belongs chain (ChunkRow k) ≡ false
unfolding belongs edge_at version_of child_of node_in
chunk_alone k (EdgesOf u) = refl
chunk_alone k (VersionsOf id) = refl
chunk_alone k (ChildrenOf id) = refl
chunk_alone k (NodesIn c) = refl

entry_alone : (x : Entry) (chain : Chain) → belongs chain (EntryRow x) ≡ false
unfolding belongs edge_at version_of child_of node_in
entry_alone x (EdgesOf u) = refl
entry_alone x (VersionsOf id) = refl
entry_alone x (ChildrenOf id) = refl
entry_alone x (NodesIn c) = refl

edge_among : (made : ℕ) (x : Edge) (i j : ℕ) (chain : Chain) → belongs chain (EdgeRow made x) ≡ true
    → Among chain (record { chain = EdgesOf x.pair.a; word = i } ∷ record { chain = EdgesOf x.pair.b; word = j } ∷ [])
unfolding belongs edge_at version_of child_of node_in
edge_among made x i j (EdgesOf u) t =
    elim (or_cases (eqb x.pair.a u) (eqb x.pair.b u) t)
    [ inl e ↦ inl (ap EdgesOf (sym (eqb-true x.pair.a u e))) | inr e ↦ inr (inl (ap EdgesOf (sym (eqb-true x.pair.b u e)))) ]
edge_among made x i j (VersionsOf id) t = absurd (false≢true t)
edge_among made x i j (ChildrenOf id) t = absurd (false≢true t)
edge_among made x i j (NodesIn c) t = absurd (false≢true t)

node_among : (n : Node) (i : ℕ) (chain : Chain) → belongs chain (NodeRow n) ≡ true → Among chain (record { chain = NodesIn n.chunk; word = i } ∷ [])
unfolding belongs edge_at version_of child_of node_in
node_among n i (EdgesOf u) t = absurd (false≢true t)
node_among n i (VersionsOf id) t = absurd (false≢true t)
node_among n i (ChildrenOf id) t = absurd (false≢true t)
node_among n i (NodesIn c) t = inl (ap NodesIn (sym (eqb-true n.chunk c t)))

link_among : (l : Link) (i j : ℕ) (chain : Chain) → belongs chain (LinkRow l) ≡ true
    → Among chain (record { chain = ChildrenOf l.parent; word = i } ∷ record { chain = VersionsOf l.child; word = j } ∷ [])
unfolding belongs edge_at version_of child_of node_in
link_among l i j (EdgesOf u) t = absurd (false≢true t)
link_among l i j (VersionsOf id) t = inr (inl (ap VersionsOf (sym (eqb-true l.child id t))))
link_among l i j (ChildrenOf id) t = inl (ap ChildrenOf (sym (eqb-true l.parent id t)))
link_among l i j (NodesIn c) t = absurd (false≢true t)

module _ (rows : List Row) (headed : IsHeaded rows) where
  -- a record that no chain has
  alone : (row : Row) → ((chain : Chain) → belongs chain row ≡ false) → ((p : ℕ) (r : Row) → slice_get rows p ≡ Some r → Leaves (length rows) row (along r) (aims r))
      → words_of rows ++ row_words (rows ++ row ∷ []) (length rows) row [] ≡ words_of (rows ++ row ∷ [])
  unfolding stored stores_of
  alone row none others = pushed_rows rows row [] headed others tt (λ chain b. absurd (false≢true (sym (none chain) ∙ b)))

  pub supervoxel_pushed : (v : ℕ) → list_any (edge_at v) rows ≡ false → list_any (version_of v) rows ≡ false
      → words_of rows ++ 2 ∷ v ∷ 0 ∷ 0 ∷ 0 ∷ 0 ∷ 0 ∷ 0 ∷ [] ≡ words_of (rows ++ SupervoxelRow v ∷ [])
  supervoxel_pushed v e f = ap (λ ws. words_of rows ++ ws) (sym (supervoxel_own rows v e f)) ∙ alone (SupervoxelRow v) (supervoxel_alone v) (λ p r h. supervoxel_leaves (length rows) v r)

  pub chunk_pushed : (k : ℕ) → list_any (node_in k) rows ≡ false → words_of rows ++ 3 ∷ k ∷ 0 ∷ 0 ∷ 0 ∷ 0 ∷ 0 ∷ 0 ∷ [] ≡ words_of (rows ++ ChunkRow k ∷ [])
  chunk_pushed k e = ap (λ ws. words_of rows ++ ws) (sym (chunk_own rows k e)) ∙ alone (ChunkRow k) (chunk_alone k) (λ p r h. chunk_leaves (length rows) k r)

  pub entry_pushed : (x : Entry) → x.number ≡ 0 → list_any is_logged rows ≡ false
      → words_of rows ++ (9 + kind_code x.asked * 2 ^ 8 + names x.asked * 2 ^ 32) ∷ x.at ∷ (x.client * 2 ^ 32 + x.line) ∷ x.number ∷ 0 ∷ 0 ∷ 0 ∷ 0 ∷ []
      ≡ words_of (rows ++ EntryRow x ∷ [])
  entry_pushed x z n =
      ap (λ ws. words_of rows ++ ws) (sym (entry_own rows x z n)) ∙ alone (EntryRow x) (entry_alone x) (λ p r h. entry_leaves (length rows) x z r (any_at is_logged rows p r n h))

  pub edge_pushed : (made : ℕ) (x : Edge) (i j : ℕ) → EndsAt (EdgesOf x.pair.a) rows i → EndsAt (EdgesOf x.pair.b) rows j → list_any (change_of x.pair) rows ≡ false
      → set (set (words_of rows) i (length rows)) j (length rows) ++ (6 + bit x.active * 2 ^ 8 + made * 2 ^ 32) ∷ x.pair.a ∷ x.pair.b ∷ strength x.weight ∷ 0 ∷ 0 ∷ 0 ∷ 0 ∷ []
      ≡ words_of (rows ++ EdgeRow made x ∷ [])
  unfolding stored stores_of belongs edge_at
  edge_pushed made x i j a b n =
      ap (λ ws. set (set (words_of rows) i (length rows)) j (length rows) ++ ws) (sym (edge_own rows made x n))
      ∙ pushed_rows rows (EdgeRow made x) (record { chain = EdgesOf x.pair.a; word = i } ∷ record { chain = EdgesOf x.pair.b; word = j } ∷ []) headed
      (λ p r h. edge_leaves (length rows) made x r (any_at (change_of x.pair) rows p r n h))
      ((a, or_left (eqb x.pair.a x.pair.a) (eqb x.pair.b x.pair.a) (eq-eqb x.pair.a x.pair.a refl)), ((b, or_right (eqb x.pair.a x.pair.b) (eqb x.pair.b x.pair.b) (eq-eqb x.pair.b x.pair.b refl)), tt))
      (edge_among made x i j)

  pub node_pushed : (n : Node) (i : ℕ) → EndsAt (NodesIn n.chunk) rows i → list_any (child_of n.id) rows ≡ false → list_any (version_of n.id) rows ≡ false → list_any (retires n) rows ≡ false
      → set (words_of rows) i (length rows) ++ 4 ∷ n.id ∷ head_or 0 n.leaves ∷ n.made ∷ 0 ∷ 0 ∷ 0 ∷ 0 ∷ [] ≡ words_of (rows ++ NodeRow n ∷ [])
  unfolding stored stores_of belongs node_in
  node_pushed n i a e f g =
      ap (λ ws. set (words_of rows) i (length rows) ++ ws) (sym (node_own rows n e f g))
      ∙ pushed_rows rows (NodeRow n) (record { chain = NodesIn n.chunk; word = i } ∷ []) headed
      (λ p r h. node_leaves (length rows) n r (any_at (child_of n.id) rows p r e h))
      ((a, eq-eqb n.chunk n.chunk refl), tt)
      (node_among n i)

  pub link_pushed : (l : Link) (i j : ℕ) → EndsAt (ChildrenOf l.parent) rows i → EndsAt (VersionsOf l.child) rows j
      → set (set (words_of rows) i (length rows)) j (length rows) ++ 5 ∷ l.child ∷ place_from (has_id l.child) 0 rows ∷ l.entry ∷ place_from (is_node l.parent) 0 rows ∷ 0 ∷ 0 ∷ 0 ∷ []
      ≡ words_of (rows ++ LinkRow l ∷ [])
  unfolding stored stores_of belongs child_of version_of
  link_pushed l i j a b =
      ap (λ ws. set (set (words_of rows) i (length rows)) j (length rows) ++ ws) (sym (link_own rows l))
      ∙ pushed_rows rows (LinkRow l) (record { chain = ChildrenOf l.parent; word = i } ∷ record { chain = VersionsOf l.child; word = j } ∷ []) headed
      (λ p r h. link_leaves (length rows) l r)
      ((a, eq-eqb l.parent l.parent refl), ((b, eq-eqb l.child l.child refl), tt))
      (link_among l i j)

-- the header alone
pub header_pushed : (d : Dataset) (supervoxels chunks : ℕ) → layout_word d.layout ∷ grid_word d.grid ∷ (supervoxels + chunks * 2 ^ 32) ∷ d.merge_affinity ∷ 0 ∷ 0 ∷ 0 ∷ 0 ∷ [] ≡ words_of (HeaderRow d supervoxels chunks ∷ [])
unfolding words_of words_from row_words fixed_words aims pointer_word
header_pushed d supervoxels chunks = refl

-- The same of words that code has made step by step.
module _ (rows : List Row) (headed : IsHeaded rows) (words : List ℕ) (image : words ≡ words_of rows) where
  pub supervoxel_stored : (v : ℕ) (after : List ℕ) → after ≡ words ++ 2 ∷ v ∷ 0 ∷ 0 ∷ 0 ∷ 0 ∷ 0 ∷ 0 ∷ [] → HasNone (EdgesOf v) rows → HasNone (VersionsOf v) rows
      → after ≡ words_of (rows ++ SupervoxelRow v ∷ [])
  unfolding belongs
  supervoxel_stored v after p e f = p ∙ (ap (λ ws. ws ++ 2 ∷ v ∷ 0 ∷ 0 ∷ 0 ∷ 0 ∷ 0 ∷ 0 ∷ []) image ∙ supervoxel_pushed rows headed v e f)

  pub chunk_stored : (k : ℕ) (after : List ℕ) → after ≡ words ++ 3 ∷ k ∷ 0 ∷ 0 ∷ 0 ∷ 0 ∷ 0 ∷ 0 ∷ [] → HasNone (NodesIn k) rows → after ≡ words_of (rows ++ ChunkRow k ∷ [])
  unfolding belongs
  chunk_stored k after p e = p ∙ (ap (λ ws. ws ++ 3 ∷ k ∷ 0 ∷ 0 ∷ 0 ∷ 0 ∷ 0 ∷ 0 ∷ []) image ∙ chunk_pushed rows headed k e)

  pub entry_stored : (x : Entry) (at : ℕ) (after : List ℕ) → after ≡ words ++ 9 ∷ at ∷ 0 ∷ 0 ∷ 0 ∷ 0 ∷ 0 ∷ 0 ∷ [] → IsIngest x at → IsFalse (list_any is_logged rows)
      → after ≡ words_of (rows ++ EntryRow x ∷ [])
  unfolding kind_code names
  entry_stored x at after p is n = p ∙ (ap₂ (λ ws row. ws ++ row) image own ∙ entry_pushed rows headed x is.0 n)
    where
      own : 9 ∷ at ∷ 0 ∷ 0 ∷ 0 ∷ 0 ∷ 0 ∷ 0 ∷ [] ≡ (9 + kind_code x.asked * 2 ^ 8 + names x.asked * 2 ^ 32) ∷ x.at ∷ (x.client * 2 ^ 32 + x.line) ∷ x.number ∷ 0 ∷ 0 ∷ 0 ∷ 0 ∷ []
      own = rw (is.0, is.1, is.2, is.3, is.4) refl

  module _ (place : ℕ) (last : place ≡ length rows) where
    pub edge_stored : (x : Edge) (i j first weight : ℕ) (one two after : List ℕ) → one ≡ set words i place → two ≡ set one j place
        → after ≡ two ++ first ∷ x.pair.a ∷ x.pair.b ∷ weight ∷ 0 ∷ 0 ∷ 0 ∷ 0 ∷ [] → first ≡ 6 + bit x.active * 2 ^ 8 + 0 * 2 ^ 32 → weight ≡ strength x.weight
        → EndsAt (EdgesOf x.pair.a) rows i → EndsAt (EdgesOf x.pair.b) rows j → IsFalse (list_any (change_of x.pair) rows) → after ≡ words_of (rows ++ EdgeRow 0 x ∷ [])
    edge_stored x i j first weight one two after p q r s t a b n = rw (r, q, p, image, last, s, t) (edge_pushed rows headed 0 x i j a b n)

    pub node_stored : (n : Node) (id least made i : ℕ) (one after : List ℕ) → one ≡ set words i place → after ≡ one ++ 4 ∷ id ∷ least ∷ made ∷ 0 ∷ 0 ∷ 0 ∷ 0 ∷ []
        → n.id ≡ id → head_or 0 n.leaves ≡ least → n.made ≡ made → EndsAt (NodesIn n.chunk) rows i → HasNone (ChildrenOf n.id) rows → HasNone (VersionsOf n.id) rows
        → IsFalse (list_any (retires n) rows) → after ≡ words_of (rows ++ NodeRow n ∷ [])
    unfolding belongs
    node_stored n id least made i one after p q r s t a e f g = rw (q, p, image, last, sym r, sym s, sym t) (node_pushed rows headed n i a e f g)

    pub link_stored : (l : Link) (child child_at entry parent_at i j : ℕ) (one two after : List ℕ) → one ≡ set words i place → two ≡ set one j place
        → after ≡ two ++ 5 ∷ child ∷ child_at ∷ entry ∷ parent_at ∷ 0 ∷ 0 ∷ 0 ∷ [] → l.child ≡ child → l.entry ≡ entry
        → place_from (has_id l.child) 0 rows ≡ child_at → place_from (is_node l.parent) 0 rows ≡ parent_at
        → EndsAt (ChildrenOf l.parent) rows i → EndsAt (VersionsOf l.child) rows j → after ≡ words_of (rows ++ LinkRow l ∷ [])
    link_stored l child child_at entry parent_at i j one two after p q r s t u v a b = rw (r, q, p, image, last, sym s, sym t, sym u, sym v) (link_pushed rows headed l i j a b)
