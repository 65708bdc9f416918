-- Where the chains of each kind end once one of their records is behind the others.
use Rattle.std.proofs.Common.{◌≡◌, arith, ◌<◌, ℕ, zero, suc, ◌+◌, ◌*◌, true, false, eqb, List, [], ◌∷◌, ◌++◌, length, get_or, Option, Some, None, refl, sym, ap}
use Rattle.std.specs.List.{list_any}
use Rattle.std.proofs.lemmas.Bool.{eq-eqb, or_left, or_right}
use Rattle.record_rows.specs.Rows.{Row, SupervoxelRow, ChunkRow, NodeRow, LinkRow, EdgeRow}
use Rattle.record_rows.specs.Chains.{Nowhere, aims, edge_at, version_of, child_of, node_in}
use Rattle.record_rows.specs.Words.{place_from, pointer_word}
use Rattle.row_append.specs.Ends.{Chain, EdgesOf, VersionsOf, ChildrenOf, NodesIn, belongs, has_part, HasNone, IsFree, along, EndsAt, IsHeaded}
use Rattle.row_append.specs.Laws.{EndsStay, SupervoxelsBegin, ChunksBegin, NodesBegin, EdgesEnd, NodesEnd, LinksEnd, FreeStays, FreeHasNone, HeadersStay}
use Rattle.row_append.proofs.Leaving.{or_none, still_none}
use Rattle.row_append.proofs.Moving.{stays, ends_here, older_filled, nothing_along, free_has_none}

pub ends_stay : EndsStay
ends_stay rows row chain word h e f = stays rows h row chain word e f

-- which of the four pointers leads along a chain
at_one : (a b c d : Option Chain) (chain : Chain) (k : ℕ) → (a ≡ Some chain → 0 ≡ k) → (b ≡ Some chain → 1 ≡ k) → (c ≡ Some chain → 2 ≡ k) → (d ≡ Some chain → 3 ≡ k)
    → (j : ℕ) → get_or (a ∷ b ∷ c ∷ d ∷ []) j None ≡ Some chain → j ≡ k
at_one a b c d chain k f g h i zero e = f e
at_one a b c d chain k f g h i (suc zero) e = g e
at_one a b c d chain k f g h i (suc (suc zero)) e = h e
at_one a b c d chain k f g h i (suc (suc (suc zero))) e = i e
at_one a b c d chain k f g h i (suc (suc (suc (suc j)))) e = cc

module _ (rows : List Row) (headed : IsHeaded rows) where
  -- a chain that is free ends at the record which is its owner
  begins : (row : Row) (chain : Chain) (k : ℕ) → k < 4 → IsFree chain rows → get_or (along row) k None ≡ Some chain → ((j : ℕ) → get_or (along row) j None ≡ Some chain → j ≡ k)
      → (HasNone chain rows → pointer_word (rows ++ row ∷ []) (length rows) [] (get_or (aims row) k Nowhere) ≡ 0) → EndsAt chain (rows ++ row ∷ []) (8 * length rows + (4 + k))
  begins row chain k l f e only z = ends_here rows headed row chain k l e only (z (free_has_none chain rows f)) (λ i a w. nothing_along chain rows i f a)

  -- a chain ends at its new member
  joins : (row : Row) (chain : Chain) (k : ℕ) → k < 4 → belongs chain row ≡ true → get_or (along row) k None ≡ Some chain → ((j : ℕ) → get_or (along row) j None ≡ Some chain → j ≡ k)
      → pointer_word (rows ++ row ∷ []) (length rows) [] (get_or (aims row) k Nowhere) ≡ 0 → EndsAt chain (rows ++ row ∷ []) (8 * length rows + (4 + k))
  joins row chain k l b e only z = ends_here rows headed row chain k l e only z (older_filled rows headed row chain b)

pub supervoxels_begin : SupervoxelsBegin
unfolding along aims pointer_word belongs edge_at version_of
supervoxels_begin rows v h = (
  λ f. begins rows h (SupervoxelRow v) (EdgesOf v) 0 (omega arith) f refl
      (at_one _ _ _ _ (EdgesOf v) 0 (λ e. refl) (λ e. cc) (λ e. cc) (λ e. cc)) (λ n. still_none (edge_at v) rows (SupervoxelRow v) n refl),
  λ f. begins rows h (SupervoxelRow v) (VersionsOf v) 1 (omega arith) f refl
      (at_one _ _ _ _ (VersionsOf v) 1 (λ e. cc) (λ e. refl) (λ e. cc) (λ e. cc)) (λ n. still_none (version_of v) rows (SupervoxelRow v) n refl),
)

pub chunks_begin : ChunksBegin
unfolding along aims pointer_word belongs node_in
chunks_begin rows c h f =
    begins rows h (ChunkRow c) (NodesIn c) 0 (omega arith) f refl
    (at_one _ _ _ _ (NodesIn c) 0 (λ e. refl) (λ e. cc) (λ e. cc) (λ e. cc)) (λ n. still_none (node_in c) rows (ChunkRow c) n refl)

pub nodes_begin : NodesBegin
unfolding along aims pointer_word belongs child_of version_of
nodes_begin rows n h = (
  λ f. begins rows h (NodeRow n) (ChildrenOf n.id) 0 (omega arith) f refl
      (at_one _ _ _ _ (ChildrenOf n.id) 0 (λ e. refl) (λ e. cc) (λ e. cc) (λ e. cc)) (λ m. still_none (child_of n.id) rows (NodeRow n) m refl),
  λ f. begins rows h (NodeRow n) (VersionsOf n.id) 1 (omega arith) f refl
      (at_one _ _ _ _ (VersionsOf n.id) 1 (λ e. cc) (λ e. refl) (λ e. cc) (λ e. cc)) (λ m. still_none (version_of n.id) rows (NodeRow n) m refl),
)

pub edges_end : EdgesEnd
unfolding along aims pointer_word place_from belongs edge_at
edges_end rows made x h n = (
  joins rows h (EdgeRow made x) (EdgesOf x.pair.a) 1 (omega arith) (or_left _ (eqb x.pair.b x.pair.a) (eq-eqb x.pair.a x.pair.a refl)) refl
      (at_one _ _ _ _ (EdgesOf x.pair.a) 1 (λ e. cc) (λ e. refl) (λ e. absurd (n (let q : x.pair.b ≡ x.pair.a = cc in sym q))) (λ e. cc)) refl,
  joins rows h (EdgeRow made x) (EdgesOf x.pair.b) 2 (omega arith) (or_right (eqb x.pair.a x.pair.b) _ (eq-eqb x.pair.b x.pair.b refl)) refl
      (at_one _ _ _ _ (EdgesOf x.pair.b) 2 (λ e. cc) (λ e. absurd (n (let q : x.pair.a ≡ x.pair.b = cc in q))) (λ e. refl) (λ e. cc)) refl,
)

pub nodes_end : NodesEnd
unfolding along aims pointer_word place_from belongs node_in
nodes_end rows n h =
    joins rows h (NodeRow n) (NodesIn n.chunk) 3 (omega arith) (eq-eqb n.chunk n.chunk refl) refl
    (at_one _ _ _ _ (NodesIn n.chunk) 3 (λ e. cc) (λ e. cc) (λ e. cc) (λ e. refl)) refl

pub links_end : LinksEnd
unfolding along aims pointer_word place_from belongs child_of version_of
links_end rows l h = (
  joins rows h (LinkRow l) (ChildrenOf l.parent) 1 (omega arith) (eq-eqb l.parent l.parent refl) refl
      (at_one _ _ _ _ (ChildrenOf l.parent) 1 (λ e. cc) (λ e. refl) (λ e. cc) (λ e. cc)) refl,
  joins rows h (LinkRow l) (VersionsOf l.child) 2 (omega arith) (eq-eqb l.child l.child refl) refl
      (at_one _ _ _ _ (VersionsOf l.child) 2 (λ e. cc) (λ e. cc) (λ e. refl) (λ e. cc)) refl,
)

pub free_stays : FreeStays
free_stays [] row chain f e = rw e refl
free_stays (r ∷ rows) row chain f e =
    let q : (has_part chain r ≡ false) × (list_any (has_part chain) rows ≡ false) = or_none (has_part chain r) (list_any (has_part chain) rows) f in
    rw (q.0, free_stays rows row chain q.1 e) refl

pub has_none : FreeHasNone
has_none rows chain f = free_has_none chain rows f

pub headers_stay : HeadersStay
headers_stay rows more h = record { dataset = h.dataset; supervoxels = h.supervoxels; chunks = h.chunks; rest = h.rest ++ more; begins = ap (λ rs. rs ++ more) h.begins }
