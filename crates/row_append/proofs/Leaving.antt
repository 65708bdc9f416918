-- What each kind of new record leaves empty: the pointers of earlier records that lead along none of the growing chains, and its own where no earlier record is there to lead to.
use Rattle.std.proofs.Common.{◌≡◌, ℕ, zero, suc, ◌+◌, ◌*◌, ◌^◌, Bool, true, false, cond, ◌||◌, ◌&&◌, eqb, List, [], ◌∷◌, ◌++◌, length, map, Some, refl, sym, ◌∙◌, ap, subst}
use Rattle.std.specs.List.{slice_get, list_any}
use Rattle.std.proofs.lemmas.Bool.{false≢true, eqb-false, ne_eqb}
use Rattle.std.proofs.Math.Dec.{leb-suc-zero}
use Rattle.std.proofs.Math.Seq.{take-append_seam}
use Rattle.op_model.specs.declared.base.Pair.{Pair}
use Rattle.op_model.specs.declared.base.Edge.{Edge}
use Rattle.op_model.specs.declared.entry.Entry.{Entry}
use Rattle.op_model.specs.Edges.{same_pair}
use Rattle.op_model.specs.Lists.{head_or}
use Rattle.record_rows.specs.Rows.{Row, HeaderRow, SupervoxelRow, ChunkRow, NodeRow, LinkRow, EdgeRow, ChangeRow, ItemRow, EntryRow, Node, Link}
use Rattle.record_rows.specs.Chains.{aims, edge_at, version_of, child_of, node_in, is_node, has_id, is_edge, change_of, change_in, item_in, entry_before, retires}
use Rattle.record_rows.specs.Words.{place_from, fixed_words, pointer_word, row_words, bit, strength, kind_code, names}
use Rattle.record_rows.specs.Growth.{new_place}
use Rattle.row_append.specs.Ends.{along, is_logged}
use Rattle.row_append.proofs.Growing.{Leaves}

pub or_none : (a b : Bool) → (a || b) ≡ false → (a ≡ false) × (b ≡ false)
or_none true b e = absurd (false≢true (sym e))
or_none false b e = (refl, e)

-- a test that no record passes
pub any_at : (test : Row → Bool) (rows : List Row) (p : ℕ) (row : Row) → list_any test rows ≡ false → slice_get rows p ≡ Some row → test row ≡ false
any_at test [] p row n h = cc
any_at test (r ∷ rows) zero row n h = let q : r ≡ row = cc in subst (λ x. test x ≡ false) q (or_none (test r) (list_any test rows) n).0
any_at test (r ∷ rows) (suc p) row n h = any_at test rows p row (or_none (test r) (list_any test rows) n).1 h

-- a search that the record behind doesn't pass finds what it found
pub place_kept : (test : Row → Bool) (place : ℕ) (rows : List Row) (row : Row) → test row ≡ false → place_from test place (rows ++ row ∷ []) ≡ place_from test place rows
unfolding place_from
place_kept test place [] row e = rw e refl
place_kept test place (r ∷ rows) row e = ap (cond (test r) place) (place_kept test (place + 1) rows row e)

pub place_none : (test : Row → Bool) (place : ℕ) (rows : List Row) → list_any test rows ≡ false → place_from test place rows ≡ 0
unfolding place_from
place_none test place [] n = refl
place_none test place (r ∷ rows) n =
    let q : (test r ≡ false) × (list_any test rows ≡ false) = or_none (test r) (list_any test rows) n in
    rw (q.0, place_none test (place + 1) rows q.1) refl

pub still_none : (test : Row → Bool) (rows : List Row) (row : Row) → list_any test rows ≡ false → test row ≡ false → place_from test 0 (rows ++ row ∷ []) ≡ 0
still_none test rows row n e = place_kept test 0 rows row e ∙ place_none test 0 rows n

eqb_turned : (a b : ℕ) → eqb a b ≡ false → eqb b a ≡ false
eqb_turned a b e = ne_eqb b a (λ q. eqb-false a b e (sym q))

same_turned : (p q : Pair) → same_pair p q ≡ false → same_pair q p ≡ false
unfolding same_pair
same_turned p q e = go (eqb p.a q.a) refl e
  where
    go : (t : Bool) → eqb p.a q.a ≡ t → (t && eqb p.b q.b) ≡ false → (eqb q.a p.a && eqb q.b p.b) ≡ false
    go true f e = let g : eqb q.b p.b ≡ false = eqb_turned p.b q.b e in and_right (eqb q.a p.a) (eqb q.b p.b) g
      where
        and_right : (a b : Bool) → b ≡ false → (a && b) ≡ false
        and_right true b e = e
        and_right false b e = refl
    go false f e = let g : eqb q.a p.a ≡ false = eqb_turned p.a q.a f in rw g refl

module _ (tail : ℕ) where
  pub supervoxel_leaves : (v : ℕ) (r : Row) → Leaves tail (SupervoxelRow v) (along r) (aims r)
  unfolding along aims new_place place_from retires is_node change_of is_edge change_in item_in entry_before
  supervoxel_leaves v (HeaderRow d s c) = (refl, (refl, (refl, (refl, tt))))
  supervoxel_leaves v (SupervoxelRow u) = (refl, (refl, tt))
  supervoxel_leaves v (ChunkRow c) = (refl, (refl, (refl, tt)))
  supervoxel_leaves v (NodeRow n) = (refl, tt)
  supervoxel_leaves v (LinkRow l) = (refl, (refl, tt))
  supervoxel_leaves v (EdgeRow made e) = (refl, (refl, tt))
  supervoxel_leaves v (ChangeRow entry c) = (refl, (refl, (refl, (refl, tt))))
  supervoxel_leaves v (ItemRow i) = (refl, (refl, (refl, (refl, tt))))
  supervoxel_leaves v (EntryRow e) = (refl, (refl, (refl, (refl, tt))))

  pub chunk_leaves : (k : ℕ) (r : Row) → Leaves tail (ChunkRow k) (along r) (aims r)
  unfolding along aims new_place place_from retires is_node change_of is_edge change_in item_in entry_before
  chunk_leaves k (HeaderRow d s c) = (refl, (refl, (refl, (refl, tt))))
  chunk_leaves k (SupervoxelRow u) = (refl, (refl, tt))
  chunk_leaves k (ChunkRow c) = (refl, (refl, (refl, tt)))
  chunk_leaves k (NodeRow n) = (refl, tt)
  chunk_leaves k (LinkRow l) = (refl, (refl, tt))
  chunk_leaves k (EdgeRow made e) = (refl, (refl, tt))
  chunk_leaves k (ChangeRow entry c) = (refl, (refl, (refl, (refl, tt))))
  chunk_leaves k (ItemRow i) = (refl, (refl, (refl, (refl, tt))))
  chunk_leaves k (EntryRow e) = (refl, (refl, (refl, (refl, tt))))

  pub link_leaves : (l : Link) (r : Row) → Leaves tail (LinkRow l) (along r) (aims r)
  unfolding along aims new_place place_from retires is_node change_of is_edge change_in item_in entry_before
  link_leaves l (HeaderRow d s c) = (refl, (refl, (refl, (refl, tt))))
  link_leaves l (SupervoxelRow u) = (refl, (refl, tt))
  link_leaves l (ChunkRow c) = (refl, (refl, (refl, tt)))
  link_leaves l (NodeRow n) = (refl, tt)
  link_leaves l (LinkRow m) = (refl, (refl, tt))
  link_leaves l (EdgeRow made e) = (refl, (refl, tt))
  link_leaves l (ChangeRow entry c) = (refl, (refl, (refl, (refl, tt))))
  link_leaves l (ItemRow i) = (refl, (refl, (refl, (refl, tt))))
  link_leaves l (EntryRow e) = (refl, (refl, (refl, (refl, tt))))

  pub edge_leaves : (first : ℕ) (x : Edge) (r : Row) → change_of x.pair r ≡ false → Leaves tail (EdgeRow first x) (along r) (aims r)
  unfolding along aims new_place place_from retires is_node change_of is_edge change_in item_in entry_before
  edge_leaves first x (HeaderRow d s c) n = (refl, (refl, (refl, (refl, tt))))
  edge_leaves first x (SupervoxelRow u) n = (refl, (refl, tt))
  edge_leaves first x (ChunkRow c) n = (refl, (refl, (refl, tt)))
  edge_leaves first x (NodeRow m) n = (refl, tt)
  edge_leaves first x (LinkRow l) n = (refl, (refl, tt))
  edge_leaves first x (EdgeRow made e) n = (refl, (refl, tt))
  edge_leaves first x (ChangeRow entry c) n = (rw (same_turned c.pair x.pair n) refl, (refl, (refl, (refl, tt))))
  edge_leaves first x (ItemRow i) n = (refl, (refl, (refl, (refl, tt))))
  edge_leaves first x (EntryRow e) n = (refl, (refl, (refl, (refl, tt))))

  pub node_leaves : (x : Node) (r : Row) → child_of x.id r ≡ false → Leaves tail (NodeRow x) (along r) (aims r)
  unfolding along aims new_place place_from retires is_node child_of change_of is_edge change_in item_in entry_before
  node_leaves x (HeaderRow d s c) n = (refl, (refl, (refl, (refl, tt))))
  node_leaves x (SupervoxelRow u) n = (refl, (refl, tt))
  node_leaves x (ChunkRow c) n = (refl, (refl, (refl, tt)))
  node_leaves x (NodeRow m) n = (refl, tt)
  node_leaves x (LinkRow l) n = (rw (eqb_turned l.parent x.id n) refl, (refl, tt))
  node_leaves x (EdgeRow made e) n = (refl, (refl, tt))
  node_leaves x (ChangeRow entry c) n = (refl, (refl, (refl, (refl, tt))))
  node_leaves x (ItemRow i) n = (refl, (refl, (refl, (refl, tt))))
  node_leaves x (EntryRow e) n = (refl, (refl, (refl, (refl, tt))))

  pub entry_leaves : (x : Entry) → x.number ≡ 0 → (r : Row) → is_logged r ≡ false → Leaves tail (EntryRow x) (along r) (aims r)
  unfolding along aims new_place place_from retires is_node change_of is_edge change_in item_in entry_before is_logged
  entry_leaves x z (HeaderRow d s c) n = (refl, (refl, (refl, (refl, tt))))
  entry_leaves x z (SupervoxelRow u) n = (refl, (refl, tt))
  entry_leaves x z (ChunkRow c) n = (refl, (refl, (refl, tt)))
  entry_leaves x z (NodeRow m) n = (rw (z, leb-suc-zero m.made) refl, tt)
  entry_leaves x z (LinkRow l) n = (refl, (refl, tt))
  entry_leaves x z (EdgeRow made e) n = (refl, (refl, tt))
  entry_leaves x z (ChangeRow entry c) n = absurd (false≢true (sym n))
  entry_leaves x z (ItemRow i) n = absurd (false≢true (sym n))
  entry_leaves x z (EntryRow e) n = absurd (false≢true (sym n))

-- what no change, item or entry passes
abbrev Unlogged : Row → Type 0
Unlogged r =
    ((n : ℕ) → item_in n r ≡ false) × (((n : ℕ) → change_in n r ≡ false) × (((n : ℕ) → entry_before n r ≡ false)
    × (((n : Node) → retires n r ≡ false) × ((p : Pair) → change_of p r ≡ false))))

pub unlogged_row : (r : Row) → is_logged r ≡ false → Unlogged r
unfolding is_logged item_in change_in entry_before retires change_of
unlogged_row (HeaderRow d s c) e = ((λ n. refl), ((λ n. refl), ((λ n. refl), ((λ n. refl), (λ p. refl)))))
unlogged_row (SupervoxelRow v) e = ((λ n. refl), ((λ n. refl), ((λ n. refl), ((λ n. refl), (λ p. refl)))))
unlogged_row (ChunkRow c) e = ((λ n. refl), ((λ n. refl), ((λ n. refl), ((λ n. refl), (λ p. refl)))))
unlogged_row (NodeRow m) e = ((λ n. refl), ((λ n. refl), ((λ n. refl), ((λ n. refl), (λ p. refl)))))
unlogged_row (LinkRow l) e = ((λ n. refl), ((λ n. refl), ((λ n. refl), ((λ n. refl), (λ p. refl)))))
unlogged_row (EdgeRow made x) e = ((λ n. refl), ((λ n. refl), ((λ n. refl), ((λ n. refl), (λ p. refl)))))
unlogged_row (ChangeRow entry c) e = absurd (false≢true (sym e))
unlogged_row (ItemRow i) e = absurd (false≢true (sym e))
unlogged_row (EntryRow x) e = absurd (false≢true (sym e))

-- where no change, item or entry stands, a test that only these pass has none
pub unlogged : (rows : List Row) → list_any is_logged rows ≡ false → (test : Row → Bool) → ((r : Row) → is_logged r ≡ false → test r ≡ false) → list_any test rows ≡ false
unlogged [] n test f = refl
unlogged (r ∷ rows) n test f =
    let q : (is_logged r ≡ false) × (list_any is_logged rows ≡ false) = or_none (is_logged r) (list_any is_logged rows) n in
    rw (f r q.0) (unlogged rows q.1 test f)

-- the words of a record that stands last
pub own : (rows : List Row) (row : Row) → row_words (rows ++ row ∷ []) (length rows) row [] ≡ fixed_words rows row ++ map (pointer_word (rows ++ row ∷ []) (length rows) []) (aims row)
unfolding row_words
own rows row = ap (λ before. fixed_words before row ++ map (pointer_word (rows ++ row ∷ []) (length rows) []) (aims row)) (take-append_seam rows (row ∷ []))

four : (a b c d x y z w x' y' z' w' : ℕ) → x ≡ x' → y ≡ y' → z ≡ z' → w ≡ w' → (a ∷ b ∷ c ∷ d ∷ x ∷ y ∷ z ∷ w ∷ []) ≡ (a ∷ b ∷ c ∷ d ∷ x' ∷ y' ∷ z' ∷ w' ∷ [])
four a b c d x y z w x' y' z' w' e f g h = rw (e, f, g, h) refl

module _ (rows : List Row) where
  pub supervoxel_own : (v : ℕ) → list_any (edge_at v) rows ≡ false → list_any (version_of v) rows ≡ false
      → row_words (rows ++ SupervoxelRow v ∷ []) (length rows) (SupervoxelRow v) [] ≡ 2 ∷ v ∷ 0 ∷ 0 ∷ 0 ∷ 0 ∷ 0 ∷ 0 ∷ []
  unfolding aims fixed_words pointer_word edge_at version_of
  supervoxel_own v e f = own rows (SupervoxelRow v) ∙ four 2 v 0 0 _ _ _ _ 0 0 0 0 (still_none (edge_at v) rows (SupervoxelRow v) e refl) (still_none (version_of v) rows (SupervoxelRow v) f refl) refl refl

  pub chunk_own : (c : ℕ) → list_any (node_in c) rows ≡ false
      → row_words (rows ++ ChunkRow c ∷ []) (length rows) (ChunkRow c) [] ≡ 3 ∷ c ∷ 0 ∷ 0 ∷ 0 ∷ 0 ∷ 0 ∷ 0 ∷ []
  unfolding aims fixed_words pointer_word node_in
  chunk_own c e = own rows (ChunkRow c) ∙ four 3 c 0 0 _ _ _ _ 0 0 0 0 (still_none (node_in c) rows (ChunkRow c) e refl) refl refl refl

  pub edge_own : (made : ℕ) (e : Edge) → list_any (change_of e.pair) rows ≡ false
      → row_words (rows ++ EdgeRow made e ∷ []) (length rows) (EdgeRow made e) [] ≡ (6 + bit e.active * 2 ^ 8 + made * 2 ^ 32) ∷ e.pair.a ∷ e.pair.b ∷ strength e.weight ∷ 0 ∷ 0 ∷ 0 ∷ 0 ∷ []
  unfolding aims fixed_words pointer_word place_from change_of
  edge_own made e n = own rows (EdgeRow made e) ∙ four _ _ _ _ _ _ _ _ 0 0 0 0 (still_none (change_of e.pair) rows (EdgeRow made e) n refl) refl refl refl

  pub node_own : (n : Node) → list_any (child_of n.id) rows ≡ false → list_any (version_of n.id) rows ≡ false → list_any (retires n) rows ≡ false
      → row_words (rows ++ NodeRow n ∷ []) (length rows) (NodeRow n) [] ≡ 4 ∷ n.id ∷ head_or 0 n.leaves ∷ n.made ∷ 0 ∷ 0 ∷ 0 ∷ 0 ∷ []
  unfolding aims fixed_words pointer_word place_from child_of version_of retires
  node_own n e f g = own rows (NodeRow n) ∙ four _ _ _ _ _ _ _ _ 0 0 0 0 (still_none (child_of n.id) rows (NodeRow n) e refl) (still_none (version_of n.id) rows (NodeRow n) f refl) (still_none (retires n) rows (NodeRow n) g refl) refl

  pub link_own : (l : Link)
      → row_words (rows ++ LinkRow l ∷ []) (length rows) (LinkRow l) [] ≡ 5 ∷ l.child ∷ place_from (has_id l.child) 0 rows ∷ l.entry ∷ place_from (is_node l.parent) 0 rows ∷ 0 ∷ 0 ∷ 0 ∷ []
  unfolding aims fixed_words pointer_word place_from is_node
  link_own l = own rows (LinkRow l) ∙ four _ _ _ _ _ _ _ _ _ 0 0 0 (place_kept (is_node l.parent) 0 rows (LinkRow l) refl) refl refl refl

  pub entry_own : (x : Entry) → x.number ≡ 0 → list_any is_logged rows ≡ false
      → row_words (rows ++ EntryRow x ∷ []) (length rows) (EntryRow x) []
      ≡ (9 + kind_code x.asked * 2 ^ 8 + names x.asked * 2 ^ 32) ∷ x.at ∷ (x.client * 2 ^ 32 + x.line) ∷ x.number ∷ 0 ∷ 0 ∷ 0 ∷ 0 ∷ []
  unfolding aims fixed_words pointer_word place_from item_in change_in entry_before
  entry_own x z n = own rows (EntryRow x) ∙ four _ _ _ _ _ _ _ _ 0 0 0 0
      (still_none (item_in x.number) rows (EntryRow x) (unlogged rows n (item_in x.number) (λ r e. (unlogged_row r e).0 x.number)) refl)
      (still_none (change_in x.number) rows (EntryRow x) (unlogged rows n (change_in x.number) (λ r e. (unlogged_row r e).1.0 x.number)) refl)
      (still_none (entry_before x.number) rows (EntryRow x) (unlogged rows n (entry_before x.number) (λ r e. (unlogged_row r e).1.1.0 x.number)) never)
      refl
    where
      never : entry_before x.number (EntryRow x) ≡ false
      never = rw z (ne_eqb (0 + 1) 0 (λ q. cc))
