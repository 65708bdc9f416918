-- Where chains end with one more record behind: at its own next pointer where it is a member, at its first pointer where it is the owner, and where they ended before in any other case.
use Rattle.std.proofs.Common.{◌≡◌, ℕ, zero, suc, ◌+◌, ◌*◌, ◌<◌, ◌≤◌, Bool, true, false, cond, eqb, List, [], ◌∷◌, ◌++◌, length, drop, get_or, Option, Some, None, refl, sym, ◌∙◌, ap, subst, inl, inr, ◌⊎◌, arith}
use Rattle.std.specs.List.{slice_get, list_any}
use Rattle.std.proofs.lemmas.Bool.{false≢true, eqb-true, eq-eqb, or_left, or_right}
use Rattle.record_rows.specs.Rows.{Row, HeaderRow, SupervoxelRow, ChunkRow, NodeRow, LinkRow, EdgeRow, ChangeRow, ItemRow, EntryRow}
use Rattle.record_rows.specs.Chains.{Nowhere, aims, edge_at, version_of, child_of, node_in, is_node, has_id}
use Rattle.record_rows.specs.Walks.{is_supervoxel, is_chunk}
use Rattle.record_rows.specs.Words.{pointer_word, words_of}
use Rattle.record_rows.specs.Growth.{filled}
use Rattle.record_rows.proofs.GrowthLemmas.{slice_get-append}
use Rattle.record_rows.proofs.Lookups.{pointer_at}
use Rattle.row_append.specs.Ends.{Chain, belongs, owns, has_part, HasNone, IsFree, along, IsAlong, EndsAt, IsHeaded}
use Rattle.row_append.proofs.Growing.{grown_along}
use Rattle.row_append.proofs.Leaving.{or_none, any_at}

-- what leads along a chain is its owner or a member
Parts : Row → List (Option Chain) → Type 0
Parts row [] = Unit {0}
Parts row (Some c ∷ cs) = (has_part c row ≡ true) × Parts row cs
Parts row (None ∷ cs) = Parts row cs

parts : (row : Row) → Parts row (along row)
unfolding Parts along has_part owns belongs is_supervoxel is_chunk is_node has_id edge_at version_of child_of node_in
parts (HeaderRow d s c) = tt
parts (SupervoxelRow v) = (or_left (eqb v v) _ (eq-eqb v v refl), (or_left (eqb v v) _ (eq-eqb v v refl), tt))
parts (ChunkRow c) = (or_left (eqb c c) _ (eq-eqb c c refl), tt)
parts (NodeRow n) = (or_left (eqb n.id n.id) _ (eq-eqb n.id n.id refl), (or_left (eqb n.id n.id) _ (eq-eqb n.id n.id refl), (eq-eqb n.chunk n.chunk refl, tt)))
parts (LinkRow l) = (eq-eqb l.parent l.parent refl, (eq-eqb l.child l.child refl, tt))
parts (EdgeRow made e) = (or_left (eqb e.pair.a e.pair.a) _ (eq-eqb e.pair.a e.pair.a refl), (or_right _ (eqb e.pair.b e.pair.b) (eq-eqb e.pair.b e.pair.b refl), tt))
parts (ChangeRow entry c) = tt
parts (ItemRow i) = tt
parts (EntryRow e) = tt

part_at : (row : Row) (cs : List (Option Chain)) (k : ℕ) (c : Chain) → Parts row cs → get_or cs k None ≡ Some c → has_part c row ≡ true
unfolding Parts
part_at row [] k c f e = cc
part_at row (None ∷ cs) zero c f e = cc
part_at row (Some b ∷ cs) zero c f e = let q : b ≡ c = cc in subst (λ x. has_part x row ≡ true) q f.0
part_at row (None ∷ cs) (suc k) c f e = part_at row cs k c f e
part_at row (Some b ∷ cs) (suc k) c f e = part_at row cs k c f.1 e

apart : (chain : Chain) (row : Row) (k : ℕ) → has_part chain row ≡ false → get_or (along row) k None ≡ Some chain → ⊥
apart chain row k f e = false≢true (sym f ∙ part_at row (along row) k chain (parts row) e)

-- where no part of a chain stands, nothing leads along it
pub nothing_along : (chain : Chain) (rows : List Row) (i : ℕ) → IsFree chain rows → IsAlong chain rows i → ⊥
nothing_along chain rows i f a = apart chain a.row a.k (any_at (has_part chain) rows a.place a.row f a.there) a.leads

pub free_has_none : (chain : Chain) (rows : List Row) → IsFree chain rows → HasNone chain rows
unfolding has_part
free_has_none chain [] f = refl
free_has_none chain (r ∷ rows) f =
    let q : (has_part chain r ≡ false) × (list_any (has_part chain) rows ≡ false) = or_none (has_part chain r) (list_any (has_part chain) rows) f in
    rw ((or_none (owns chain r) (belongs chain r) q.0).1, free_has_none chain rows q.1) refl

got_last : (rows : List Row) (row : Row) (p : ℕ) (r : Row) → slice_get (rows ++ row ∷ []) p ≡ Some r → (slice_get rows p ≡ Some r) ⊎ ((p ≡ length rows) × (r ≡ row))
got_last [] row zero r h = inr (refl, cc)
got_last [] row (suc p) r h = cc
got_last (x ∷ rows) row zero r h = inl h
got_last (x ∷ rows) row (suc p) r h = elim (got_last rows row p r h) [ inl e ↦ inl e | inr e ↦ inr (ap suc e.0, e.1) ]

get_last : (rows : List Row) (row : Row) → slice_get (rows ++ row ∷ []) (length rows) ≡ Some row
get_last [] row = refl
get_last (x ∷ rows) row = get_last rows row

drop_all : (rows : List Row) (row : Row) → drop (length rows + 1) (rows ++ row ∷ []) ≡ []
drop_all [] row = refl
drop_all (x ∷ rows) row = let e : length (x ∷ rows) + 1 ≡ suc (length rows + 1) = omega arith in rw e (drop_all rows row)

-- a pointer of the record that stands last
own_pointer : (rows : List Row) (row : Row) (k : ℕ) → k < 4 → get_or (words_of (rows ++ row ∷ [])) (8 * length rows + (4 + k)) 0 ≡ pointer_word (rows ++ row ∷ []) (length rows) [] (get_or (aims row) k Nowhere)
own_pointer rows row k l =
    pointer_at (rows ++ row ∷ []) (length rows) k row (get_last rows row) l
    ∙ ap (λ behind. pointer_word (rows ++ row ∷ []) (length rows) behind (get_or (aims row) k Nowhere)) (drop_all rows row)

filled_not : (w tail : ℕ) → 1 ≤ tail → filled w tail ≡ 0 → ⊥
unfolding filled
filled_not w tail l = go (eqb w 0) refl
  where
    go : (b : Bool) → eqb w 0 ≡ b → cond b tail w ≡ 0 → ⊥
    go true e z = absurd (omega arith)
    go false e z = false≢true (sym e ∙ eq-eqb w 0 z)

filled_same : (w : ℕ) → filled w 0 ≡ w
unfolding filled
filled_same w = go (eqb w 0) refl
  where
    go : (b : Bool) → eqb w 0 ≡ b → cond b 0 w ≡ w
    go true e = sym (eqb-true w 0 e)
    go false e = refl

module _ (rows : List Row) (headed : IsHeaded rows) (row : Row) where
  grown : (chain : Chain) (i : ℕ) → IsAlong chain rows i → get_or (words_of (rows ++ row ∷ [])) i 0 ≡ filled (get_or (words_of rows) i 0) (cond (belongs chain row) (length rows) 0)
  grown = subst (λ rs. (chain : Chain) (i : ℕ) → IsAlong chain rs i → get_or (words_of (rs ++ row ∷ [])) i 0 ≡ filled (get_or (words_of rs) i 0) (cond (belongs chain row) (length rs) 0))
      (sym headed.begins) (grown_along headed.dataset headed.supervoxels headed.chunks headed.rest row)

  has_rows : 1 ≤ length rows
  has_rows = subst (λ rs. 1 ≤ length rs) (sym headed.begins) (omega arith)

  along_more : (chain : Chain) (i : ℕ) → IsAlong chain rows i → IsAlong chain (rows ++ row ∷ []) i
  along_more chain i a = record { place = a.place; k = a.k; row = a.row; there = slice_get-append rows (row ∷ []) a.place a.row a.there; pointer = a.pointer; leads = a.leads; number = a.number }

  OwnAlong : Chain → ℕ → Type 0
  OwnAlong chain i = (k : ℕ) × (k < 4) × (get_or (along row) k None ≡ Some chain) × (i ≡ 8 * length rows + (4 + k))

  along_less : (chain : Chain) (i : ℕ) → IsAlong chain (rows ++ row ∷ []) i → IsAlong chain rows i ⊎ OwnAlong chain i
  unfolding OwnAlong
  along_less chain i a =
      elim (got_last rows row a.place a.row a.there) [
        | inl h ↦ inl (record { place = a.place; k = a.k; row = a.row; there = h; pointer = a.pointer; leads = a.leads; number = a.number })
        | inr h ↦ inr (a.k, a.pointer, subst (λ r. get_or (along r) a.k None ≡ Some chain) h.1 a.leads, subst (λ p. i ≡ 8 * p + (4 + a.k)) h.0 a.number)
      ]

  -- the chain of which the record is no part
  pub stays : (chain : Chain) (i : ℕ) → EndsAt chain rows i → has_part chain row ≡ false → EndsAt chain (rows ++ row ∷ []) i
  unfolding has_part OwnAlong
  stays chain i e f = record { along = along_more chain i e.along; empty = same i e.along ∙ e.empty; only = one }
    where
      same : (j : ℕ) → IsAlong chain rows j → get_or (words_of (rows ++ row ∷ [])) j 0 ≡ get_or (words_of rows) j 0
      same j a = grown chain j a ∙ (ap (λ b. filled (get_or (words_of rows) j 0) (cond b (length rows) 0)) (or_none (owns chain row) (belongs chain row) f).1 ∙ filled_same (get_or (words_of rows) j 0))

      one : (j : ℕ) → IsAlong chain (rows ++ row ∷ []) j → get_or (words_of (rows ++ row ∷ [])) j 0 ≡ 0 → j ≡ i
      one j a z = elim (along_less chain j a) [ inl b ↦ e.only j b (sym (same j b) ∙ z) | inr b ↦ absurd (apart chain row b.0 f b.2) ]

  -- a chain that ends at the record
  pub ends_here : (chain : Chain) (k : ℕ) → k < 4 → get_or (along row) k None ≡ Some chain → ((j : ℕ) → get_or (along row) j None ≡ Some chain → j ≡ k)
      → pointer_word (rows ++ row ∷ []) (length rows) [] (get_or (aims row) k Nowhere) ≡ 0 → ((i : ℕ) → IsAlong chain rows i → get_or (words_of (rows ++ row ∷ [])) i 0 ≡ 0 → ⊥)
      → EndsAt chain (rows ++ row ∷ []) (8 * length rows + (4 + k))
  unfolding OwnAlong
  ends_here chain k l e only z older = record {
    along = record { place = length rows; k = k; row = row; there = get_last rows row; pointer = l; leads = e; number = refl };
    empty = own_pointer rows row k l ∙ z;
    only = one;
  }
    where
      one : (j : ℕ) → IsAlong chain (rows ++ row ∷ []) j → get_or (words_of (rows ++ row ∷ [])) j 0 ≡ 0 → j ≡ 8 * length rows + (4 + k)
      one j a w = elim (along_less chain j a) [ inl b ↦ absurd (older j b w) | inr b ↦ b.3 ∙ ap (λ m. 8 * length rows + (4 + m)) (only b.0 b.2) ]

  -- with a member behind, no older pointer along the chain is empty
  pub older_filled : (chain : Chain) → belongs chain row ≡ true → (i : ℕ) → IsAlong chain rows i → get_or (words_of (rows ++ row ∷ [])) i 0 ≡ 0 → ⊥
  older_filled chain b i a z =
      filled_not (get_or (words_of rows) i 0) (length rows) has_rows (ap (λ t. filled (get_or (words_of rows) i 0) (cond t (length rows) 0)) (sym b) ∙ (sym (grown chain i a) ∙ z))
