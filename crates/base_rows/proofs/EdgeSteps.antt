-- The ends of the supervoxels' edges, before the first edge and with one more.
use Rattle.std.proofs.Common.{◌≡◌, ℕ, ◌+◌, ◌*◌, ◌<◌, ◌⊎◌, inl, inr, true, false, eqb, List, [], ◌∷◌, ◌++◌, length, map, get_or, set, refl, sym, ◌∙◌, ap, subst, arith}
use Rattle.std.proofs.lemmas.List.{get_or-set_same, get_or-set_other, length-set}
use Rattle.std.proofs.lemmas.Bool.{cases_Bool, eqb-true, eqb-false, ne_eqb}
use Rattle.op_model.specs.declared.base.Dataset.{Dataset}
use Rattle.record_rows.specs.Rows.{Row, HeaderRow, SupervoxelRow, ChunkRow, EdgeRow}
use Rattle.record_rows.specs.Chains.{edge_at}
use Rattle.record_rows.specs.Walks.{is_supervoxel}
use Rattle.record_rows.specs.Words.{words_of}
use Rattle.row_append.specs.Ends.{EdgesOf, owns, belongs, has_part, EndsAt, is_logged}
use Rattle.row_append.specs.Tails.{word_number}
use Rattle.row_append.specs.declared.tail.Tail.{Tail}
use Rattle.row_append.proofs.EndLaws.{headers_stay, supervoxels_begin, edges_end}
use Rattle.base_rows.specs.declared.lists.BaseEdge.{BaseEdge}
use Rattle.base_rows.specs.Lists.{IsOnce, IsPlaced}
use Rattle.base_rows.specs.BaseRows.{owner_rows}
use Rattle.base_rows.specs.States.{tails_from, AreRows, Edging}
use Rattle.base_rows.proofs.Passing.{NonePass, none_both, none_map, headed}
use Rattle.base_rows.proofs.TailLists.{length-tails_from, tail_at, tails_told}
use Rattle.base_rows.proofs.Begun.{begun}

-- the records with one more that is no part of an entry
pub rows_more : (rows : List Row) (old new : List ℕ) (row : Row) → AreRows rows old → is_logged row ≡ false → new ≡ words_of (rows ++ row ∷ []) → AreRows (rows ++ row ∷ []) new
rows_more rows old new row a u w = record {
  headed = headers_stay rows (row ∷ []) a.headed;
  stand = w;
  unlogged = none_both is_logged rows (row ∷ []) a.unlogged (rw u refl);
}

-- an edge is part of the chains of its ends alone
edge_apart : (u made : ℕ) (x : BaseEdge) → (x.edge.pair.a ≡ u → ⊥) → (x.edge.pair.b ≡ u → ⊥) → has_part (EdgesOf u) (EdgeRow made x.edge) ≡ false
unfolding has_part owns belongs is_supervoxel edge_at
edge_apart u made x f g = rw (ne_eqb x.edge.pair.a u f, ne_eqb x.edge.pair.b u g) refl

module _ (ids : List ℕ) (rows : List Row) (old new : List ℕ) (tails : List Tail) (x : BaseEdge) (place : ℕ) (st : Edging ids rows old tails) (p : IsPlaced ids x)
    (here : place ≡ length rows) (w : new ≡ words_of (rows ++ EdgeRow 0 x.edge ∷ [])) where
  abbrev one : Tail
  one = record { spot = place; word = 5 }

  abbrev two : Tail
  two = record { spot = place; word = 6 }

  abbrev told : List Tail
  told = set (set tails x.lesser one) x.greater two

  first_long : length (set tails x.lesser one) ≡ length ids
  first_long = length-set tails x.lesser one ∙ st.tails_are.count

  long : length told ≡ length ids
  long = length-set (set tails x.lesser one) x.greater two ∙ first_long

  each : (i : ℕ) (t : Tail) → i < length ids
      → EndsAt (EdgesOf (get_or ids i 0)) (rows ++ EdgeRow 0 x.edge ∷ []) (word_number (get_or told i t))
      ⊎ ((get_or told i t ≡ get_or tails i t) × (has_part (EdgesOf (get_or ids i 0)) (EdgeRow 0 x.edge) ≡ false))
  each i t l = elim (cases_Bool (eqb i x.greater)) [
    | inl e ↦
        let q : i ≡ x.greater = eqb-true i x.greater e in
        let g : get_or told x.greater t ≡ two = get_or-set_same (set tails x.lesser one) x.greater two t (omega (arith, first_long, l, q)) in
        let n : 8 * length rows + 6 ≡ word_number two = omega (arith, here) in
        inl (subst (λ k. EndsAt (EdgesOf (get_or ids k 0)) (rows ++ EdgeRow 0 x.edge ∷ []) (word_number (get_or told k t))) (sym q)
        (subst (λ y. EndsAt (EdgesOf (get_or ids x.greater 0)) (rows ++ EdgeRow 0 x.edge ∷ []) (word_number y)) (sym g)
        (subst (λ v. EndsAt (EdgesOf v) (rows ++ EdgeRow 0 x.edge ∷ []) (word_number two)) (sym p.greater_is)
        (subst (EndsAt (EdgesOf x.edge.pair.b) (rows ++ EdgeRow 0 x.edge ∷ [])) n (edges_end rows 0 x.edge st.rows_are.headed p.differ).1))))
    | inr f ↦ other f (cases_Bool (eqb i x.lesser))
  ]
    where
      other : eqb i x.greater ≡ false → (eqb i x.lesser ≡ true) ⊎ (eqb i x.lesser ≡ false)
          → EndsAt (EdgesOf (get_or ids i 0)) (rows ++ EdgeRow 0 x.edge ∷ []) (word_number (get_or told i t))
          ⊎ ((get_or told i t ≡ get_or tails i t) × (has_part (EdgesOf (get_or ids i 0)) (EdgeRow 0 x.edge) ≡ false))
      other f (inl e) =
          let q : i ≡ x.lesser = eqb-true i x.lesser e in
          let g : get_or told i t ≡ get_or (set tails x.lesser one) i t = get_or-set_other (set tails x.lesser one) x.greater i two t (eqb-false i x.greater f) in
          let h : get_or (set tails x.lesser one) x.lesser t ≡ one = get_or-set_same tails x.lesser one t (let c = st.tails_are.count in omega (arith, c, l, q)) in
          let m : get_or told i t ≡ one = g ∙ (ap (λ k. get_or (set tails x.lesser one) k t) q ∙ h) in
          let n : 8 * length rows + 5 ≡ word_number one = omega (arith, here) in
          inl (subst (λ y. EndsAt (EdgesOf (get_or ids i 0)) (rows ++ EdgeRow 0 x.edge ∷ []) (word_number y)) (sym m)
          (subst (λ v. EndsAt (EdgesOf v) (rows ++ EdgeRow 0 x.edge ∷ []) (word_number one)) (sym (ap (λ k. get_or ids k 0) q ∙ p.lesser_is))
          (subst (EndsAt (EdgesOf x.edge.pair.a) (rows ++ EdgeRow 0 x.edge ∷ [])) n (edges_end rows 0 x.edge st.rows_are.headed p.differ).0)))
      other f (inr e) =
          let a = eqb-false i x.greater f in
          let b = eqb-false i x.lesser e in
          inr (
            get_or-set_other (set tails x.lesser one) x.greater i two t a ∙ get_or-set_other tails x.lesser i one t b,
            edge_apart (get_or ids i 0) 0 x (λ q. b (st.once i x.lesser l p.lesser (sym q ∙ sym p.lesser_is))) (λ q. a (st.once i x.greater l p.greater (sym q ∙ sym p.greater_is))),
          )

  -- with one more edge
  pub edge_more : Edging ids (rows ++ EdgeRow 0 x.edge ∷ []) new (set (set tails x.lesser (record { spot = place; word = 5 })) x.greater (record { spot = place; word = 6 }))
  unfolding is_logged
  edge_more = record {
    rows_are = rows_more rows old new (EdgeRow 0 x.edge) st.rows_are refl w;
    once = st.once;
    tails_are = tails_told EdgesOf ids rows (EdgeRow 0 x.edge) tails told st.rows_are.headed st.tails_are long each;
  }

-- other records than supervoxels are no part of these chains but for edges
header_apart : (u : ℕ) (d : Dataset) (s c : ℕ) → has_part (EdgesOf u) (HeaderRow d s c) ≡ false
unfolding has_part owns belongs is_supervoxel edge_at
header_apart u d s c = refl

chunk_apart : (u c : ℕ) → has_part (EdgesOf u) (ChunkRow c) ≡ false
unfolding has_part owns belongs is_supervoxel edge_at
chunk_apart u c = refl

supervoxel_apart : (u v : ℕ) → (v ≡ u → ⊥) → has_part (EdgesOf u) (SupervoxelRow v) ≡ false
unfolding has_part owns belongs is_supervoxel edge_at
supervoxel_apart u v f = rw (ne_eqb v u f) refl

unlogged_owners : (d : Dataset) (ids chunks : List ℕ) → NonePass is_logged (owner_rows d ids chunks)
unfolding owner_rows is_logged
unlogged_owners d ids chunks = none_both is_logged (map SupervoxelRow ids) (map ChunkRow chunks) (none_map is_logged SupervoxelRow (λ v. refl) ids) (none_map is_logged ChunkRow (λ c. refl) chunks)

-- the records before the edges
pub owners_are : (d : Dataset) (ids chunks words : List ℕ) → words ≡ words_of (owner_rows d ids chunks) → AreRows (owner_rows d ids chunks) words
unfolding owner_rows
owners_are d ids chunks words w = record {
  headed = headed d (length ids) (length chunks) (map SupervoxelRow ids ++ map ChunkRow chunks);
  stand = w;
  unlogged = unlogged_owners d ids chunks;
}

pub map_same : (xs : List ℕ) → map (λ x. x) xs ≡ xs
map_same [] = refl
map_same (x ∷ xs) = ap (λ ys. x ∷ ys) (map_same xs)

edges_begin : (d : Dataset) (ids chunks : List ℕ) → IsOnce ids → (i : ℕ) → i < length ids → EndsAt (EdgesOf (get_or ids i 0)) (owner_rows d ids chunks) (8 * (1 + i) + 4)
unfolding owner_rows
edges_begin d ids chunks once i l =
    let s : List ℕ → Type 0 = λ xs. IsOnce xs → i < length xs → EndsAt (EdgesOf (get_or xs i 0)) (HeaderRow d (length ids) (length chunks) ∷ map SupervoxelRow ids ++ map ChunkRow chunks) (8 * (1 + i) + 4) in
    subst s (map_same ids)
    (λ o m. begun (λ v. v) SupervoxelRow EdgesOf 4 (λ rs v h f. (supervoxels_begin rs v h).0 f) (λ u v f. supervoxel_apart u v f) ids
    (HeaderRow d (length ids) (length chunks) ∷ []) (map ChunkRow chunks) (headed d (length ids) (length chunks) []) o
    (λ j k. rw (header_apart (get_or (map (λ v. v) ids) j 0) d (length ids) (length chunks)) refl)
    (λ j k. none_map (has_part (EdgesOf (get_or (map (λ v. v) ids) j 0))) ChunkRow (chunk_apart (get_or (map (λ v. v) ids) j 0)) chunks) i m)
    once l

-- before the first edge
pub edging_begins : (d : Dataset) (ids chunks words : List ℕ) → words ≡ words_of (owner_rows d ids chunks) → IsOnce ids → Edging ids (owner_rows d ids chunks) words (tails_from 1 4 (length ids))
edging_begins d ids chunks words w once = record {
  rows_are = owners_are d ids chunks words w;
  once = once;
  tails_are = record {
    count = length-tails_from 1 4 (length ids);
    each = λ i t l. subst (λ y. EndsAt (EdgesOf (get_or ids i 0)) (owner_rows d ids chunks) (word_number y)) (sym (tail_at 1 4 (length ids) i t l)) (edges_begin d ids chunks once i l);
  };
}
