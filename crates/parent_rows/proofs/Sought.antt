-- Which records have an id: one of layer 1 a supervoxel, any other a node of the chunk that it tells.
use Rattle.std.proofs.Common.{◌≡◌, ℕ, zero, suc, ◌+◌, ◌-◌, ◌/◌, ◌^◌, ◌<◌, ◌≤◌, Bool, true, false, cond, ◌&&◌, eqb, List, [], ◌∷◌, length, drop, get_or, Option, Some, None, refl, sym, ◌∙◌, ap, subst, arith, eq-eqb}
use Rattle.std.specs.List.{slice_get}
use Rattle.std.proofs.lemmas.Bool.{false≢true, true≢false, eqb-true, ne_eqb}
use Rattle.std.proofs.Math.Nat.{mod-le}
use Rattle.node_ids.specs.Ids.{LayoutForm, segments, parts_of, parts_over}
use Rattle.op_model.specs.declared.base.Dataset.{Dataset}
use Rattle.op_model.specs.declared.base.Base.{Base}
use Rattle.op_model.specs.declared.entry.Entry.{Entry}
use Rattle.record_rows.specs.Rows.{Row, HeaderRow, SupervoxelRow, ChunkRow, NodeRow}
use Rattle.record_rows.specs.Chains.{node_in, is_node, has_id}
use Rattle.record_rows.specs.Words.{place_from}
use Rattle.record_rows.specs.LogRows.{rows_of, chunks}
use Rattle.record_rows.specs.Readings.{ParentImage, Holds, HoldsChunk, place_of, first_place}
use Rattle.record_rows.specs.Sorted.{Sorted, FoundAmong, supervoxel_count}
use Rattle.record_rows.specs.Walks.{is_supervoxel, is_chunk}
use Rattle.record_rows.proofs.BaseRows.{supervoxels_counted, supervoxel_at, chunks_sorted, chunk_found}
use Rattle.record_rows.proofs.ImageFacts.{header, within, below_few}
use Rattle.record_rows.proofs.NodeIds.{node_layer, node_chunk, chunk_stands, supervoxel_layer}
use Rattle.record_rows.proofs.WalkLemmas.{LeadsTo, place_of-some, from_here, first_leads}
use Rattle.parent_rows.specs.Steps.{is_node_of}
use Rattle.parent_rows.proofs.ChainWalks.{NoHeader}
use Rattle.parent_rows.proofs.ChunkWalks.{node_header}
use Rattle.parent_rows.proofs.Seeks.{not_of, of_node}

-- tests that agree on all records find the same one
same_place : (s t : Row → Bool) (place : ℕ) (rows : List Row) → ((p : ℕ) (row : Row) → slice_get rows p ≡ Some row → s row ≡ t row) → place_from s place rows ≡ place_from t place rows
unfolding place_from
same_place s t place [] f = refl
same_place s t place (row ∷ rows) f = let e : s row ≡ t row = f 0 row refl in rw e (ap (cond (t row) place) (same_place s t (place + 1) rows (λ p r h. f (suc p) r h)))

-- where none is found, no record passes
none_passes : (test : Row → Bool) (place : ℕ) (rows : List Row) → 1 ≤ place → place_from test place rows ≡ 0 → (p : ℕ) (row : Row) → slice_get rows p ≡ Some row → test row ≡ false
unfolding place_from
none_passes test place [] l e p row h = cc
none_passes test place (r ∷ rows) l e p row h = go (test r) refl e p h (λ f q k. none_passes test (place + 1) rows (omega arith) f q row k)
  where
    go : (t : Bool) → test r ≡ t → cond t place (place_from test (place + 1) rows) ≡ 0 → (q : ℕ) → slice_get (r ∷ rows) q ≡ Some row
        → (place_from test (place + 1) rows ≡ 0 → (k : ℕ) → slice_get rows k ≡ Some row → test row ≡ false) → test row ≡ false
    go true f z q k ih = absurd (omega arith)
    go false f z zero k ih = let same : r ≡ row = cc in sym (ap test same) ∙ f
    go false f z (suc q) k ih = ih z q k

neither : (s : Bool) → (s && false) ≡ false
neither true = refl
neither false = refl

module _ (d : Dataset) (b : Base) (log : List Entry) (words : List ℕ) (i : ParentImage d b log words) where
  abbrev rows : List Row
  rows = rows_of d b log

  -- the header lies within the words
  pub header_within : 8 ≤ length words
  header_within = let w = within d b log words i 0 _ (header d b log words i) in omega (arith, w)

  -- there is a place behind the supervoxels
  pub counted_low : 1 + supervoxel_count words < 2 ^ 32
  counted_low = let e = supervoxels_counted d b log words i in go (length b.supervoxels) refl e
    where
      go : (n : ℕ) → length b.supervoxels ≡ n → supervoxel_count words ≡ length b.supervoxels → 1 + supervoxel_count words < 2 ^ 32
      go zero q e = omega arith
      go (suc n) q e = let f = below_few d b log words i (1 + n) _ (supervoxel_at d b log words i n (omega arith)) in omega (arith, f)

  -- the chunks as the header's counts give them
  pub chunks_counted_sorted : {m n : ℕ} → m ≡ supervoxel_count words → n ≡ get_or words 2 0 / 2 ^ 32 → Sorted words (1 + m) n
  chunks_counted_sorted {m = m} {n = n} e f = subst (λ x. Sorted words (1 + x) n) (sym e) (subst (Sorted words (1 + supervoxel_count words)) (sym f) (chunks_sorted d b log words i))

  pub chunk_counted : {m n id key : ℕ} {found : Option ℕ} → m ≡ supervoxel_count words → n ≡ get_or words 2 0 / 2 ^ 32 → key ≡ id → FoundAmong words (1 + m) n key found → found ≡ first_place (is_chunk id) rows
  chunk_counted {m = m} {n = n} {id = id} {key = key} {found = found} e f k h =
      chunk_found d b log words i id found
      (subst (λ x. FoundAmong words (1 + x) (get_or words 2 0 / 2 ^ 32) id found) e (subst (λ y. FoundAmong words (1 + m) y id found) f (subst (λ z. FoundAmong words (1 + m) n z found) k h)))

  -- where none is found, no record passes
  none_found : (test : Row → Bool) → NoHeader test → {found : Option ℕ} → found ≡ first_place test rows → ((q : ℕ) → found ≡ Some q → ⊥) → (p : ℕ) (row : Row) → Holds d b log p row → test row ≡ false
  unfolding first_place place_from
  none_found test never e o p row h =
      let top : Row = HeaderRow d (length b.supervoxels) (length (chunks d b)) in
      let t : test top ≡ false = never d (length b.supervoxels) (length (chunks d b)) in
      let all : rows ≡ top ∷ drop 1 rows = from_here rows 0 top (header d b log words i) in
      let z : place_from test 1 (drop 1 rows) ≡ 0 = sym (ap (place_from test 0) all ∙ rw t refl) ∙ empty (place_from test 0 rows) (λ q f. o q (e ∙ f)) in
      go p (subst (λ rs. slice_get rs p ≡ Some row) all h) t (none_passes test 1 (drop 1 rows) (omega arith) z)
    where
      empty : (n : ℕ) → ((q : ℕ) → place_of n ≡ Some q → ⊥) → n ≡ 0
      empty zero f = refl
      empty (suc n) f = absurd (f (suc n) (place_of-some (suc n) (omega arith)))

      go : (q : ℕ) → slice_get (HeaderRow d (length b.supervoxels) (length (chunks d b)) ∷ drop 1 rows) q ≡ Some row → test (HeaderRow d (length b.supervoxels) (length (chunks d b))) ≡ false
          → ((k : ℕ) (r : Row) → slice_get (drop 1 rows) k ≡ Some r → test r ≡ false) → test row ≡ false
      go zero k t f = let same : HeaderRow d (length b.supervoxels) (length (chunks d b)) ≡ row = cc in sym (ap test same) ∙ t
      go (suc q) k t f = f q row k

  -- the record of the chunk
  pub chunk_place : (c : ℕ) {found : Option ℕ} (p : ℕ) → found ≡ first_place (is_chunk c) rows → found ≡ Some p → HoldsChunk d b log p c
  unfolding is_chunk
  chunk_place c p e f =
      let l : LeadsTo (is_chunk c) rows (Some p) = subst (LeadsTo (is_chunk c) rows) (sym e ∙ f) (first_leads (is_chunk c) rows _ (header d b log words i) refl) in
      go l.1 l.2 l.3
    where
      go : (row : Row) → Holds d b log p row → is_chunk c row ≡ true → HoldsChunk d b log p c
      go (ChunkRow k) h t = subst (λ x. HoldsChunk d b log p x) (eqb-true k c t) h
      go row h t = absurd (false≢true t)

  -- an id of layer 1 is a supervoxel's
  low_id : (id : ℕ) → (parts_of d.layout id).layer ≡ 1 → (p : ℕ) (row : Row) → Holds d b log p row → is_supervoxel id row ≡ has_id id row
  unfolding is_supervoxel has_id
  low_id id e p (SupervoxelRow v) h = refl
  low_id id e p (NodeRow n) h = sym (ne_eqb n.id id (λ q. (let l = node_layer d b i.dataset i.base log i.legal p n h in let f : (parts_of d.layout n.id).layer ≡ 1 = ap (λ x. (parts_of d.layout x).layer) q ∙ e in absurd (omega arith))))
  low_id id e p row h = refl

  pub supervoxel_sought : (id : ℕ) → (parts_of d.layout id).layer ≡ 1 → first_place (is_supervoxel id) rows ≡ first_place (has_id id) rows
  unfolding first_place
  supervoxel_sought id e = ap place_of (same_place (is_supervoxel id) (has_id id) 0 rows (low_id id e))

  -- any other is that of a node of the chunk that it tells
  high_id : (id : ℕ) → ((parts_of d.layout id).layer ≡ 1 → ⊥) → (p : ℕ) (row : Row) → Holds d b log p row → is_node_of (id - (parts_of d.layout id).segment) id row ≡ has_id id row
  unfolding is_node_of node_in is_node has_id
  high_id id o p (SupervoxelRow v) h = sym (ne_eqb v id (λ q. o (sym (ap (λ x. (parts_of d.layout x).layer) q) ∙ supervoxel_layer d b i.dataset i.base log words i p v h)))
  high_id id o p (NodeRow n) h = go (eqb n.id id) refl
    where
      go : (t : Bool) → eqb n.id id ≡ t → (eqb n.chunk (id - (parts_of d.layout id).segment) && t) ≡ t
      go true e =
          let q : n.id ≡ id = eqb-true n.id id e in
          let c : n.chunk ≡ id - (parts_of d.layout id).segment = node_chunk d b i.dataset i.base log i.legal p n h ∙ ap (λ x. x - (parts_of d.layout x).segment) q in
          rw (eq-eqb n.chunk (id - (parts_of d.layout id).segment) c) refl
      go false e = neither (eqb n.chunk (id - (parts_of d.layout id).segment))
  high_id id o p row h = refl

  pub node_sought : (id : ℕ) → ((parts_of d.layout id).layer ≡ 1 → ⊥) → first_place (is_node_of (id - (parts_of d.layout id).segment) id) rows ≡ first_place (has_id id) rows
  unfolding first_place
  node_sought id o = ap place_of (same_place (is_node_of (id - (parts_of d.layout id).segment) id) (has_id id) 0 rows (high_id id o))

  -- without a record of the chunk there is no node of it
  pub no_chunk : (id : ℕ) → ((parts_of d.layout id).layer ≡ 1 → ⊥) → {found : Option ℕ} → found ≡ first_place (is_chunk (id - (parts_of d.layout id).segment)) rows → ((q : ℕ) → found ≡ Some q → ⊥)
      → None ≡ first_place (has_id id) rows
  unfolding is_chunk
  no_chunk id low e o = go (first_place (is_node_of c id) rows) (node_sought id low) (first_leads (is_node_of c id) rows _ (header d b log words i) (not_of c id _ (node_header c d (length b.supervoxels) (length (chunks d b)))))
    where
      c : ℕ
      c = id - (parts_of d.layout id).segment

      go : (f : Option ℕ) → f ≡ first_place (has_id id) rows → LeadsTo (is_node_of c id) rows f → None ≡ first_place (has_id id) rows
      go None g l = g
      go (Some q) g l =
          let x = of_node c id l.1 l.3 in
          let s = chunk_stands d b i.dataset i.base log words i q x.0 (l.2 ∙ ap (λ r. Some r) x.1) in
          let h : Holds d b log s.0 (ChunkRow c) = subst (λ k. Holds d b log s.0 (ChunkRow k)) x.2 s.1 in
          let t : eqb c c ≡ false = none_found (is_chunk c) (λ dd m n. refl) e o s.0 (ChunkRow c) h in
          absurd (true≢false (sym (eq-eqb c c refl) ∙ t))

-- a segment is no more than its id
pub segment_low : (f : LayoutForm) (id : ℕ) → (parts_of f id).segment ≤ id
unfolding parts_of parts_over
segment_low f id = mod-le id (segments f (id / 2 ^ 56))

-- what is counted in words that are as they were
pub counts_kept : {A : Type 0} (words : A → List ℕ) {v w : A} {n : ℕ} → v ≡ w → n ≡ supervoxel_count (words w) → n ≡ supervoxel_count (words v)
counts_kept words {n = n} e h = subst (λ x. n ≡ supervoxel_count (words x)) (sym e) h

pub word_kept : {A : Type 0} (words : A → List ℕ) {v w : A} {n : ℕ} → v ≡ w → n ≡ get_or (words w) 2 0 / 2 ^ 32 → n ≡ get_or (words v) 2 0 / 2 ^ 32
word_kept words {n = n} e h = subst (λ x. n ≡ get_or (words x) 2 0 / 2 ^ 32) (sym e) h
