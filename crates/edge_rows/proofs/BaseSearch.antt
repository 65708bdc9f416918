-- What halving keeps among the records of the base's edges, and what it finds.
use Rattle.std.proofs.Common.{◌≡◌, ◌≢◌, ℕ, zero, suc, ◌+◌, ◌-◌, ◌*◌, ◌%◌, ◌/◌, ◌^◌, ◌<◌, ◌≤◌, Bool, true, false, ◌&&◌, eqb, List, [], ◌∷◌, length, take, get_or, Option, Some, None, refl, sym, ◌∙◌, ap, inl, inr, ◌⊎◌, arith, map, length-append}
use Rattle.std.proofs.lemmas.List.{length-map}
use Rattle.std.specs.List.{slice_get}
use Rattle.std.specs.Option.{MatchOption}
use Rattle.std.proofs.lemmas.Bool.{true≢false, false≢true, cases_lt, and_parts, eqb-true, ne_eqb}
use Rattle.std.proofs.lemmas.Option.{slice_get_within}
use Rattle.op_model.specs.declared.base.Dataset.{Dataset}
use Rattle.op_model.specs.declared.base.Base.{Base}
use Rattle.op_model.specs.declared.base.Edge.{Edge}
use Rattle.op_model.specs.declared.base.Pair.{Pair}
use Rattle.op_model.specs.declared.entry.Entry.{Entry}
use Rattle.op_model.specs.Edges.{same_pair, pair_before}
use Rattle.op_model.proofs.EdgeLemmas.{same_pair_self}
use Rattle.op_model.proofs.OrderLemmas.{before_trans}
use Rattle.record_rows.specs.Rows.{Row, HeaderRow, SupervoxelRow, ChunkRow, NodeRow, LinkRow, EdgeRow, ChangeRow, ItemRow, EntryRow}
use Rattle.record_rows.specs.Chains.{is_edge}
use Rattle.record_rows.specs.Words.{bit, layout_word, kind_code, names, place_from, fixed_words}
use Rattle.record_rows.specs.LogRows.{chunks, base_rows, rows_of}
use Rattle.record_rows.specs.Readings.{Image, Holds, HoldsEdge, place_of, first_place}
use Rattle.record_rows.specs.Sorted.{supervoxel_count}
use Rattle.record_rows.proofs.BaseRows.{supervoxels_counted, chunks_counted}
use Rattle.record_rows.proofs.ImageFacts.{parent_image, few, image_fixed}
use Rattle.record_rows.proofs.TellLemmas.{length-words_of}
use Rattle.record_rows.proofs.WalkLemmas.{place_of-some}
use Rattle.edge_rows.specs.BaseEdges.{IsLower, base_before, base_of, base_word, of_base}
use Rattle.edge_rows.proofs.EdgeLists.{same_eq, before_differs}
use Rattle.edge_rows.proofs.EdgeOrder.{first, base_front, edge_high, edge_before}

-- no pair is before itself
not_self : (p : Pair) → pair_before p p ≡ true → ⊥
not_self p h = false≢true (sym (before_differs p p h) ∙ same_pair_self p)

-- what the tests of a record tell
pub of_base_row : (row : Row) → of_base row ≡ true → (e : Edge) × (row ≡ EdgeRow 0 e)
unfolding of_base
of_base_row (EdgeRow made e) t = (e, ap (λ m. EdgeRow m e) (eqb-true made 0 t))
of_base_row row t = absurd (false≢true t)

pub before_told : (p : Pair) (e : Edge) (t : Bool) → pair_before e.pair p ≡ t → base_before p (EdgeRow 0 e) ≡ t
unfolding base_before
before_told p e t h = h

pub of_told : (p : Pair) (e : Edge) (t : Bool) → same_pair e.pair p ≡ t → base_of p (EdgeRow 0 e) ≡ t
unfolding base_of
of_told p e t h = h

pub before_others : (p : Pair) (row : Row) → of_base row ≡ false → base_before p row ≡ false
unfolding of_base base_before
before_others p (EdgeRow made e) t = rw t refl
before_others p row t = refl

pub of_others : (p : Pair) (row : Row) → of_base row ≡ false → base_of p row ≡ false
unfolding of_base base_of
of_others p (EdgeRow made e) t = rw t refl
of_others p row t = refl

before_row : (p : Pair) (row : Row) → base_before p row ≡ true → (e : Edge) × (row ≡ EdgeRow 0 e) × (pair_before e.pair p ≡ true)
unfolding base_before
before_row p (EdgeRow made e) t = let s = and_parts (eqb made 0) (pair_before e.pair p) t in (e, ap (λ m. EdgeRow m e) (eqb-true made 0 s.0), s.1)
before_row p row t = absurd (false≢true t)

of_row : (p : Pair) (row : Row) → base_of p row ≡ true → (e : Edge) × (row ≡ EdgeRow 0 e) × (e.pair ≡ p)
unfolding base_of
of_row p (EdgeRow made e) t = let s = and_parts (eqb made 0) (same_pair e.pair p) t in (e, ap (λ m. EdgeRow m e) (eqb-true made 0 s.0), same_eq e.pair p s.1)
of_row p row t = absurd (false≢true t)

-- a word of another kind
other : (word : ℕ) → (word % 256 ≡ 6 → ⊥) → (eqb (word % 256) 6 && eqb (word / 4294967296) 0) ≡ false
other word n = rw (ne_eqb (word % 256) 6 n) refl

-- the first word of each kind of record
base_word_of : (all : List Row) (row : Row) → base_word (get_or (fixed_words all row) 0 0) ≡ of_base row
unfolding base_word of_base fixed_words layout_word bit
base_word_of all (EdgeRow made e) = go e.active
  where
    go : (t : Bool) → (eqb ((6 + bit t * 2 ^ 8 + made * 2 ^ 32) % 256) 6 && eqb ((6 + bit t * 2 ^ 8 + made * 2 ^ 32) / 4294967296) 0) ≡ eqb made 0
    go true = let k : (6 + 1 * 2 ^ 8 + made * 2 ^ 32) % 256 ≡ 6 = omega arith in let m : (6 + 1 * 2 ^ 8 + made * 2 ^ 32) / 4294967296 ≡ made = omega arith in rw (k, m) refl
    go false = let k : (6 + 0 * 2 ^ 8 + made * 2 ^ 32) % 256 ≡ 6 = omega arith in let m : (6 + 0 * 2 ^ 8 + made * 2 ^ 32) / 4294967296 ≡ made = omega arith in rw (k, m) refl
base_word_of all (HeaderRow d m n) = other (layout_word d.layout) (kind d.layout.bits (d.layout.version - 1))
  where
    kind : (bits version : ℕ) → (1 + bits * 2 ^ 8 + version * 2 ^ 16) % 256 ≡ 6 → ⊥
    kind bits version e = absurd (let k : (1 + bits * 2 ^ 8 + version * 2 ^ 16) % 256 ≡ 1 = omega arith in omega (arith, e, k))
base_word_of all (SupervoxelRow v) = refl
base_word_of all (ChunkRow c) = refl
base_word_of all (NodeRow n) = refl
base_word_of all (LinkRow l) = refl
base_word_of all (ChangeRow entry c) = go c.active
  where
    go : (t : Bool) → (eqb ((7 + bit t * 2 ^ 8) % 256) 6 && eqb ((7 + bit t * 2 ^ 8) / 4294967296) 0) ≡ false
    go true = refl
    go false = refl
base_word_of all (ItemRow i) = other (8 + i.side * 2 ^ 8) (λ e. absurd (let k : (8 + i.side * 2 ^ 8) % 256 ≡ 8 = omega arith in omega (arith, e, k)))
base_word_of all (EntryRow e) = other (9 + kind_code e.asked * 2 ^ 8 + names e.asked * 2 ^ 32) (kind (kind_code e.asked) (names e.asked))
  where
    kind : (code name : ℕ) → (9 + code * 2 ^ 8 + name * 2 ^ 32) % 256 ≡ 6 → ⊥
    kind code name e = absurd (let k : (9 + code * 2 ^ 8 + name * 2 ^ 32) % 256 ≡ 9 = omega arith in omega (arith, e, k))

-- the first record that passes a test
place_at : (test : Row → Bool) (start p : ℕ) (rows : List Row) (row : Row) → slice_get rows p ≡ Some row → test row ≡ true → ((q : ℕ) (r : Row) → q < p → slice_get rows q ≡ Some r → test r ≡ false) → place_from test start rows ≡ start + p
unfolding place_from
place_at test start p [] row h t f = cc
place_at test start zero (x ∷ rows) row h t f = let q : x ≡ row = cc in let s : test x ≡ true = ap test q ∙ t in let e : start + 0 ≡ start = omega arith in rw s (sym e)
place_at test start (suc p) (x ∷ rows) row h t f =
    let s : test x ≡ false = f 0 x (omega arith) refl in
    let e : start + 1 + p ≡ start + suc p = omega arith in
    rw s (place_at test (start + 1) p rows row h t (λ q r l k. f (suc q) r (omega arith) k) ∙ e)

module _ (d : Dataset) (b : Base) (log : List Entry) (words : List ℕ) (i : Image d b log words) where
  abbrev rows : List Row
  rows = rows_of d b log

  pub word_told : (p : ℕ) (row : Row) → Holds d b log p row → base_word (get_or words (8 * p + 0) 0) ≡ of_base row
  word_told p row h = ap base_word (image_fixed d b log words i p 0 row h (omega arith)) ∙ base_word_of (take p rows) row

  -- how many words there are
  pub counted : length words ≡ 8 * length rows
  counted = ap length i.stands ∙ length-words_of rows

  -- how many records stand before those of the first entry
  pub first_counted : {word : ℕ} → word ≡ get_or words 2 0 → 1 + word % 4294967296 + word / 4294967296 ≡ first d b
  unfolding base_rows supervoxel_count
  first_counted {word = word} e =
      let v : word % 4294967296 ≡ length b.supervoxels = ap (λ x. x % 4294967296) e ∙ supervoxels_counted d b log words (parent_image d b log words i) in
      let c : word / 4294967296 ≡ length (chunks d b) = ap (λ x. x / 4294967296) e ∙ chunks_counted d b log words (parent_image d b log words i) in
      let n = length-append (map SupervoxelRow b.supervoxels) (map ChunkRow (chunks d b)) in
      let l = length-map b.supervoxels SupervoxelRow in
      let m = length-map (chunks d b) ChunkRow in
      omega (arith, v, c, n, l, m)

  pub first_within : first d b ≤ length rows
  first_within = let f = base_front d b log in let n = ap length f.1 ∙ length-append (base_rows d b) f.0 in omega (arith, n)

  pub records_few : length rows ≤ 16777216
  records_few = few d b log words (parent_image d b log words i)

  -- at each place below their number a record stands
  pub record_at : (p : ℕ) → p < length rows → (row : Row) × Holds d b log p row
  record_at p h = go rows p h
    where
      go : (rs : List Row) (k : ℕ) → k < length rs → (row : Row) × (slice_get rs k ≡ Some row)
      go [] k l = absurd (omega arith)
      go (x ∷ rs) zero l = (x, refl)
      go (x ∷ rs) (suc k) l = go rs k (omega arith)

  -- what halving keeps: all below the lower place are edges of the base before the pair, and none at or above the higher place is
  abbrev pub Parts : Pair → ℕ → ℕ → Type 0
  Parts p low high =
      (first d b ≤ low) × (high ≤ length rows)
      × ((q : ℕ) (row : Row) → first d b ≤ q → q < low → slice_get rows q ≡ Some row → base_before p row ≡ true)
      × ((q : ℕ) (row : Row) → high ≤ q → slice_get rows q ≡ Some row → base_before p row ≡ false)

  pub parts_first : (p : Pair) → Parts p (first d b) (length rows)
  parts_first p = (omega arith, omega arith, (λ q row l m h. absurd (omega arith)), (λ q row l h. absurd (let w = slice_get_within rows q row h in omega arith)))

  pub parts_more : (p : Pair) (low high middle : ℕ) (row : Row) → Parts p low high → low ≤ middle → middle < high → slice_get rows middle ≡ Some row → base_before p row ≡ true → Parts p (middle + 1) high
  parts_more p low high middle row s lm mh k t =
      let l = s.0 in
      (omega arith, s.1, (λ q r fq qm h. go q r fq h (cases_lt q middle) qm), s.3)
    where
      go : (q : ℕ) (r : Row) → first d b ≤ q → slice_get rows q ≡ Some r → (q < middle) ⊎ (middle ≤ q) → q < middle + 1 → base_before p r ≡ true
      go q r fq h (inl less) qm =
          let x = before_row p row t in
          let f = edge_before d b log i.legal middle q x.0 (k ∙ ap (λ y. Some y) x.1) fq less in
          let same : Some (EdgeRow 0 f.0) ≡ Some r = sym f.1 ∙ h in
          let is : EdgeRow 0 f.0 ≡ r = cc in
          ap (base_before p) (sym is) ∙ before_told p f.0 true (before_trans f.0.pair x.0.pair p f.2 x.2)
      go q r fq h (inr more) qm =
          let e : q ≡ middle = omega arith in
          let same : Some r ≡ Some row = sym h ∙ (ap (slice_get rows) e ∙ k) in
          let is : r ≡ row = cc in
          ap (base_before p) is ∙ t

  pub parts_less : (p : Pair) (low high middle : ℕ) (row : Row) → Parts p low high → low ≤ middle → middle < high → slice_get rows middle ≡ Some row → base_before p row ≡ false → Parts p low middle
  parts_less p low high middle row s lm mh k t =
      let l = s.0 in
      let m = s.1 in
      (s.0, omega arith, s.2, (λ q r mq h. go q r h (cases_lt middle q) mq))
    where
      low_first : first d b ≤ middle
      low_first = let l = s.0 in omega arith

      go : (q : ℕ) (r : Row) → slice_get rows q ≡ Some r → (middle < q) ⊎ (q ≤ middle) → middle ≤ q → base_before p r ≡ false
      go q r h (inr less) mq =
          let e : q ≡ middle = omega arith in
          let same : Some r ≡ Some row = sym h ∙ (ap (slice_get rows) e ∙ k) in
          let is : r ≡ row = cc in
          ap (base_before p) is ∙ t
      go q r h (inl more) mq = split (base_before p r) refl
        where
          split : (u : Bool) → base_before p r ≡ u → u ≡ false
          split false z = refl
          split true z =
              let x = before_row p r z in
              let f = edge_before d b log i.legal q middle x.0 (h ∙ ap (λ y. Some y) x.1) low_first more in
              let same : Some (EdgeRow 0 f.0) ≡ Some row = sym f.1 ∙ k in
              let is : EdgeRow 0 f.0 ≡ row = cc in
              absurd (true≢false (sym (ap (base_before p) (sym is) ∙ before_told p f.0 true (before_trans f.0.pair x.0.pair p f.2 x.2)) ∙ t))

  pub parts_met : (p : Pair) (low high : ℕ) → Parts p low high → low ≤ high → high ≤ low → IsLower rows (first d b) p low
  parts_met p low high s l m =
      let n = s.1 in
      record { low = s.0; high = omega arith; below = s.2; above = λ q row k h. s.3 q row (omega arith) h }

  -- what this finds of the pair
  abbrev pub FoundBase : Pair → Option ℕ → Type 0
  FoundBase p found = MatchOption found ((q : ℕ) (e : Edge) → HoldsEdge d b log q 0 e → e.pair ≢ p) (λ q. (e : Edge) × HoldsEdge d b log q 0 e × (e.pair ≡ p))

  -- an edge of the pair stands at the lower place, if anywhere
  pub lower_is : (p : Pair) (place q : ℕ) (e : Edge) → IsLower rows (first d b) p place → HoldsEdge d b log q 0 e → e.pair ≡ p → q ≡ place
  lower_is p place q e s h k = go (cases_lt q place) (cases_lt place q)
    where
      self : base_before p (EdgeRow 0 e) ≡ true → ⊥
      self t = let x = before_row p (EdgeRow 0 e) t in let same : EdgeRow 0 e ≡ EdgeRow 0 x.0 = x.1 in let is : e ≡ x.0 = cc in not_self p (ap (λ y. pair_before y p) (sym (ap (λ y. y.pair) (sym is) ∙ k)) ∙ x.2)

      go : (q < place) ⊎ (place ≤ q) → (place < q) ⊎ (q ≤ place) → q ≡ place
      go (inl less) o = absurd (self (s.below q (EdgeRow 0 e) (edge_high d b log q 0 e h) less h))
      go (inr a) (inr c) = omega arith
      go (inr a) (inl more) =
          let f = edge_before d b log i.legal q place e h s.low more in
          absurd (true≢false (sym (before_told p f.0 true (ap (λ y. pair_before f.0.pair y) (sym k) ∙ f.2)) ∙ s.above place (EdgeRow 0 f.0) (omega arith) f.1))

  pub found_none : (p : Pair) (place : ℕ) → IsLower rows (first d b) p place → length rows ≤ place → FoundBase p None
  found_none p place s l = λ q e h k. (let z = lower_is p place q e s h k in let w = slice_get_within rows q (EdgeRow 0 e) h in absurd (omega arith))

  pub found_other : (p : Pair) (place : ℕ) (row : Row) → IsLower rows (first d b) p place → slice_get rows place ≡ Some row → base_of p row ≡ false → FoundBase p None
  found_other p place row s k t = λ q e h g.
      (let z = lower_is p place q e s h g in
      let same : Some row ≡ Some (EdgeRow 0 e) = sym k ∙ (ap (slice_get rows) (sym z) ∙ h) in
      let is : row ≡ EdgeRow 0 e = cc in
      true≢false (sym (ap (base_of p) is ∙ of_told p e true (ap (λ y. same_pair y p) g ∙ same_pair_self p)) ∙ t))

  pub found_some : (p : Pair) (place : ℕ) (row : Row) → slice_get rows place ≡ Some row → base_of p row ≡ true → FoundBase p (Some place)
  found_some p place row k t = let x = of_row p row t in (x.0, k ∙ ap (λ y. Some y) x.1, x.2)

  -- the base's edge of a pair is the first edge of it
  pub base_first : (p : Pair) (q : ℕ) (e : Edge) → HoldsEdge d b log q 0 e → e.pair ≡ p → Some q ≡ first_place (is_edge p) rows
  unfolding first_place is_edge base_rows
  base_first p q e h k =
      let t : is_edge p (EdgeRow 0 e) ≡ true = ap (λ y. same_pair y p) k ∙ same_pair_self p in
      let l = edge_high d b log q 0 e h in
      sym (ap place_of (place_at (is_edge p) 0 q rows (EdgeRow 0 e) h t miss) ∙ (ap place_of (let z : 0 + q ≡ q = omega arith in z) ∙ place_of-some q (omega arith)))
    where
      miss : (j : ℕ) (row : Row) → j < q → slice_get rows j ≡ Some row → is_edge p row ≡ false
      miss j (EdgeRow made f) less g = split (same_pair f.pair p) refl
        where
          split : (u : Bool) → same_pair f.pair p ≡ u → u ≡ false
          split false z = refl
          split true z =
              let low = edge_high d b log j made f g in
              let x = edge_before d b log i.legal q j e h low less in
              let same : Some (EdgeRow 0 x.0) ≡ Some (EdgeRow made f) = sym x.1 ∙ g in
              let is : x.0 ≡ f = cc in
              let z2 : f.pair ≡ p = same_eq f.pair p z in
              absurd (not_self p (ap (λ y. pair_before y p) (sym (ap (λ y. y.pair) is ∙ z2)) ∙ (ap (λ y. pair_before x.0.pair y) (sym k) ∙ x.2)))
      miss j row less g = refl
