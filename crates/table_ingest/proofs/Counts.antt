-- A base has no more supervoxels and edges than its tables have bytes.
use Rattle.std.proofs.Common.{◌≡◌, ℕ, ◌+◌, ◌≤◌, Bool, true, false, cond, eqb, ltb, List, [], ◌∷◌, ◌++◌, length, Result, Ok, Err, refl, ap, subst, arith, length-append}
use Rattle.csv.specs.Machine.{ends_at_end}
use Rattle.csv.specs.Reading.{Reached, default_config, strip_bom, is_bom}
use Rattle.csv.specs.declared.parser.State.{State}
use Rattle.csv.specs.declared.parser.State.TheVariants as st
use Rattle.op_model.specs.declared.base.Dataset.{Dataset}
use Rattle.op_model.specs.declared.base.Base.{Base}
use Rattle.op_model.specs.declared.base.Edge.{Edge}
use Rattle.op_model.specs.Edges.{same_pair, pair_before, put_edge, put_edges}
use Rattle.op_model.specs.Operations.{put_id, ascending}
use Rattle.table_ingest.specs.Records.{Are}
use Rattle.table_ingest.specs.Tables.{at_record, meanings, table_of}
use Rattle.table_ingest.specs.Supervoxels.{supervoxel_of, ids_of, is_id_header}
use Rattle.table_ingest.specs.Edges.{edge_of, edges_of, is_edge_header}
use Rattle.table_ingest.specs.Bases.{base_of, Spells}
use Rattle.table_ingest.specs.declared.errors.Table.{Table}
use Rattle.table_ingest.specs.declared.errors.Table.TheVariants as tables
use Rattle.table_ingest.specs.declared.errors.Cause.{Cause}
use Rattle.table_ingest.specs.declared.errors.Cause.TheVariants as cause
use Rattle.table_ingest.proofs.Total.{read_less}
use Rattle.table_ingest.proofs.BaseLemmas.{bound}

abbrev Rows : Type 0
Rows = List (List (List ℕ))

-- a text without its byte order mark
bare_few : (text : List ℕ) → length (strip_bom text) ≤ length text
unfolding strip_bom
bare_few [] = omega arith
bare_few (a ∷ []) = omega arith
bare_few (a ∷ b ∷ []) = omega arith
bare_few (a ∷ b ∷ c ∷ rest) = go (is_bom a b c)
  where
    go : (t : Bool) → length (cond t rest (a ∷ b ∷ c ∷ rest)) ≤ length (a ∷ b ∷ c ∷ rest)
    go true = omega arith
    go false = omega arith

-- each record takes a byte at least
reached_few : (s t : State) (xs ys : List ℕ) (rows : Rows) → ends_at_end s ≡ false → Reached default_config s xs rows t ys → length rows ≤ length xs
unfolding Reached
reached_few s t xs ys [] e h = omega arith
reached_few s t xs ys (r ∷ rs) e h =
    let l = read_less s xs h.0 e h.1 in
    let m = reached_few h.0.1 t h.0.2 ys rs l.0 h.3 in
    let k = l.1 in
    omega (arith, m, k)

-- a text has no more records than bytes
pub rows_few : (text : List ℕ) (rows : Rows) → Are text rows → length rows ≤ length text
rows_few text rows are =
    let m = reached_few st.StartRecord are.0 (strip_bom text) are.1 rows refl are.2 in
    let b = bare_few text in
    omega (arith, m, b)

-- each record means one item
module _ {A : Type 0} (t : Table) (read : List A → List (List ℕ) → Result A Cause) where
  meanings_few : (rows : Rows) (before items : List A) (n : ℕ) → meanings t read before n rows ≡ Ok items → length items ≤ length before + length rows
  unfolding meanings
  meanings_few [] before items n e =
      let same : before ≡ items = cc e in
      let l = ap length same in
      omega (arith, l)
  meanings_few (fields ∷ rows) before items n e = go (read before fields) e (λ x h. meanings_few rows (before ++ x ∷ []) items (n + 1) h)
    where
      go : (m : Result A Cause) → at_record t n m (λ x. meanings t read (before ++ x ∷ []) (n + 1) rows) ≡ Ok items
          → ((x : A) → meanings t read (before ++ x ∷ []) (n + 1) rows ≡ Ok items → length items ≤ length (before ++ x ∷ []) + length rows) → length items ≤ length before + length (fields ∷ rows)
      go (Ok x) f rest =
          let r = rest x f in
          let l = length-append before (x ∷ []) in
          omega (arith, r, l)
      go (Err c) f rest = cc f

  table_few : (is_header : List (List ℕ) → Bool) (rows : Rows) (items : List A) → table_of t is_header read rows ≡ Ok items → length items ≤ length rows
  unfolding table_of
  table_few is_header [] items e = cc e
  table_few is_header (header ∷ rows) items e = go (is_header header) e
    where
      go : (b : Bool) → cond b (meanings t read [] 1 rows) (Err (record { table = t; row = 0; cause = cause.BadHeader })) ≡ Ok items → length items ≤ length (header ∷ rows)
      go true f = let m = meanings_few rows [] items 1 f in omega (arith, m)
      go false f = cc f

-- items that are put in their places are no more than they were
put_id_few : (x : ℕ) (xs : List ℕ) → length (put_id x xs) ≤ length xs + 1
unfolding put_id
put_id_few x [] = omega arith
put_id_few x (y ∷ ys) = go (eqb x y) (ltb x y) (put_id_few x ys)
  where
    go : (a b : Bool) → length (put_id x ys) ≤ length ys + 1 → length (cond a (y ∷ ys) (cond b (x ∷ y ∷ ys) (y ∷ put_id x ys))) ≤ length (y ∷ ys) + 1
    go true b h = omega arith
    go false true h = omega arith
    go false false h = omega (arith, h)

ascending_few : (xs : List ℕ) → length (ascending xs) ≤ length xs
unfolding ascending
ascending_few [] = omega arith
ascending_few (x ∷ xs) =
    let p = put_id_few x (ascending xs) in
    let m = ascending_few xs in
    omega (arith, p, m)

put_edge_few : (e : Edge) (fs : List Edge) → length (put_edge e fs) ≤ length fs + 1
unfolding put_edge
put_edge_few e [] = omega arith
put_edge_few e (f ∷ fs) = go (same_pair f.pair e.pair) (pair_before e.pair f.pair) (put_edge_few e fs)
  where
    go : (a b : Bool) → length (put_edge e fs) ≤ length fs + 1 → length (cond a (record f { active = e.active } ∷ fs) (cond b (e ∷ f ∷ fs) (f ∷ put_edge e fs))) ≤ length (f ∷ fs) + 1
    go true b h = omega arith
    go false true h = omega arith
    go false false h = omega (arith, h)

put_edges_few : (es fs : List Edge) → length (put_edges es fs) ≤ length es + length fs
unfolding put_edges
put_edges_few [] fs = omega arith
put_edges_few (e ∷ es) fs =
    let p = put_edge_few e fs in
    let m = put_edges_few es (put_edge e fs) in
    omega (arith, p, m)

-- a base has at most so many supervoxels and edges
abbrev Within : ℕ → ℕ → Base → Type 0
Within n m b = (length b.supervoxels ≤ n) × (length b.edges ≤ m)

made_few : (d : Dataset) (rows others : Rows) (ids : List ℕ) (edges : List Edge) → ids_of d rows ≡ Ok ids → edges_of ids others ≡ Ok edges
    → Within (length rows) (length others) (record { supervoxels = ascending ids; edges = put_edges edges [] })
unfolding ids_of edges_of
made_few d rows others ids edges i e =
    let a = table_few tables.Supervoxels (supervoxel_of d) is_id_header rows ids i in
    let b = table_few tables.Edges (edge_of ids) is_edge_header others edges e in
    let p = ascending_few ids in
    let q = put_edges_few edges [] in
    (omega (arith, a, p), omega (arith, b, q))

base_few : (d : Dataset) (rows others : Rows) (b : Base) → base_of d rows others ≡ Ok b → Within (length rows) (length others) b
unfolding base_of
base_few d rows others b h =
    let i = bound (ids_of d rows) _ b h in
    let e = bound (edges_of i.0 others) _ b i.2 in
    let made : Base = record { supervoxels = ascending i.0; edges = put_edges e.0 [] } in
    let same : made ≡ b = cc e.2 in
    subst (Within (length rows) (length others)) same (made_few d rows others i.0 e.0 i.1 e.1)

-- what two texts spell has no more supervoxels than the one has bytes, and no more edges than the other
pub spelled_few : (d : Dataset) (supervoxels edges : List ℕ) (b : Base) → Spells d supervoxels edges b → (length b.supervoxels ≤ length supervoxels) × (length b.edges ≤ length edges)
spelled_few d supervoxels edges b s =
    let w = base_few d s.0 s.1 b s.4 in
    let r = rows_few supervoxels s.0 s.2 in
    let o = rows_few edges s.1 s.3 in
    let p = w.0 in
    let q = w.1 in
    (omega (arith, p, r), omega (arith, q, o))
