-- All records of the edge table, in turn.
use Rattle.std.proofs.Common.{◌≡◌, ◌∙◌, ℕ, zero, suc, ◌+◌, ◌-◌, ◌*◌, ◌%◌, ◌<◌, ◌≤◌, Bool, cond, true, false, not, eqb, ltb, leb, leb-true, ltb-true, List, [], ◌∷◌, ◌++◌, map, Result, Ok, refl, ap, arith}
use Rattle.std.specs.List.{AllByRecursion}
use Rattle.std.proofs.lemmas.Bool.{and_parts}
use Rattle.std.proofs.lemmas.Nat.{mul-le}
use Rattle.csv.specs.Records.{field_at}
use Rattle.csv.specs.Reading.{strip_bom}
use Rattle.op_model.specs.Edges.{put_edges}
use Rattle.op_model.specs.Operations.{ascending}
use Rattle.op_model.specs.declared.base.Dataset.{Dataset}
use Rattle.op_model.specs.declared.base.Edge.{Edge}
use Rattle.table_ingest.specs.Bases.{Spells, base_of}
use Rattle.table_ingest.specs.Edges.{edge_of, edges_of, is_edge_header}
use Rattle.table_ingest.specs.Faults.{Fault, ◌>>=◌}
use Rattle.op_model.specs.declared.base.Base.{Base}
use Rattle.table_ingest.specs.Records.{field}
use Rattle.table_ingest.specs.Tables.{table_of}
use Rattle.table_ingest.specs.declared.errors.Table.TheVariants as tables
use Rattle.made_input.specs.Draws.{next, shown}
use Rattle.made_input.specs.Edges.{IsWish, Made, chunks, edges_below, has_neighbour, with_inner, with_outer}
use Rattle.made_input.specs.Rows.{more_fields, table_text}
use Rattle.made_input.specs.Texts.{edge_fields, edge_rows, supervoxel_rows}
use Rattle.made_input.specs.declared.edges.MadeEdge.{MadeEdge}
use Rattle.made_input.specs.declared.wish.Wish.{Wish}
use Rattle.made_input.proofs.Places.{some_chunks}
use Rattle.made_input.proofs.Plain.{affinity_few, edges_plain, neighbour_near, supervoxels_plain}
use Rattle.made_input.proofs.Records.{records_are}
use Rattle.made_bases.proofs.Ids.{ids_read}
use Rattle.made_bases.proofs.Turns.{AllRead, all_last, all_meant, each_as, each_last}
use Rattle.made_bases.proofs.Pairs.{Differs, IsLaid, edge_read, known}
use Rattle.made_bases.specs.Laws.{as_edge, base_made}

-- ---- the edges, supervoxel by supervoxel

module _ (w : Wish) (ok : IsWish w) where
  abbrev AreRead : List MadeEdge → Type 0
  AreRead es = AllRead tables.Edges (edge_of (known w ok)) (edge_fields w) (as_edge w) [] es

  abbrev Reaches : ℕ → MadeEdge → Type 0
  Reaches k e = IsLaid w ok e × (e.b ≤ k)

  -- an edge that leads to supervoxel k comes from the one before it, in another chunk
  abbrev Below : ℕ → MadeEdge → Type 0
  Below k e = IsLaid w ok e × (e.b ≤ k) × (e.b ≡ k → (e.a + 1 ≡ k) × (2 ≤ chunks w))

  inner_read : (k : ℕ) (made : Made) → k < w.size → AreRead made.0 → AllByRecursion (Below k) made.0
      → AreRead (with_inner w k made).0 × AllByRecursion (Reaches k) (with_inner w k made).0
  unfolding with_inner
  inner_read k made lt r h = go (leb (chunks w) k) refl
    where
      e : MadeEdge
      e = record { a = k - chunks w; b = k; affinity = 1 + shown 100 (next made.1); active = not (eqb (shown 8 (next (next made.1))) 0) }

      go : (b : Bool) → leb (chunks w) k ≡ b → AreRead (cond {A = Made} b (made.0 ++ e ∷ [], next (next made.1)) made).0 × AllByRecursion (Reaches k) (cond {A = Made} b (made.0 ++ e ∷ [], next (next made.1)) made).0
      go true is =
          let some = some_chunks w ok in
          let far = leb-true (chunks w) k is in
          let few = affinity_few (next made.1) in
          let laid : IsLaid w ok e = (omega (arith, some, far), lt, few.0, few.1) in
          let fresh = each_as (Below k) (λ f. IsLaid w ok f × Differs w ok e f) made.0 (λ f b. (b.0, λ x y. let z = b.2 y in omega (arith, x, z.0, z.1, far, some))) h in (
            all_last tables.Edges (edge_of (known w ok)) (edge_fields w) (as_edge w) made.0 e [] r (edge_read w ok made.0 e laid fresh),
            each_last (Reaches k) made.0 e (each_as (Below k) (Reaches k) made.0 (λ f b. (b.0, b.1)) h) (laid, omega arith),
          )
      go false is = (r, each_as (Below k) (Reaches k) made.0 (λ f b. (b.0, b.1)) h)

  two_chunks : (k : ℕ) → has_neighbour w k ≡ true → 2 ≤ chunks w
  two_chunks k n =
      let x = ltb-true ((k % chunks w) % w.grid.x + 1) w.grid.x (and_parts (ltb ((k % chunks w) % w.grid.x + 1) w.grid.x) (ltb (k + 1) w.size) n).0 in
      mul-le 2 1 (w.grid.x * w.grid.y) w.grid.z (mul-le 2 1 w.grid.x w.grid.y (omega (arith, x)) ok.y.0) ok.z.0

  outer_read : (k : ℕ) (made : Made) → k < w.size → AreRead made.0 → AllByRecursion (Reaches k) made.0
      → AreRead (with_outer w k made).0 × AllByRecursion (Below (suc k)) (with_outer w k made).0
  unfolding with_outer
  outer_read k made lt r h = go (has_neighbour w k) refl
    where
      e : MadeEdge
      e = record { a = k; b = k + 1; affinity = 1 + shown 100 (next (next made.1)); active = eqb (shown 2 (next (next (next made.1)))) 0 }

      later : AllByRecursion (Below (suc k)) made.0
      later = each_as (Reaches k) (Below (suc k)) made.0 (λ f b. (b.0, omega (arith, b.1), λ y. absurd (omega (arith, y, b.1)))) h

      there : (t : Bool) → has_neighbour w k ≡ true
          → AreRead (cond {A = Made} t (made.0 ++ e ∷ [], next (next (next made.1))) (made.0, next made.1)).0 × AllByRecursion (Below (suc k)) (cond {A = Made} t (made.0 ++ e ∷ [], next (next (next made.1))) (made.0, next made.1)).0
      there true n =
          let few = affinity_few (next (next made.1)) in
          let laid : IsLaid w ok e = (omega arith, neighbour_near w k n, few.0, few.1) in
          let fresh = each_as (Reaches k) (λ f. IsLaid w ok f × Differs w ok e f) made.0 (λ f b. (b.0, λ x y. omega (arith, y, b.1))) h in (
            all_last tables.Edges (edge_of (known w ok)) (edge_fields w) (as_edge w) made.0 e [] r (edge_read w ok made.0 e laid fresh),
            each_last (Below (suc k)) made.0 e later (laid, omega arith, λ y. (omega arith, two_chunks k n)),
          )
      there false n = (r, later)

      go : (b : Bool) → has_neighbour w k ≡ b
          → AreRead (cond {A = Made} b (cond {A = Made} (eqb (shown 4 (next made.1)) 0) (made.0 ++ e ∷ [], next (next (next made.1))) (made.0, next made.1)) made).0
          × AllByRecursion (Below (suc k)) (cond {A = Made} b (cond {A = Made} (eqb (shown 4 (next made.1)) 0) (made.0 ++ e ∷ [], next (next (next made.1))) (made.0, next made.1)) made).0
      go true n = there (eqb (shown 4 (next made.1)) 0) n
      go false n = (r, later)

  all_edges_read : (k : ℕ) → k ≤ w.size → AreRead (edges_below w k).0 × AllByRecursion (Below k) (edges_below w k).0
  unfolding edges_below
  all_edges_read zero le = (tt, tt)
  all_edges_read (suc k) le =
      let before = all_edges_read k (omega (arith, le)) in
      let inner = inner_read k (edges_below w k) (omega (arith, le)) before.0 before.1 in
      outer_read k (with_inner w k (edges_below w k)) (omega (arith, le)) inner.0 inner.1

  pub edges_read : edges_of (known w ok) (edge_rows w) ≡ Ok (map (as_edge w) (edges_below w w.size).0)
  unfolding edges_of table_of edge_rows is_edge_header field field_at
  edges_read = all_meant tables.Edges (edge_of (known w ok)) (edge_fields w) (as_edge w) (edges_below w w.size).0 [] 1 (all_edges_read w.size (omega arith)).0

  base_read : (d : Dataset) → d.layout ≡ w.layout → d.grid ≡ w.grid → base_of d (supervoxel_rows w) (edge_rows w) ≡ Ok (base_made w)
  unfolding base_of
  base_read d layout grid =
      let put : List Edge → Base = λ edges. record { supervoxels = ascending (known w ok); edges = put_edges edges [] } in
      ap (λ (r : Result (List ℕ) Fault). r >>= (λ ids. edges_of ids (edge_rows w) >>= (λ edges. Ok (record { supervoxels = ascending ids; edges = put_edges edges [] })))) (ids_read w d ok layout grid)
      ∙ ap (λ (r : Result (List Edge) Fault). r >>= (λ edges. Ok (put edges))) edges_read

  pub tables_spell : (d : Dataset) → d.layout ≡ w.layout → d.grid ≡ w.grid → Spells d (table_text (supervoxel_rows w)) (table_text (edge_rows w)) (base_made w)
  unfolding strip_bom table_text more_fields supervoxel_rows edge_rows
  tables_spell d layout grid = (
    supervoxel_rows w,
    edge_rows w,
    records_are (supervoxel_rows w) (supervoxels_plain w ok),
    records_are (edge_rows w) (edges_plain w ok),
    base_read d layout grid,
  )
