-- The answer to two texts, from what their tables gave.
use Rattle.std.proofs.Common.{◌≡◌, ℕ, List, [], Result, Ok, Err, sym, ◌∙◌, ap, subst}
use Rattle.std.specs.List.{IsDistinct}
use Rattle.op_model.specs.declared.base.Dataset.{Dataset}
use Rattle.op_model.specs.declared.base.Base.{Base}
use Rattle.op_model.specs.declared.base.Edge.{Edge}
use Rattle.op_model.specs.Edges.{put_edges}
use Rattle.op_model.specs.Operations.{ascending}
use Rattle.table_ingest.specs.Records.{Are}
use Rattle.table_ingest.specs.Faults.{Fault, ◌>>=◌}
use Rattle.table_ingest.specs.Tables.{Gives}
use Rattle.table_ingest.specs.Supervoxels.{ids_of}
use Rattle.table_ingest.specs.Edges.{edges_of, same_ends}
use Rattle.table_ingest.specs.Bases.{base_of, Spells, Answers}
use Rattle.table_ingest.specs.declared.errors.TableError.{TableError}
use Rattle.table_ingest.specs.declared.errors.TableError.TheVariants as errors
use Rattle.table_ingest.proofs.Facts.{edges_good}
use Rattle.table_ingest.proofs.Total.{some_rows}

abbrev Rows : Type 0
Rows = List (List (List ℕ))

module _ (d : Dataset) (supervoxels edges : List ℕ) where
  ids_decide : (rows others : Rows) (f : Fault) → ids_of d rows ≡ Err f → base_of d rows others ≡ Err f
  unfolding base_of
  ids_decide rows others f e = ap (λ m. m >>= (λ ids. edges_of ids others >>= (λ es. Ok (record { supervoxels = ascending ids; edges = put_edges es [] })))) e

  edges_decide : (rows others : Rows) (ids : List ℕ) (m : Result (List Edge) Fault) → ids_of d rows ≡ Ok ids → edges_of ids others ≡ m
      → base_of d rows others ≡ (m >>= (λ es. Ok (record { supervoxels = ascending ids; edges = put_edges es [] })))
  unfolding base_of
  edges_decide rows others ids m i e =
      ap (λ x. x >>= (λ ks. edges_of ks others >>= (λ es. Ok (record { supervoxels = ascending ks; edges = put_edges es [] })))) i
      ∙ ap (λ x. x >>= (λ es. Ok (record { supervoxels = ascending ids; edges = put_edges es [] }))) e

  -- the supervoxel table gave no ids
  pub ids_stop : (V : Type 0) (view : V → List ℕ) (err : TableError) (r : Result Base TableError) → r ≡ Err err → ((rows : Rows) → Are supervoxels rows → Gives view (Err err) (ids_of d rows)) → Answers d supervoxels edges r
  ids_stop V view err r is g = subst (Answers d supervoxels edges) (sym is) (go err g)
    where
      go : (x : TableError) → ((rows : Rows) → Are supervoxels rows → Gives view (Err x) (ids_of d rows)) → Answers d supervoxels edges (Err x)
      go errors.NoMemory h = tt
      go (errors.Bad t n c) h =
          let rows = some_rows supervoxels in
          let others = some_rows edges in
          (rows.0, others.0, rows.1, others.1, ids_decide rows.0 others.0 (record { table = t; row = n; cause = c }) (h rows.0 rows.1))

  module _ (ids : List ℕ) (known : (rows : Rows) → Are supervoxels rows → ids_of d rows ≡ Ok ids) where
    -- the edge table gave no edges
    pub edges_stop : (V : Type 0) (view : V → List Edge) (err : TableError) (r : Result Base TableError) → r ≡ Err err → ((rows : Rows) → Are edges rows → Gives view (Err err) (edges_of ids rows)) → Answers d supervoxels edges r
    edges_stop V view err r is g = subst (Answers d supervoxels edges) (sym is) (go err g)
      where
        go : (x : TableError) → ((rows : Rows) → Are edges rows → Gives view (Err x) (edges_of ids rows)) → Answers d supervoxels edges (Err x)
        go errors.NoMemory h = tt
        go (errors.Bad t n c) h =
            let rows = some_rows supervoxels in
            let others = some_rows edges in
            (rows.0, others.0, rows.1, others.1, edges_decide rows.0 others.0 ids (Err (record { table = t; row = n; cause = c })) (known rows.0 rows.1) (h others.0 others.1))

    module _ (es : List Edge) (given : (rows : Rows) → Are edges rows → edges_of ids rows ≡ Ok es) where
      -- no pair came twice
      pub pairs_once : IsDistinct same_ends es
      pairs_once = let others = some_rows edges in (edges_good ids others.0 es (given others.0 others.1)).0

      -- both tables gave what they spell
      pub spelled : (sorted : List ℕ) (kept : List Edge) → sorted ≡ ascending ids → kept ≡ put_edges es [] → Spells d supervoxels edges (record { supervoxels = sorted; edges = kept })
      spelled sorted kept i e =
          let rows = some_rows supervoxels in
          let others = some_rows edges in
          let b : Base = record { supervoxels = ascending ids; edges = put_edges es [] } in
          let c : Base = record { supervoxels = sorted; edges = kept } in
          let same : b ≡ c = ap (λ x. record { supervoxels = x; edges = put_edges es [] }) (sym i) ∙ ap (λ x. record { supervoxels = sorted; edges = x }) (sym e) in
          (rows.0, others.0, rows.1, others.1, edges_decide rows.0 others.0 ids (Ok es) (known rows.0 rows.1) (given others.0 others.1) ∙ ap Ok same)
