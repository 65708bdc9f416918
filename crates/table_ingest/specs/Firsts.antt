-- Inner: no clause of `run` is made of it.
-- The first record of a table that means nothing.
use Rattle.std.specs.Prelude.{◌≡◌, ◌⊎◌, ℕ, ◌+◌, Bool, true, List, [], ◌∷◌, ◌++◌, length, Result, Ok, Err}
use Rattle.op_model.specs.declared.base.Dataset.{Dataset}
use Rattle.table_ingest.specs.Records.{HasNoHeader}
use Rattle.table_ingest.specs.Faults.{Fault}
use Rattle.table_ingest.specs.Tables.{meanings}
use Rattle.table_ingest.specs.Supervoxels.{is_id_header, supervoxel_of, ids_of}
use Rattle.table_ingest.specs.Edges.{is_edge_header, edge_of}
use Rattle.table_ingest.specs.declared.errors.Table.{Table}
use Rattle.table_ingest.specs.declared.errors.Table.TheVariants as tables
use Rattle.table_ingest.specs.declared.errors.Cause.{Cause}
use Rattle.table_ingest.specs.declared.errors.Cause.TheVariants as cause

-- the first record isn't the header, or there is none
abbrev pub LacksHeader : (List (List ℕ) → Bool) → List (List (List ℕ)) → ℕ → Cause → Type 0
LacksHeader is_header rows n c = HasNoHeader is_header rows × (n ≡ 0) × (c ≡ cause.BadHeader)

-- behind the header as many records as this number says mean something, and the next one has this cause beside them
abbrev pub StopsAt : {A : Type 0} → Table → (List (List ℕ) → Bool) → (List A → List (List ℕ) → Result A Cause) → List (List (List ℕ)) → ℕ → Cause → Type 0
StopsAt {A} t is_header read rows n c =
    (header : List (List ℕ)) × (front : List (List (List ℕ))) × (fields : List (List ℕ)) × (back : List (List (List ℕ))) × (items : List A)
    × (rows ≡ header ∷ (front ++ fields ∷ back)) × (is_header header ≡ true) × (n ≡ length front + 1)
    × (meanings t read [] 1 front ≡ Ok items) × (read items fields ≡ Err c)

-- the fault is that of the supervoxel table
abbrev pub InSupervoxels : Dataset → List (List (List ℕ)) → Fault → Type 0
InSupervoxels d rows f =
    (f.table ≡ tables.Supervoxels)
    × (LacksHeader is_id_header rows f.row f.cause ⊎ StopsAt tables.Supervoxels is_id_header (supervoxel_of d) rows f.row f.cause)

-- the supervoxel table has none, and the fault is that of the edge table
abbrev pub InEdges : Dataset → List (List (List ℕ)) → List (List (List ℕ)) → Fault → Type 0
InEdges d supervoxel_rows edge_rows f =
    (ids : List ℕ) × (ids_of d supervoxel_rows ≡ Ok ids) × (f.table ≡ tables.Edges)
    × (LacksHeader is_edge_header edge_rows f.row f.cause ⊎ StopsAt tables.Edges is_edge_header (edge_of ids) edge_rows f.row f.cause)
