-- The base that a supervoxel table and an edge table spell.
use Rattle.std.specs.Prelude.{◌≡◌, ⊤, ℕ, IsTrue, List, [], ◌∷◌, Result, Ok, Err}
use Rattle.op_model.specs.declared.base.Dataset.{Dataset}
use Rattle.op_model.specs.declared.base.Base.{Base}
use Rattle.op_model.specs.declared.base.Edge.{Edge}
use Rattle.op_model.specs.Edges.{pair_before, put_edges}
use Rattle.op_model.specs.Operations.{ascending}
use Rattle.table_ingest.specs.Records.{Are}
use Rattle.table_ingest.specs.Faults.{Fault, ◌>>=◌}
use Rattle.table_ingest.specs.Supervoxels.{ids_of}
use Rattle.table_ingest.specs.Edges.{edges_of}
use Rattle.table_ingest.specs.declared.errors.Table.{Table}
use Rattle.table_ingest.specs.declared.errors.Cause.{Cause}
use Rattle.table_ingest.specs.declared.errors.TableError.{TableError}
use Rattle.table_ingest.specs.declared.errors.TableError.TheVariants as errors

-- the base of two tables with these records, ascending; or the first record with a cause, those of the supervoxel table first
unfoldable pub base_of : Dataset → List (List (List ℕ)) → List (List (List ℕ)) → Result Base Fault
base_of d supervoxel_rows edge_rows = do
  ids ← ids_of d supervoxel_rows
  edges ← edges_of ids edge_rows
  Ok (record { supervoxels = ascending ids; edges = put_edges edges [] })

-- two texts are tables that spell this base
abbrev pub Spells : Dataset → List ℕ → List ℕ → Base → Type 0
Spells d supervoxels edges b =
    (supervoxel_rows edge_rows : List (List (List ℕ))) × Are supervoxels supervoxel_rows × Are edges edge_rows × (base_of d supervoxel_rows edge_rows ≡ Ok b)

-- of two texts, this record of this table is the first one with a cause, and this is its first cause
abbrev pub Faulty : Dataset → List ℕ → List ℕ → Table → ℕ → Cause → Type 0
Faulty d supervoxels edges t n c =
    (supervoxel_rows edge_rows : List (List (List ℕ))) × Are supervoxels supervoxel_rows × Are edges edge_rows
    × (base_of d supervoxel_rows edge_rows ≡ Err (record { table = t; row = n; cause = c }))

-- an answer is the base that two texts spell or their first fault, unless memory ran out
abbrev pub Answers : Dataset → List ℕ → List ℕ → Result Base TableError → Type 0
Answers d supervoxels edges (Ok b) = Spells d supervoxels edges b
Answers d supervoxels edges (Err (errors.Bad t n c)) = Faulty d supervoxels edges t n c
Answers d supervoxels edges (Err errors.NoMemory) = ⊤

-- the pair of each edge is before that of the next one
abbrev pub AscendByPair : List Edge → Type 0
AscendByPair [] = ⊤
AscendByPair (e ∷ []) = ⊤
AscendByPair (e ∷ f ∷ es) = IsTrue (pair_before e.pair f.pair) × AscendByPair (f ∷ es)
