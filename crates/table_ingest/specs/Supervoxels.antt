-- What a record of the supervoxel table means.
use Rattle.std.specs.Prelude.{ℕ, Bool, not, ◌&&◌, ◌==◌, List, length, Result, codes, bytes_eq}
use Rattle.node_ids.specs.Digits.{number_of}
use Rattle.node_ids.specs.Ids.{parts_of}
use Rattle.chunk_geometry.specs.Grids.{in_grid}
use Rattle.op_model.specs.Lists.{has}
use Rattle.op_model.specs.declared.base.Dataset.{Dataset}
use Rattle.table_ingest.specs.Records.{field}
use Rattle.table_ingest.specs.Faults.{Fault, ◌>>=◌, or_cause, only_if}
use Rattle.table_ingest.specs.Tables.{table_of}
use Rattle.table_ingest.specs.declared.errors.Table.TheVariants as tables
use Rattle.table_ingest.specs.declared.errors.Cause.{Cause}
use Rattle.table_ingest.specs.declared.errors.Cause.TheVariants as cause

-- the one field `supervoxel`
unfoldable pub is_id_header : List (List ℕ) → Bool
is_id_header fields = length fields == 1 && bytes_eq (field fields 0) (codes "supervoxel")

-- the id of a record with one field, in the digits that spell it
unfoldable pub id_of : List (List ℕ) → Result ℕ Cause
id_of fields = do
  one ← only_if (λ fs. length fs == 1) cause.FieldCount fields
  or_cause cause.BadId (number_of (field one 0))

-- the id, if it has layer 1, a chunk in the grid and a segment
unfoldable pub placed : Dataset → ℕ → Result ℕ Cause
placed d id =
    let p = parts_of d.layout id in
    only_if (λ v. p.layer == 1) cause.WrongLayer id
    >>= only_if (λ v. in_grid d.grid (record { x = p.x; y = p.y; z = p.z })) cause.OutsideGrid
    >>= only_if (λ v. not (p.segment == 0)) cause.ZeroSegment

-- the id of a record, if it is one of the dataset's supervoxels
abbrev pub placed_id : Dataset → List (List ℕ) → Result ℕ Cause
placed_id d fields = id_of fields >>= placed d

-- the supervoxel of a record, where those before it have these ids
unfoldable pub supervoxel_of : Dataset → List ℕ → List (List ℕ) → Result ℕ Cause
supervoxel_of d before fields =
    placed_id d fields >>= only_if (λ v. not (has before v)) cause.DoubleSupervoxel

-- the ids of a supervoxel table in the order of its records, or the first record with a cause
unfoldable pub ids_of : Dataset → List (List (List ℕ)) → Result (List ℕ) Fault
ids_of d rows = table_of tables.Supervoxels is_id_header (supervoxel_of d) rows
