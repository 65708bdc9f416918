-- Inner: no clause of `run` is made of it.
-- What holds of all texts.
use Rattle.std.specs.Prelude.{◌≡◌, ◌≤◌, ◌⊎◌, ℕ, List, length, Err}
use Rattle.op_model.specs.declared.base.Dataset.{Dataset}
use Rattle.op_model.specs.declared.base.Base.{Base}
use Rattle.op_model.specs.Valid.{IsBase}
use Rattle.table_ingest.specs.Records.{Are}
use Rattle.table_ingest.specs.Bases.{base_of, Spells, Faulty, AscendByPair}
use Rattle.table_ingest.specs.Faults.{Fault}
use Rattle.table_ingest.specs.Firsts.{InSupervoxels, InEdges}
use Rattle.table_ingest.specs.declared.errors.Table.{Table}
use Rattle.table_ingest.specs.declared.errors.Cause.{Cause}

-- each text has its records
abbrev pub RecordsAreThere : Type 0
RecordsAreThere = (text : List ℕ) → (rows : List (List (List ℕ))) × Are text rows

-- and no others
abbrev pub RecordsAreOne : Type 0
RecordsAreOne = (text : List ℕ) (one two : List (List (List ℕ))) → Are text one → Are text two → one ≡ two

-- two texts spell a base, or one of their records is the first with a cause
abbrev pub TextsAreRead : Type 0
TextsAreRead = (d : Dataset) (supervoxels edges : List ℕ)
    → ((b : Base) × Spells d supervoxels edges b) ⊎ ((t : Table) × (n : ℕ) × (c : Cause) × Faulty d supervoxels edges t n c)

-- never both
abbrev pub BaseOrFault : Type 0
BaseOrFault = (d : Dataset) (supervoxels edges : List ℕ) (b : Base) (t : Table) (n : ℕ) (c : Cause)
    → Spells d supervoxels edges b → Faulty d supervoxels edges t n c → ⊥

-- one base
abbrev pub BasesAreOne : Type 0
BasesAreOne = (d : Dataset) (supervoxels edges : List ℕ) (one two : Base) → Spells d supervoxels edges one → Spells d supervoxels edges two → one ≡ two

-- one first fault
abbrev pub FaultsAreOne : Type 0
FaultsAreOne = (d : Dataset) (supervoxels edges : List ℕ) (t t2 : Table) (n n2 : ℕ) (c c2 : Cause)
    → Faulty d supervoxels edges t n c → Faulty d supervoxels edges t2 n2 c2 → (t ≡ t2) × (n ≡ n2) × (c ≡ c2)

-- what two texts spell is a base of the dataset, and its edges ascend
abbrev pub BasesAreValid : Type 0
BasesAreValid = (d : Dataset) (supervoxels edges : List ℕ) (b : Base) → Spells d supervoxels edges b → IsBase d b × AscendByPair b.edges

-- no more supervoxels than the one text has bytes, and no more edges than the other
abbrev pub FewRows : Type 0
FewRows = (d : Dataset) (supervoxels edges : List ℕ) (b : Base) → Spells d supervoxels edges b
    → (length b.supervoxels ≤ length supervoxels) × (length b.edges ≤ length edges)

-- the fault is that of the first record that means nothing, in the supervoxel table if it has one
abbrev pub FaultsAreFirst : Type 0
FaultsAreFirst = (d : Dataset) (supervoxel_rows edge_rows : List (List (List ℕ))) (f : Fault) → base_of d supervoxel_rows edge_rows ≡ Err f
    → InSupervoxels d supervoxel_rows f ⊎ InEdges d supervoxel_rows edge_rows f
