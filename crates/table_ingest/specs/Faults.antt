-- What may be wrong with a table.
use Rattle.std.specs.Prelude.{ℕ, Bool, if◌then◌else◌, List, codes, Option, Result, Ok, Err, ok_or}
use Rattle.table_ingest.specs.declared.errors.Table.{Table}
use Rattle.table_ingest.specs.declared.errors.Table.TheVariants as tables
use Rattle.table_ingest.specs.declared.errors.Cause.{Cause}
use Rattle.table_ingest.specs.declared.errors.Cause.TheVariants as cause

-- which record of which table, and what is wrong with it; the header is record 0
pub record Fault : Type 0 where
  pub table : Table
  pub row : ℕ
  pub cause : Cause

infixl 10 ◌>>=◌
abbrev pub ◌>>=◌ : {A B E : Type 0} → Result A E → (A → Result B E) → Result B E
Ok x >>= f = f x
Err e >>= f = Err e

-- the value, or this cause where there is none
abbrev pub or_cause : {A : Type 0} → Cause → Option A → Result A Cause
or_cause c o = ok_or o c

-- the value, or this cause where the test fails of it
abbrev pub only_if : {A : Type 0} → (A → Bool) → Cause → A → Result A Cause
only_if test c x = if test x then Ok x else Err c

-- the text of a table's name
abbrev pub table_name : Table → List ℕ
table_name tables.Supervoxels = codes "supervoxels"
table_name tables.Edges = codes "edges"

-- the text of a cause's name
abbrev pub cause_name : Cause → List ℕ
cause_name cause.BadHeader = codes "BadHeader"
cause_name cause.FieldCount = codes "FieldCount"
cause_name cause.BadId = codes "BadId"
cause_name cause.WrongLayer = codes "WrongLayer"
cause_name cause.OutsideGrid = codes "OutsideGrid"
cause_name cause.ZeroSegment = codes "ZeroSegment"
cause_name cause.DoubleSupervoxel = codes "DoubleSupervoxel"
cause_name cause.UnknownEnd = codes "UnknownEnd"
cause_name cause.SelfEdge = codes "SelfEdge"
cause_name cause.DoubleEdge = codes "DoubleEdge"
cause_name cause.BadAffinity = codes "BadAffinity"
cause_name cause.BadActive = codes "BadActive"
cause_name cause.GlueInactive = codes "GlueInactive"
