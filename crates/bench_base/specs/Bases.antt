-- Inner: no clause of `run` is made of it.
-- What is read and built.
use Rattle.std.specs.Prelude.{◌≤◌, ℕ, List}
use Rattle.op_model.specs.declared.base.Dataset.{Dataset}
use Rattle.op_model.specs.declared.base.Base.{Base}
use Rattle.op_model.specs.declared.entry.Entry.{Entry}
use Rattle.record_rows.specs.Readings.{ParentImage}

-- from 1 to 1,000,000 supervoxels
abbrev pub IsCount : ℕ → Type 0
IsCount n = (1 ≤ n) × (n ≤ 1000000)

-- words that reads are answered from
abbrev pub IsReadable : List ℕ → Type 0
IsReadable words = (d : Dataset) × (b : Base) × (log : List Entry) × ParentImage d b log words
