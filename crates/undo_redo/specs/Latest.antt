-- Inner: no clause of `run` is made of it.
-- The last change of a pair.
use Rattle.std.specs.Prelude.{◌≡◌, ℕ, List, None}
use Rattle.op_model.specs.declared.base.Dataset.{Dataset}
use Rattle.op_model.specs.declared.base.Base.{Base}
use Rattle.op_model.specs.declared.base.Pair.{Pair}
use Rattle.op_model.specs.declared.entry.Changed.{Changed}
use Rattle.op_model.specs.declared.entry.Entry.{Entry}
use Rattle.record_rows.specs.Chains.{change_of}
use Rattle.record_rows.specs.LogRows.{rows_of}
use Rattle.record_rows.specs.Readings.{HoldsChange, next_place}

-- a change of this pair stands at the place
abbrev pub IsChange : Dataset → Base → List Entry → Pair → ℕ → Type 0
IsChange d b log q place = (entry : ℕ) × (c : Changed) × HoldsChange d b log place entry c × (c.pair ≡ q)

-- and no later one of it
abbrev pub IsLast : Dataset → Base → List Entry → Pair → ℕ → Type 0
IsLast d b log q place = IsChange d b log q place × (next_place (change_of q) (rows_of d b log) place ≡ None)
