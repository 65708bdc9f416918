-- Inner: no clause of `run` is made of it.
-- Laws over the first entry.
use Rattle.std.specs.Prelude.{ℕ, ◌≤◌, ◌<◌, ◌^◌, [], ◌∷◌, length}
use Rattle.op_model.specs.declared.base.Dataset.{Dataset}
use Rattle.op_model.specs.declared.base.Base.{Base}
use Rattle.op_model.specs.Legal.{Legal}
use Rattle.op_model.specs.Operations.{first_entry}
use Rattle.op_model.specs.Valid.{IsDataset}

-- a base of at most 255 supervoxels begins a legal log
abbrev pub SmallBasesAreLegal : Type 0
SmallBasesAreLegal = (d : Dataset) (b : Base) (at : ℕ) → IsDataset d → length b.supervoxels ≤ 255 → at < 2 ^ 62 → Legal d b (first_entry d b at ∷ [])
