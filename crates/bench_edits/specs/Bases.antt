-- Inner: no clause of `run` is made of it.
-- How much is asked, and the dataset of the base.
use Rattle.std.specs.Prelude.{◌≡◌, ℕ, ◌≤◌}
use Rattle.op_model.specs.declared.base.Dataset.{Dataset}

-- from 1 to 1,000,000 supervoxels, and from 10 to 1,000,000 merges
abbrev pub IsCount : ℕ → ℕ → Type 0
IsCount count edits = (1 ≤ count) × (count ≤ 1000000) × (10 ≤ edits) × (edits ≤ 1000000)

-- 16 base chunks along each axis, and 32 bits for the numbers of each
pub record IsWide (d : Dataset) : Type 0 where
  pub bits : d.layout.bits ≡ 8
  pub x : d.grid.x ≡ 16
  pub y : d.grid.y ≡ 16
  pub z : d.grid.z ≡ 16
