-- Inner: no clause of `run` is made of it.
-- What the timed functions need.
use Rattle.std.specs.Prelude.{◌≡◌, ℕ, ◌≤◌}
use Rattle.shared_rows.specs.Known.{Known, Place, IsIdle}

-- from 1 to 100,000 supervoxels
abbrev pub IsCount : ℕ → Type 0
IsCount n = (1 ≤ n) × (n ≤ 100000)

-- a pass of these rows that has no lock, no turn and no draft
pub record IsFree (s : Place) (p : Known) : Type 0 where
  pub table_is : p.table ≡ s.table
  pub idle : IsIdle p.view
