-- Inner: no clause of `run` is made of it.
-- Passes as the tests have them.
use Rattle.std.specs.Prelude.{◌≡◌, ℕ}
use Rattle.shared_rows.specs.Known.{Known, Place, IsIdle}
use Rattle.shared_rows.specs.Starts.{begun_view}
use Rattle.thread_tests.specs.Samples.{told}

-- a pass of these rows that may be gathered
pub record Ends (s : Place) (p : Known) : Type 0 where
  pub table_is : p.table ≡ s.table
  pub idle : IsIdle p.view

-- a pass of these rows as the start of the sample made it
pub record IsBegun (s : Place) (p : Known) : Type 0 where
  pub table_is : p.table ≡ s.table
  pub origin_is : s.origin ≡ told
  pub number : ℕ
  pub permits : ℕ
  pub view_is : p.view ≡ begun_view told number permits
