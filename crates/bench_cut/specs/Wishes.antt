-- Inner: no clause of `run` is made of it.
-- Which nets can be made.
use Rattle.std.specs.Prelude.{◌≤◌, ℕ}
use Rattle.bench_cut.specs.declared.words.Wish.{Wish}
use Rattle.bench_cut.specs.declared.words.Wish.TheVariants as wish

-- the numbers of a wish are in their ranges
abbrev pub IsWish : Wish → Type 0
IsWish (wish.Grid x y z seed) = (1 ≤ x) × (x ≤ 1000000) × (1 ≤ y) × (y ≤ 1000000) × (1 ≤ z) × (z ≤ 1000000)
IsWish (wish.Random vertices links seed) = (2 ≤ vertices) × (vertices ≤ 1000000)
