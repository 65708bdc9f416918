-- What a link's amount leaves of its room, as numbers of 64 bits give it.
use Rattle.std.proofs.Common.{◌≡◌, ℕ, ◌+◌, ◌<◌, ◌^◌, ℤ, pos, negsuc, ◌+ℤ◌, ◌-ℤ◌, Some, arith, to_z, of_z, w64}
use Rattle.std.proofs.Math.IntN.{nat_abs}
use Rattle.std.proofs.lemmas.Int.{ints}
use Rattle.graph_model.specs.Flows.{Fitting, forth, back}

pub left_back : (r : ℕ) (z : ℤ) → r < 2 ^ 32 → Fitting (Some r) z → nat_abs (to_z w64 (of_z w64 (to_z w64 r +ℤ to_z w64 (of_z w64 z)))) + back z ≡ r + forth z
left_back r (pos n) l f = let a = f.0 in omega (arith, ints)
left_back r (negsuc n) l f = let a = f.1 in omega (arith, ints)

pub left_forth : (r : ℕ) (z : ℤ) → r < 2 ^ 32 → Fitting (Some r) z → nat_abs (to_z w64 (of_z w64 (to_z w64 r -ℤ to_z w64 (of_z w64 z)))) + forth z ≡ r + back z
left_forth r (pos n) l f = let a = f.0 in omega (arith, ints)
left_forth r (negsuc n) l f = let a = f.1 in omega (arith, ints)
