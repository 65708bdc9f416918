-- How many chunks may lie along an axis.
use Rattle.std.proofs.Common.{ℕ, ◌≤◌, ◌^◌, arith}
use Rattle.std.proofs.Math.Nat.{pow-le-pow_right}
use Rattle.op_model.specs.Valid.{IsAxis}

-- coordinates of 8 bits or more name 256 chunks
pub axis : (bits n : ℕ) → 8 ≤ bits → 1 ≤ n → n ≤ 256 → IsAxis bits n
axis bits n b low high =
    let most : 2 ^ 8 ≤ 2 ^ bits = pow-le-pow_right (omega arith) b in
    (low, omega arith, omega (arith, most))
