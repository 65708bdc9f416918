use Rattle.std.proofs.Common.{◌≡◌, ◌≤◌, ◌*◌, sum, take}
use Rattle.lane_kernels.proofs.sums.sum_affinities.Given as goal

abbrev pub invariant-loop-block : goal.invariant-loop-block
invariant-loop-block l = (l.total ≡ sum (take (8 * l.block) l.list)) × (l.total ≤ 4294967295 * (8 * l.block))

abbrev pub invariant-loop-i : goal.invariant-loop-i
invariant-loop-i l = (l.total ≡ sum (take l.i l.list)) × (l.total ≤ 4294967295 * l.i)
