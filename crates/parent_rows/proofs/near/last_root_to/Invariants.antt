use Rattle.std.proofs.Common.{◌≡◌, ◌-◌}
use Rattle.parent_rows.proofs.near.last_root_to.Given as goal

abbrev pub invariant-loop-low : goal.invariant-loop-low
invariant-loop-low g l = l.w ≡ l.fn.w

abbrev pub decreases-loop-low : goal.decreases-loop-low
decreases-loop-low g l = l.high - l.low
