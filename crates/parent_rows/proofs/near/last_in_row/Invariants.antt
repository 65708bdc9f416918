use Rattle.std.proofs.Common.{◌≡◌, ◌-◌}
use Rattle.parent_rows.proofs.near.last_in_row.Given as goal

abbrev pub invariant-loop-at : goal.invariant-loop-at
invariant-loop-at g l = l.w ≡ l.fn.w

abbrev pub decreases-loop-at : goal.decreases-loop-at
decreases-loop-at g l = l.end - l.at
