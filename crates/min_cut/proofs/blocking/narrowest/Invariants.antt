use Rattle.std.proofs.Common.{ℕ, ◌<◌, ◌≤◌}
use Rattle.min_cut.specs.Steps.{step_at}
use Rattle.min_cut.proofs.blocking.narrowest.Given as goal

abbrev pub invariant-loop-i : goal.invariant-loop-i
invariant-loop-i l = record {
  each : (j : ℕ) → j < l.i → l.width ≤ (step_at l.steps j).room;
  most : l.width ≤ 8589934592;
  some : ((j : ℕ) → j < l.depth → 0 < (step_at l.steps j).room) → 0 < l.width;
}
