use Rattle.std.proofs.Common.{◌≡◌}
use Rattle.entry_tests.proofs.steps.same_rows.Given as goal

abbrev pub invariant-loop-row : goal.invariant-loop-row
invariant-loop-row l = l.w ≡ l.fn.w
