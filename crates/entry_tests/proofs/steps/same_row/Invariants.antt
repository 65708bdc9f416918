use Rattle.std.proofs.Common.{◌≡◌}
use Rattle.entry_tests.proofs.steps.same_row.Given as goal

abbrev pub invariant-loop-k : goal.invariant-loop-k
invariant-loop-k l = l.w ≡ l.fn.w
