use Rattle.std.proofs.Common.{◌≡◌}
use Rattle.row_tests.proofs.checks.keep_all.Given as goal

abbrev pub invariant-loop-k : goal.invariant-loop-k
invariant-loop-k l = l.w ≡ l.fn.w
