use Rattle.std.proofs.Common.{◌≡◌}
use Rattle.row_tests.proofs.base_checks.refuses_roots.Given as goal

abbrev pub invariant-loop-x : goal.invariant-loop-x
invariant-loop-x l = l.w ≡ l.fn.w
