use Rattle.std.proofs.Common.{◌≡◌}
use Rattle.row_tests.proofs.checks.has_parents_by_links.Given as goal

abbrev pub invariant-loop-hint : goal.invariant-loop-hint
invariant-loop-hint l = l.w ≡ l.fn.w
