use Rattle.std.proofs.Common.{◌≡◌}
use Rattle.entry_tests.proofs.samples.are_words.Given as goal

abbrev pub invariant-loop-word : goal.invariant-loop-word
invariant-loop-word l = l.w ≡ l.fn.w
