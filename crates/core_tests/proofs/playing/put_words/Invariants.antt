use Rattle.std.proofs.Common.{◌≡◌}
use Rattle.core_tests.proofs.playing.put_words.Given as goal

-- the words stay
abbrev pub invariant-loop-k : goal.invariant-loop-k
invariant-loop-k l = l.w ≡ l.initial.w
