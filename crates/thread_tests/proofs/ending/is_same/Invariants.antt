use Rattle.std.proofs.Common.{◌≡◌, length}
use Rattle.thread_tests.proofs.ending.is_same.Given as goal

abbrev pub invariant-loop-k : goal.invariant-loop-k
invariant-loop-k g l = (l.w ≡ l.fn.w) × (length (g.W.Words.words l.fn.w) ≡ length l.words)
