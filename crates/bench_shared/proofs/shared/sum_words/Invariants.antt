use Rattle.std.proofs.Common.{◌≡◌, ◌<◌, length}
use Rattle.bench_shared.proofs.shared.sum_words.Given as goal

abbrev pub invariant-loop : goal.invariant-loop
invariant-loop g l = (l.w ≡ l.fn.w) × (length (g.W.Words.words l.fn.w) ≡ l.count) × (l.at < l.count)
