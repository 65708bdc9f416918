use Rattle.std.proofs.Common.{◌≡◌, ◌<◌, length}
use Rattle.bench_shared.proofs.plain.sum_words.Given as goal

abbrev pub invariant-loop : goal.invariant-loop
invariant-loop l = (length l.words ≡ l.count) × (l.at < l.count)
