use Rattle.bench_base.specs.Bases.{IsReadable}
use Rattle.bench_base.proofs.steps.time_roots.Given as goal

abbrev pub invariant-loop : goal.invariant-loop
invariant-loop g l = IsReadable l.words.words
