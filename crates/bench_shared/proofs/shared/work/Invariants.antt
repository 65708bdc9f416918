use Rattle.bench_shared.specs.Passes.{IsFree}
use Rattle.bench_shared.proofs.shared.work.Given as goal

abbrev pub invariant-loop : goal.invariant-loop
invariant-loop g l = IsFree l.shared l.pass
