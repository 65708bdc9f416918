use Rattle.thread_tests.specs.Ending.{Ends}
use Rattle.thread_tests.proofs.locking.contend.Given as goal

abbrev pub invariant-loop : goal.invariant-loop
invariant-loop g l = Ends l.shared l.pass
