use Rattle.thread_tests.specs.Ending.{Ends}
use Rattle.thread_tests.proofs.publishing.watch.Given as goal

abbrev pub invariant-loop : goal.invariant-loop
invariant-loop l = Ends l.shared l.pass
