use Rattle.std.proofs.Common.{All, length}
use Rattle.thread_tests.specs.Ending.{Ends}
use Rattle.thread_tests.proofs.ending.gather_all.Given as goal

abbrev pub invariant-loop-other : goal.invariant-loop-other
invariant-loop-other l = Ends l.shared l.all × All (Ends l.shared) l.rest.items

abbrev pub decreases-loop-other : goal.decreases-loop-other
decreases-loop-other l = length l.rest.items
