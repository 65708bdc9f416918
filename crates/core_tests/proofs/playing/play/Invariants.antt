use Rattle.core_tests.specs.Running.{IsRunning}
use Rattle.core_tests.proofs.playing.play.Given as goal

-- the core may go on
abbrev pub invariant-loop-client : goal.invariant-loop-client
invariant-loop-client l = IsRunning l.core
