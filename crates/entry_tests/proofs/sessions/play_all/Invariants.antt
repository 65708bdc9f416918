use Rattle.entry_tests.specs.Servers.{IsServer}
use Rattle.entry_tests.proofs.sessions.play_all.Given as goal

abbrev pub invariant-loop-step : goal.invariant-loop-step
invariant-loop-step l = IsServer l.dataset l.w.words l.w.spare
