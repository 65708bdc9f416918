use Rattle.entry_tests.specs.Servers.{IsServer}
use Rattle.entry_tests.proofs.sessions.numbers_are_used.Given as goal

abbrev pub invariant-loop : goal.invariant-loop
invariant-loop l = IsServer l.d l.w.words l.w.spare
