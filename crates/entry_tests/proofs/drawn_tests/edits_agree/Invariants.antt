use Rattle.entry_tests.specs.Servers.{IsServer}
use Rattle.entry_tests.proofs.drawn_tests.edits_agree.Given as goal

abbrev pub invariant-loop-line : goal.invariant-loop-line
invariant-loop-line l = IsServer l.dataset l.w.words l.w.spare
