use Rattle.std.proofs.Common.{◌≡◌, map}
use Rattle.session_results.specs.Begun.{client_lines}
use Rattle.session_results.proofs.starting.add_all.Given as goal

abbrev pub invariant-loop-each : goal.invariant-loop-each
invariant-loop-each l = l.list.items ≡ map client_lines l.yielded
