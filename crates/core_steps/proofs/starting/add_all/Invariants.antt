use Rattle.std.proofs.Common.{◌≡◌, map}
use Rattle.core_steps.specs.Starts.{new_client}
use Rattle.core_steps.proofs.starting.add_all.Given as goal

abbrev pub invariant-loop-each : goal.invariant-loop-each
invariant-loop-each l = l.clients.items ≡ map new_client l.yielded
