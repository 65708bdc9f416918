use Rattle.std.proofs.Common.{◌≡◌}
use Rattle.system_devices.proofs.streams.IncomingSource.read.Given as goal

abbrev pub invariant-loop : goal.invariant-loop
invariant-loop g l = l.self.faults ≡ l.fn.self.faults
