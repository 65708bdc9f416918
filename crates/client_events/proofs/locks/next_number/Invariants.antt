use Rattle.std.proofs.Common.{◌≡◌}
use Rattle.client_events.specs.Masks.{numbers}
use Rattle.client_events.proofs.locks.next_number.Given as goal

abbrev pub invariant-loop-n : goal.invariant-loop-n
invariant-loop-n l = numbers l.mask l.fn.from ≡ numbers l.mask l.n
