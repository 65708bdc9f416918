use Rattle.std.proofs.Common.{◌≡◌}
use Rattle.client_events.specs.Masks.{are_held, numbers}
use Rattle.client_events.proofs.locks.holds_each.Given as goal

abbrev pub invariant-loop-n : goal.invariant-loop-n
invariant-loop-n l = are_held l.locks l.client (numbers l.mask 0) ≡ are_held l.locks l.client (numbers l.mask l.n)
