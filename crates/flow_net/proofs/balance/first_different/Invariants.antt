use Rattle.std.proofs.Common.{◌≡◌, None}
use Rattle.flow_net.specs.Net.{first_below}
use Rattle.flow_net.specs.Sums.{differs}
use Rattle.flow_net.proofs.balance.first_different.Given as goal

abbrev pub invariant-loop-i : goal.invariant-loop-i
invariant-loop-i l = first_below (differs l.sources l.sinks l.into l.out l.first) l.i ≡ None
