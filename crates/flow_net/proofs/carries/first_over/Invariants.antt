use Rattle.std.proofs.Common.{◌≡◌, None, map}
use Rattle.flow_net.specs.Net.{first_below, wire_of}
use Rattle.flow_net.specs.Verdict.{over_room}
use Rattle.flow_net.proofs.carries.first_over.Given as goal

abbrev pub invariant-loop-k : goal.invariant-loop-k
invariant-loop-k l = first_below (over_room (map wire_of l.links) l.amounts) l.k ≡ None
