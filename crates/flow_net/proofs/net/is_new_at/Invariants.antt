use Rattle.std.proofs.Common.{◌≡◌, ℕ, true, not, map}
use Rattle.graph_model.specs.Cuts.{each_below}
use Rattle.graph_model.specs.Wires.{wire}
use Rattle.flow_net.specs.Net.{wire_of}
use Rattle.flow_net.specs.Tests.{same_pair}
use Rattle.flow_net.proofs.net.is_new_at.Given as goal

abbrev pub invariant-loop-j : goal.invariant-loop-j
invariant-loop-j l = each_below (λ (j : ℕ). not (same_pair (wire (map wire_of l.links) j) (wire (map wire_of l.links) l.fn.k))) l.j ≡ true
