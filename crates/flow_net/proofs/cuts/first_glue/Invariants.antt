use Rattle.std.proofs.Common.{◌≡◌, ℕ, ◌<◌, false, map, get_or, is_none}
use Rattle.flow_net.specs.Net.{wire_of}
use Rattle.graph_model.specs.Wires.{wire}
use Rattle.flow_net.proofs.cuts.first_glue.Given as goal

abbrev pub invariant-loop-k : goal.invariant-loop-k
invariant-loop-k l = (i : ℕ) → i < l.k-index → is_none (wire (map wire_of l.links) (get_or l.cut i 0)).room ≡ false
