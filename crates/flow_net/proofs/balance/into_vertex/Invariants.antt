use Rattle.std.proofs.Common.{◌≡◌, ◌≤◌, ◌*◌, ◌^◌, map}
use Rattle.flow_net.specs.Net.{wire_of}
use Rattle.graph_model.specs.Wires.{total}
use Rattle.graph_model.specs.Flows.{run_in}
use Rattle.flow_net.proofs.balance.into_vertex.Given as goal

abbrev pub invariant-loop-k : goal.invariant-loop-k
invariant-loop-k l = record { sum : l.sum ≡ total (run_in (map wire_of l.links) l.amounts l.v) l.k; bound : l.sum ≤ l.k * 2 ^ 63 }
