use Rattle.std.proofs.Common.{◌≡◌, ◌≤◌, ◌*◌, ◌^◌, map}
use Rattle.flow_net.specs.Net.{wire_of}
use Rattle.graph_model.specs.Wires.{total}
use Rattle.graph_model.specs.Lists.{has}
use Rattle.graph_model.specs.Flows.{carried_out, carried_in}
use Rattle.flow_net.proofs.carries.value_of.Given as goal

abbrev pub invariant-loop-k : goal.invariant-loop-k
invariant-loop-k l = record { out : l.leaving ≡ total (carried_out (map wire_of l.links) l.amounts (has l.sources)) l.k; inside : l.entering ≡ total (carried_in (map wire_of l.links) l.amounts (has l.sources)) l.k; bound_out : l.leaving ≤ l.k * 2 ^ 63; bound_in : l.entering ≤ l.k * 2 ^ 63 }
