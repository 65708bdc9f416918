use Rattle.std.proofs.Common.{map}
use Rattle.flow_net.specs.Net.{wire_of}
use Rattle.graph_model.specs.Lists.{has}
use Rattle.flow_net.proofs.Reached.{SweptBelow}
use Rattle.flow_net.proofs.joined.sweep.Given as goal

abbrev pub invariant-loop-step : goal.invariant-loop-step
invariant-loop-step l = SweptBelow (map wire_of l.links) (has l.cut) l.backwards l.initial.seen l.seen l.changed l.step
