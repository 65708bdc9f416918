use Rattle.std.proofs.Common.{take}
use Rattle.op_model.specs.Edges.{linked}
use Rattle.plain_hierarchy.specs.Growth.{Grows}
use Rattle.plain_hierarchy.proofs.growth.add_linked.Given as goal

abbrev pub invariant-loop-edge : goal.invariant-loop-edge
invariant-loop-edge l = Grows (linked (take l.edge-index l.edges)) l.members l.from l.fn.found.items l.found.items
