use Rattle.std.proofs.Common.{length, ◌-◌}
use Rattle.op_model.specs.Edges.{linked}
use Rattle.plain_hierarchy.proofs.Growing.{IsFound}
use Rattle.plain_hierarchy.proofs.growth.joined.Given as goal

abbrev pub invariant-loop-next : goal.invariant-loop-next
invariant-loop-next l = IsFound (linked l.edges) l.members l.fn.start l.found.items l.next

abbrev pub decreases-loop-next : goal.decreases-loop-next
decreases-loop-next l = length l.members - l.next
