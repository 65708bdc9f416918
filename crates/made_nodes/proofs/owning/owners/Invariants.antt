use Rattle.std.proofs.Common.{◌≡◌, map, take}
use Rattle.made_nodes.specs.Numbers.{owner}
use Rattle.made_nodes.proofs.owning.owners.Given as goal

abbrev pub invariant-loop-least : goal.invariant-loop-least
invariant-loop-least l = l.list.items ≡ map (owner l.dataset l.ids l.layer) (take l.least-index l.leasts)
