use Rattle.std.proofs.Common.{◌≡◌, map, take}
use Rattle.layer_laws.specs.Building.{at}
use Rattle.made_nodes.proofs.finding.leasts.Given as goal

abbrev pub invariant-loop-place : goal.invariant-loop-place
invariant-loop-place l = l.list.items ≡ map (at l.firsts) (take l.place-index l.places)
