use Rattle.std.proofs.Common.{◌≡◌, map, take}
use Rattle.made_nodes.proofs.layers.leasts_of.Given as goal

abbrev pub invariant-loop-owner : goal.invariant-loop-owner
invariant-loop-owner l = l.list.items ≡ map (λ o. o.least) (take l.owner-index l.owners)
