use Rattle.std.proofs.Common.{◌≡◌, map, take}
use Rattle.hierarchy_build.proofs.linking.leasts.Given as goal

abbrev pub invariant-loop-node : goal.invariant-loop-node
invariant-loop-node l = l.list.items ≡ map (λ m. m.least) (take l.node-index l.made)
