use Rattle.std.proofs.Common.{◌≡◌, map, take}
use Rattle.std.specs.List.{filter}
use Rattle.octree_layers.specs.Pairs.{pair_at}
use Rattle.octree_layers.proofs.rising.active_pairs.Given as goal

abbrev pub invariant-loop-edge : goal.invariant-loop-edge
invariant-loop-edge l = l.list.items ≡ map (pair_at l.firsts) (filter (λ e. e.active) (take l.edge-index l.edges))
