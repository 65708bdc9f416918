use Rattle.std.proofs.Common.{◌≡◌, map, get_or, eqb}
use Rattle.std.specs.List.{filter, range_with_len}
use Rattle.octree_layers.specs.Numbers.{owner}
use Rattle.octree_layers.proofs.numbering.owners.Given as goal

abbrev pub invariant-loop-place : goal.invariant-loop-place
invariant-loop-place l = l.list.items ≡ map (owner l.dataset l.base l.layer) (filter (λ i. eqb (get_or l.firsts i 0) i) (range_with_len 0 l.place))
