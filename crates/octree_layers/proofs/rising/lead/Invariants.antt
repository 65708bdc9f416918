use Rattle.std.proofs.Common.{◌≡◌, map, take, get_or}
use Rattle.octree_layers.proofs.rising.lead.Given as goal

abbrev pub invariant-loop-first : goal.invariant-loop-first
invariant-loop-first l = l.list.items ≡ map (λ f. get_or l.least f 0) (take l.first-index l.firsts)
