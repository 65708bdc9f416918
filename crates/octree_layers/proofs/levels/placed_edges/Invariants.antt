use Rattle.std.proofs.Common.{◌≡◌, map, take}
use Rattle.base_rows.specs.declared.lists.BaseEdge.{BaseEdge}
use Rattle.octree_layers.specs.Places.{placed}
use Rattle.octree_layers.proofs.levels.placed_edges.Given as goal

abbrev pub invariant-loop-end : goal.invariant-loop-end
invariant-loop-end l = l.list.items ≡ map (λ (x : BaseEdge). placed l.dataset l.base x.edge) (take l.end-index l.ends)
