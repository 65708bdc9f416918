use Rattle.std.proofs.Common.{◌≡◌, map, take}
use Rattle.std.specs.List.{All}
use Rattle.base_rows.specs.declared.lists.BaseEdge.{BaseEdge}
use Rattle.base_rows.specs.Lists.{IsPlaced}
use Rattle.octree_layers.proofs.edging.edge_places.Given as goal

abbrev pub invariant-loop-edge : goal.invariant-loop-edge
invariant-loop-edge l = (map (λ (x : BaseEdge). x.edge) l.list.items ≡ take l.edge-index l.base.edges) × All (IsPlaced l.base.supervoxels) l.list.items
