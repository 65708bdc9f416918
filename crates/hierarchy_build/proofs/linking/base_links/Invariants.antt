use Rattle.std.proofs.Common.{◌≡◌, ◌+◌, ◌<◌, List, ◌++◌, length, drop}
use Rattle.std.specs.List.{All, range_with_len}
use Rattle.base_rows.specs.declared.lists.BaseLink.{BaseLink}
use Rattle.octree_layers.specs.Layers.{all_nodes}
use Rattle.hierarchy_build.proofs.AllLinks.{AreLinks}
use Rattle.hierarchy_build.proofs.linking.base_links.Given as goal

abbrev pub invariant-loop-layer : goal.invariant-loop-layer
invariant-loop-layer l = record {
  leads : All (λ p. p < length l.base.supervoxels) l.leads.items;
  children : l.first_child + length l.leads.items ≡ length l.base.supervoxels + l.first_parent;
  parents : l.first_parent + length (all_nodes l.base (drop l.layer-index l.layers)) ≡ length (all_nodes l.base l.layers);
  links : (rest : List BaseLink) → AreLinks (length l.base.supervoxels) l.leads.items l.first_child l.first_parent (drop l.layer-index l.layers) rest
      → AreLinks (length l.base.supervoxels) (range_with_len 0 (length l.base.supervoxels)) 0 0 l.layers (l.links.items ++ rest);
}
