use Rattle.std.proofs.Common.{◌≡◌, ◌+◌, ◌≤◌, ◌++◌, length, drop}
use Rattle.octree_layers.specs.Layers.{all_nodes}
use Rattle.hierarchy_build.specs.Chunked.{all_behind}
use Rattle.hierarchy_build.proofs.chunking.base_nodes.Given as goal

abbrev pub invariant-loop-layer : goal.invariant-loop-layer
invariant-loop-layer l = record {
  nodes : l.list.items ++ all_behind l.base.supervoxels l.count (drop l.layer-index l.layers) ≡ all_behind l.base.supervoxels 0 l.layers;
  few : l.count + length (all_nodes l.base (drop l.layer-index l.layers)) ≤ length (all_nodes l.base l.layers);
}
