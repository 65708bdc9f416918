use Rattle.std.proofs.Common.{◌≡◌, ◌+◌, ◌≤◌, ◌<◌, ◌++◌, length, drop}
use Rattle.hierarchy_build.specs.Chunked.{chunks_behind, nodes_behind}
use Rattle.hierarchy_build.proofs.chunking.push_nodes.Given as goal

abbrev pub invariant-loop-node : goal.invariant-loop-node
invariant-loop-node l = record {
  nodes : l.list.items ++ nodes_behind l.ids l.last l.count (drop l.node-index l.made) ≡ l.fn.list.items ++ nodes_behind l.ids 0 l.below l.made;
  count : l.count + length (chunks_behind l.last (drop l.node-index l.made)) ≡ l.below + length (chunks_behind 0 l.made);
  low : l.count ≤ l.below + l.node-index;
  some : 0 < l.last → 1 ≤ l.count;
}
