use Rattle.std.proofs.Common.{◌≡◌, map, take}
use Rattle.entry_lists.specs.Parts.{base_node}
use Rattle.entry_lists.proofs.nodes.nodes_at.Given as goal

abbrev pub invariant-loop-node : goal.invariant-loop-node
invariant-loop-node l = l.list.items ≡ map (base_node l.ids) (take l.node-index l.nodes)
