use Rattle.std.proofs.Common.{◌≡◌, map, take}
use Rattle.entry_parts.specs.declared.made.MadeNode.{MadeNode}
use Rattle.entry_lists.proofs.links.node_ids_of.Given as goal

abbrev pub invariant-loop-node : goal.invariant-loop-node
invariant-loop-node l = l.list.items ≡ map (λ (n : MadeNode). n.id) (take l.node-index l.nodes)
