use Rattle.std.proofs.Common.{◌≡◌, ◌++◌, map, take}
use Rattle.base_rows.specs.declared.lists.BaseNode.{BaseNode}
use Rattle.entry_rows.proofs.owners.put_ids.Given as goal

abbrev pub invariant-loop-node : goal.invariant-loop-node
invariant-loop-node l = l.list.items ≡ l.fn.list.items ++ map (λ (n : BaseNode). n.id) (take l.node-index l.nodes)
