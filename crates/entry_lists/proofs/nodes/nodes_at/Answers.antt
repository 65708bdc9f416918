use Rattle.std.proofs.Common.{◌≡◌, true, map, sym, ◌∙◌, ap, subst}
use Rattle.graph_model.specs.Lists.{has}
use Rattle.base_rows.proofs.Passing.{take_whole}
use Rattle.entry_parts.specs.declared.made.MadeNode.{MadeNode}
use Rattle.octree_layers.proofs.Pushes.{map_pushed}
use Rattle.entry_lists.specs.Parts.{base_node}
use Rattle.entry_lists.proofs.nodes.nodes_at.Goals as goal

pub loop-node-init : goal.loop-node-init
loop-node-init c = c.new-list.ensures.items

pub node_at-placed-requires-clause-known : goal.node_at-placed-requires-clause-known
node_at-placed-requires-clause-known c =
    subst (λ (n : MadeNode). has c.args.ids.now n.chunk ≡ true) (sym c.node-item.is) (c.requires.known c.loop-node.node-index c.node-item.result c.loop-node-test.true)

pub loop-node-preserved : goal.loop-node-preserved
loop-node-preserved c =
    map_pushed (base_node c.args.ids.now) c.args.nodes.now c.loop-node.node-index c.node-item.result _ _ _ c.loop-node-test.true c.node-item.is c.node_at-placed.ensures c.loop-node.invariant c.in-Ok.ensures.items

pub returns : goal.returns
returns c = c.loop-node.invariant ∙ ap (map (base_node c.args.ids.now)) (take_whole c.args.nodes.now c.loop-node.node-index c.loop-node-test.false)
