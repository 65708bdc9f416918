use Rattle.std.proofs.Common.{map, refl, ◌∙◌, ap}
use Rattle.base_rows.proofs.Passing.{take_whole}
use Rattle.entry_parts.specs.declared.made.MadeNode.{MadeNode}
use Rattle.octree_layers.proofs.Pushes.{map_pushed}
use Rattle.entry_lists.proofs.nodes.chunks_of.Goals as goal

pub loop-node-init : goal.loop-node-init
loop-node-init c = c.new-list.ensures.items

pub loop-node-preserved : goal.loop-node-preserved
loop-node-preserved c =
    map_pushed (λ (n : MadeNode). n.chunk) c.args.nodes.now c.loop-node.node-index c.node-item.result _ _ _ c.loop-node-test.true c.node-item.is refl c.loop-node.invariant c.in-Ok.ensures.items

pub returns : goal.returns
returns c = c.loop-node.invariant ∙ ap (map (λ (n : MadeNode). n.chunk)) (take_whole c.args.nodes.now c.loop-node.node-index c.loop-node-test.false)
