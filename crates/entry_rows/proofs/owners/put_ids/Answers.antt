use Rattle.std.proofs.Common.{◌++◌, ◌∷◌, [], map, take, sym, ◌∙◌, ap, append_assoc, append-nil}
use Rattle.base_rows.specs.declared.lists.BaseNode.{BaseNode}
use Rattle.base_rows.proofs.Passing.{map_more, take_whole}
use Rattle.entry_rows.proofs.owners.put_ids.Goals as goal

pub loop-node-init : goal.loop-node-init
loop-node-init c = sym (append-nil _)

pub loop-node-preserved : goal.loop-node-preserved
loop-node-preserved c =
    c.in-Ok.ensures.items
    ∙ (ap (λ ts. ts ++ c.node-item.result.id ∷ []) c.loop-node.invariant
    ∙ (append_assoc c.args.list.now.items (map (λ (n : BaseNode). n.id) (take c.loop-node.node-index c.args.nodes.now)) _
    ∙ ap (λ ts. c.args.list.now.items ++ ts) (sym (map_more (λ (n : BaseNode). n.id) c.args.nodes.now c.loop-node.node-index c.node-item.result c.loop-node-test.true c.node-item.is))))

pub returns : goal.returns
returns c = c.loop-node.invariant ∙ ap (λ ns. c.args.list.now.items ++ map (λ (n : BaseNode). n.id) ns) (take_whole c.args.nodes.now c.loop-node.node-index c.loop-node-test.false)
