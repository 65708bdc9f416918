use Rattle.std.proofs.Common.{◌∙◌, ap, map, sym}
use Rattle.op_model.specs.Operations.{ascending, put_id}
use Rattle.entry_layers.proofs.LastNodes.{all_left, none_left, one_left}
use Rattle.entry_layers.proofs.roots.ids_of_made.Goals as goal

pub loop-done-init : goal.loop-done-init
loop-done-init c = c.new-list.ensures.items ∙ none_left c.args.nodes.now

pub loop-done-preserved : goal.loop-done-preserved
loop-done-preserved c =
    c.in_ok-put.ensures
    ∙ (ap (put_id c.index-nodes-nodes.result.id) c.loop-done.invariant
    ∙ one_left c.args.nodes.now c.loop-done.done c.index-nodes-nodes.result c.loop-done-test.true (sym c.index-nodes-nodes.is))

pub returns : goal.returns
returns c = c.loop-done.invariant ∙ ap (λ ns. ascending (map (λ m. m.id) ns)) (all_left c.args.nodes.now c.loop-done.done c.loop-done-test.false)
