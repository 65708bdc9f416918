use Rattle.std.proofs.Common.{◌∙◌, ap}
use Rattle.std.proofs.lemmas.List.{take_all}
use Rattle.graph_model.specs.Lists.{has}
use Rattle.op_model.specs.Operations.{ends}
use Rattle.touched_paths.proofs.Covering.{ends_more}
use Rattle.touched_paths.proofs.climbing.end_ids.Goals as goal

pub loop-change-init : goal.loop-change-init
unfolding ends
loop-change-init c = c.new-list.ensures.items

pub loop-change-preserved : goal.loop-change-preserved
loop-change-preserved c =
    ends_more c.args.changed.now c.loop-change.change-index c.change-item.result c.loop-change.list.items c.put_id.new.list.items c.put_id-in-loop-change.new.list.items
    c.loop-change-test.true c.change-item.is c.loop-change.invariant c.in_ok-put_id.ensures c.in_ok-put_id-2.ensures

pub returns-clause-same : goal.returns-clause-same
returns-clause-same c u =
    c.ascending_ids.ensures.same u ∙ ap (λ xs. has xs u) (c.loop-change.invariant ∙ ap ends (take_all c.loop-change.change-index c.args.changed.now c.loop-change-test.false))
