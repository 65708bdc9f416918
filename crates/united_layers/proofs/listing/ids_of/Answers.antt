use Rattle.std.proofs.Common.{◌∙◌, ap}
use Rattle.std.proofs.lemmas.List.{take_all}
use Rattle.graph_model.specs.Lists.{has}
use Rattle.united_layers.specs.Jointed.{joint_ids}
use Rattle.united_layers.proofs.Gathering.{ids_more}
use Rattle.united_layers.proofs.listing.ids_of.Goals as goal

pub loop-joint-init : goal.loop-joint-init
unfolding joint_ids
loop-joint-init c = c.new-list.ensures.items

pub loop-joint-preserved : goal.loop-joint-preserved
loop-joint-preserved c =
    ids_more c.args.joints.now c.loop-joint.joint-index c.joint-item.result c.loop-joint.list.items c.put_id.new.list.items c.put_id-in-loop-joint.new.list.items
    c.loop-joint-test.true c.joint-item.is c.loop-joint.invariant c.in_ok-put_id.ensures c.in_ok-put_id-2.ensures

pub returns-clause-same : goal.returns-clause-same
returns-clause-same c u =
    c.ascending_ids.ensures.same u ∙ ap (λ xs. has xs u) (c.loop-joint.invariant ∙ ap joint_ids (take_all c.loop-joint.joint-index c.args.joints.now c.loop-joint-test.false))
