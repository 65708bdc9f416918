use Rattle.std.proofs.Common.{◌∙◌, [], map, ap}
use Rattle.std.proofs.lemmas.List.{take_all}
use Rattle.united_layers.specs.Jointed.{placed}
use Rattle.united_layers.proofs.Gathering.{joint_known, map_more}
use Rattle.united_layers.proofs.listing.placed.Goals as goal

pub loop-joint-init : goal.loop-joint-init
loop-joint-init c = c.new-list.ensures.items

pub placed_at-requires-clause-known : goal.placed_at-requires-clause-known
placed_at-requires-clause-known c =
    let k = joint_known c.args.joints.now c.loop-joint.joint-index c.joint-item.result c.loop-joint-test.true c.joint-item.is in
    (c.requires.known c.joint-item.result.a k.0, c.requires.known c.joint-item.result.b k.1)

pub loop-joint-preserved : goal.loop-joint-preserved
loop-joint-preserved c =
    map_more (placed c.args.ids.now) c.args.joints.now [] c.loop-joint.list.items _ c.loop-joint.joint-index c.joint-item.result c.placed_at.result c.loop-joint-test.true c.joint-item.is
    c.placed_at.ensures c.loop-joint.invariant c.in-Ok.ensures.items

pub returns : goal.returns
returns c = c.loop-joint.invariant ∙ ap (map (placed c.args.ids.now)) (take_all c.loop-joint.joint-index c.args.joints.now c.loop-joint-test.false)
