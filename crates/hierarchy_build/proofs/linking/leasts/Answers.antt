use Rattle.std.proofs.Common.{refl}
use Rattle.octree_layers.specs.declared.numbering.Made.{Made}
use Rattle.octree_layers.proofs.Pushes.{map_pushed}
use Rattle.hierarchy_build.proofs.linking.leasts.Goals as goal

pub loop-node-preserved : goal.loop-node-preserved
loop-node-preserved c =
    let l = c.loop-node in
    map_pushed (λ (m : Made). m.least) c.args.made.now l.node-index c.node-item.result c.node-item.result.least l.list.items c.push.new.self.items
    c.loop-node-test.true c.node-item.is refl l.invariant c.in-Ok.ensures.items
