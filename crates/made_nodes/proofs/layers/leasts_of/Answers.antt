use Rattle.std.proofs.Common.{refl}
use Rattle.made_nodes.specs.declared.owning.Owner.{Owner}
use Rattle.octree_layers.proofs.Pushes.{map_pushed}
use Rattle.made_nodes.proofs.layers.leasts_of.Goals as goal

pub loop-owner-preserved : goal.loop-owner-preserved
loop-owner-preserved c =
    let l = c.loop-owner in
    map_pushed (λ (o : Owner). o.least) c.args.owners.now l.owner-index c.owner-item.result c.owner-item.result.least l.list.items c.push.new.self.items
    c.loop-owner-test.true c.owner-item.is refl l.invariant c.in-Ok.ensures.items
