use Rattle.octree_layers.proofs.Steps.{num_step, num_end, behind_low}
use Rattle.octree_layers.proofs.numbering.numbered.Goals as goal

pub loop-owner-preserved : goal.loop-owner-preserved
loop-owner-preserved c = (
  num_step c.loop-owner.last c.loop-owner.label c.args.owners.now c.loop-owner.owner-index c.owner-item.result c.number_behind-label.result c.id_of.result c.loop-owner.list.items c.push.new.self.items _ c.loop-owner-test.true c.owner-item.is
      c.number_behind-label.ensures c.id_of.ensures c.loop-owner.invariant.0 c.in-Ok.ensures.items,
  behind_low c.loop-owner.last c.loop-owner.label c.owner-item.result.chunk c.number_behind-label.result c.loop-owner.owner-index c.number_behind-label.ensures c.loop-owner.invariant.1,
)

pub returns : goal.returns
returns c = num_end c.loop-owner.last c.loop-owner.label c.args.owners.now c.loop-owner.owner-index c.loop-owner.list.items _ c.loop-owner-test.false c.loop-owner.invariant.0
