use Rattle.layer_laws.specs.Building.{at}
use Rattle.made_nodes.proofs.Steps.{numbers_pushed}
use Rattle.made_nodes.proofs.finding.leasts.Goals as goal

pub loop-place-preserved : goal.loop-place-preserved
loop-place-preserved c =
    numbers_pushed (at c.args.firsts.now) c.args.places.now c.loop-place.place-index c.loop-place.list.items c.put.new.list.items
    c.loop-place-test.true c.loop-place.invariant (c.in_ok-put.ensures)
