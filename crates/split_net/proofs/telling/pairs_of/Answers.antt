use Rattle.std.proofs.Common.{◌∙◌}
use Rattle.split_net.proofs.Carried.{pairs_next}
use Rattle.split_net.proofs.telling.pairs_of.Goals as goal

pub loop-at-preserved : goal.loop-at-preserved
loop-at-preserved c = c.in_ok-push.ensures.items ∙ pairs_next c.args.part.now c.args.links.now c.loop-at.at c.index-part-links.result c.loop-at.list.items c.loop-at-test.true (c.requires.below c.loop-at.at 0 c.loop-at-test.true) c.index-part-links.is c.loop-at.invariant
