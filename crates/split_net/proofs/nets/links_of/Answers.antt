use Rattle.std.proofs.Common.{IsTrue}
use Rattle.op_model.specs.declared.base.Edge.{Edge}
use Rattle.graph_model.specs.Lists.{has}
use Rattle.split_net.proofs.Placing.{all_at}
use Rattle.split_net.proofs.nets.links_of.Goals as goal

pub link_of-requires-clause-lesser : goal.link_of-requires-clause-lesser
link_of-requires-clause-lesser c =
    (all_at (λ (e : Edge). IsTrue (has c.args.leaves.now e.pair.a) × IsTrue (has c.args.leaves.now e.pair.b)) c.args.part.now c.loop-at.at c.index-part-at.result c.loop-at-test.true c.index-part-at.is c.requires.part.within).0

pub link_of-requires-clause-greater : goal.link_of-requires-clause-greater
link_of-requires-clause-greater c =
    (all_at (λ (e : Edge). IsTrue (has c.args.leaves.now e.pair.a) × IsTrue (has c.args.leaves.now e.pair.b)) c.args.part.now c.loop-at.at c.index-part-at.result c.loop-at-test.true c.index-part-at.is c.requires.part.within).1
