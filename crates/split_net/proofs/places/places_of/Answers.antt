use Rattle.std.proofs.Common.{IsTrue}
use Rattle.graph_model.specs.Lists.{has}
use Rattle.split_net.proofs.Placing.{all_at}
use Rattle.split_net.proofs.places.places_of.Goals as goal

pub place_of-requires-clause-among : goal.place_of-requires-clause-among
place_of-requires-clause-among c = all_at (λ v. IsTrue (has c.args.leaves.now v)) c.args.ids.now c.loop-at.at c.index-ids-at.result c.loop-at-test.true c.index-ids-at.is c.requires.among
