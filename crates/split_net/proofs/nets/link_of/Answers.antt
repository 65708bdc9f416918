use Rattle.split_net.proofs.Linking.{link_named}
use Rattle.split_net.proofs.nets.link_of.Goals as goal

pub returns-clause-named : goal.returns-clause-named
returns-clause-named c = link_named c.args.leaves.now c.place_of-a.result c.place_of-b.result c.room_of.result c.args.edge c.place_of-a.ensures.at c.place_of-b.ensures.at c.room_of.ensures
