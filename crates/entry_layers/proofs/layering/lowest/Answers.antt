use Rattle.entry_layers.proofs.Rounds.{no_layers}
use Rattle.entry_layers.proofs.layering.lowest.Goals as goal

pub returns-clause-are : goal.returns-clause-are
returns-clause-are c d b log e ids all here gathered = no_layers d b log e ids all _ gathered here c.new.ensures.items c.new-2.ensures.items
