use Rattle.new_ids.proofs.NodeFacts.{new_ids_are_free}
use Rattle.new_ids.proofs.laws.new_ids_are_free.Goals as goal

pub returns : goal.returns
returns c = new_ids_are_free
