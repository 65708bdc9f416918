use Rattle.change_laws.proofs.Visiting.{linked_unretired}
use Rattle.change_laws.proofs.laws.added_are_made.Goals as goal

pub returns : goal.returns
returns c = linked_unretired
