use Rattle.change_laws.proofs.Visiting.{visited}
use Rattle.change_laws.proofs.laws.changes_are_visited.Goals as goal

pub returns : goal.returns
returns c = visited
