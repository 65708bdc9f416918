use Rattle.histories.proofs.EachLog.{roots_are_joined}
use Rattle.histories.proofs.laws.roots_are_joined.Goals as goal

pub returns : goal.returns
returns c = roots_are_joined
