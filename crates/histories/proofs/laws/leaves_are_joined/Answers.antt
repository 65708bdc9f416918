use Rattle.histories.proofs.EachLog.{leaves_are_joined}
use Rattle.histories.proofs.laws.leaves_are_joined.Goals as goal

pub returns : goal.returns
returns c = leaves_are_joined
