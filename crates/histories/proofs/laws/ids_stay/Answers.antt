use Rattle.histories.proofs.EachLog.{ids_stay}
use Rattle.histories.proofs.laws.ids_stay.Goals as goal

pub returns : goal.returns
returns c = ids_stay
