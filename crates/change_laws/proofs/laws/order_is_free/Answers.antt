use Rattle.change_laws.proofs.Visiting.{visits_alike}
use Rattle.change_laws.proofs.laws.order_is_free.Goals as goal

pub returns : goal.returns
returns c = visits_alike
