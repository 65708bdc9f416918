use Rattle.change_laws.proofs.Ending.{end_once}
use Rattle.change_laws.proofs.laws.roots_end_once.Goals as goal

pub returns : goal.returns
returns c = end_once
