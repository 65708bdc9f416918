use Rattle.change_laws.proofs.Visiting.{skipped}
use Rattle.change_laws.proofs.laws.others_are_skipped.Goals as goal

pub returns : goal.returns
returns c = skipped
