use Rattle.plain_hierarchy.proofs.Fitting.{legal_small}
use Rattle.plain_hierarchy.proofs.laws.small_bases_are_legal.Goals as goal

pub returns : goal.returns
returns c d b at valid few low = legal_small d b at valid few low
