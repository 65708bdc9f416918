use Rattle.part_laws.proofs.TouchedLemmas.{touched_part}
use Rattle.part_laws.proofs.laws.touched_are_parts.Goals as goal

pub returns : goal.returns
returns c = λ d b valid base e log part legal known ascends is. touched_part d b valid base e log part legal known ascends is
