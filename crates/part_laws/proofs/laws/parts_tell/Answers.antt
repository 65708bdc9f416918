use Rattle.part_laws.proofs.PartLemmas.{told_nodes, whole, told_firsts}
use Rattle.part_laws.proofs.laws.parts_tell.Goals as goal

pub returns : goal.returns
returns c = record { nodes = told_nodes; whole = whole; firsts = told_firsts }
