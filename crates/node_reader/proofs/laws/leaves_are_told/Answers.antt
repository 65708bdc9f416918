use Rattle.node_reader.proofs.LeafLaws.{leaves_told}
use Rattle.node_reader.proofs.laws.leaves_are_told.Goals as goal

pub returns : goal.returns
returns c d b log place v n valid base legal h hv e = leaves_told d b log place v n valid base legal h hv e
