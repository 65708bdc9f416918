use Rattle.node_reader.proofs.LeafLaws.{leaves_joined}
use Rattle.node_reader.proofs.laws.leaves_are_joined.Goals as goal

pub returns : goal.returns
returns c d b log prefix layer v place n valid base legal low h hl hv q = leaves_joined d b log prefix layer v place n valid base legal low h hl hv q
