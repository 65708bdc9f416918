use Rattle.edge_rows.proofs.BaseSearch.{base_first}
use Rattle.edge_rows.proofs.finding.find_edge.Goals as goal

pub returns-clause-found : goal.returns-clause-found
returns-clause-found g c = λ d b log i.
    let (e, h, k) = c.in-Some.ensures.found d b log i in
    base_first d b log _ i c.args.pair c.in-Some.edge e h k
