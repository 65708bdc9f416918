use Rattle.std.proofs.Common.{◌∙◌, ap}
use Rattle.op_model.specs.Edges.{same_pair}
use Rattle.edge_rows.proofs.finding.is_of.Goals as goal

pub returns-clause-is : goal.returns-clause-is
returns-clause-is g c = λ d b log made e i h. c.is_same.ensures ∙ ap (λ q. same_pair q c.args.pair.now) (c.pair_of-ends.ensures.is d b log made e i h)
