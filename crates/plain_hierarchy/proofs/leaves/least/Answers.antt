use Rattle.std.proofs.Common.{◌∙◌, ap}
use Rattle.graph_model.specs.Lists.{head_or}
use Rattle.op_model.specs.Labels.{least}
use Rattle.plain_hierarchy.proofs.leaves.least.Goals as goal

pub returns : goal.returns
unfolding least
returns c = c.head_or.ensures ∙ ap (head_or c.args.sv) (c.ids_of.ensures ∙ c.in_ok-leaves.ensures 0)
