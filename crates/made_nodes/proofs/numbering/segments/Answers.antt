use Rattle.octree_layers.proofs.Steps.{power_range}
use Rattle.made_nodes.proofs.numbering.segments.Goals as goal

pub returns-clause-range : goal.returns-clause-range
returns-clause-range c = power_range c.width.result c.width.ensures.range.0
