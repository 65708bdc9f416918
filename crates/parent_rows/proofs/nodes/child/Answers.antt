use Rattle.std.proofs.Common.{◌∙◌}
use Rattle.parent_rows.proofs.Told.{link_child}
use Rattle.parent_rows.proofs.nodes.child.Goals as goal

pub fixed-requires-clause-within : goal.fixed-requires-clause-within
fixed-requires-clause-within g c = let r = c.requires.link in (link_child r.0 r.1 r.2 _ r.4 c.args.link r.3 r.5).0

pub returns-clause-is : goal.returns-clause-is
returns-clause-is g c = λ d b log l i h. c.fixed.ensures.is ∙ (link_child d b log _ i c.args.link l h).1
