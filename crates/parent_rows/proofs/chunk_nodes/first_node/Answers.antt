use Rattle.std.proofs.Common.{◌∙◌}
use Rattle.parent_rows.proofs.Told.{first_node_leads}
use Rattle.parent_rows.proofs.chunk_nodes.first_node.Goals as goal

pub pointer-requires-clause-within : goal.pointer-requires-clause-within
pointer-requires-clause-within g c = let r = c.requires.chunk in (first_node_leads r.0 r.1 r.2 _ r.4 c.args.chunk r.3 r.5).0

pub pointer-requires-clause-place : goal.pointer-requires-clause-place
pointer-requires-clause-place g c = let r = c.requires.chunk in (first_node_leads r.0 r.1 r.2 _ r.4 c.args.chunk r.3 r.5).1

pub returns-clause-is : goal.returns-clause-is
returns-clause-is g c = λ d b log x i h. c.pointer.ensures.is ∙ (first_node_leads d b log _ i c.args.chunk x h).2
