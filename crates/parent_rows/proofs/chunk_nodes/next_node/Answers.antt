use Rattle.std.proofs.Common.{◌∙◌}
use Rattle.parent_rows.proofs.ChunkWalks.{next_greater}
use Rattle.parent_rows.proofs.Told.{next_node_leads}
use Rattle.parent_rows.proofs.chunk_nodes.next_node.Goals as goal

pub pointer-requires-clause-within : goal.pointer-requires-clause-within
pointer-requires-clause-within g c = let r = c.requires.node in (next_node_leads r.0 r.1 r.2 _ r.4 c.args.node r.3 r.5).0

pub pointer-requires-clause-place : goal.pointer-requires-clause-place
pointer-requires-clause-place g c = let r = c.requires.node in (next_node_leads r.0 r.1 r.2 _ r.4 c.args.node r.3 r.5).1

pub returns-clause-is : goal.returns-clause-is
returns-clause-is g c = λ d b log x i h. c.pointer.ensures.is ∙ (next_node_leads d b log _ i c.args.node x h).2

pub returns-clause-ascending : goal.returns-clause-ascending
returns-clause-ascending g c = λ d b log n i h. next_greater d b i.dataset i.base log c.args.node n h (c.pointer.ensures.is ∙ (next_node_leads d b log _ i c.args.node n h).2)
