use Rattle.std.proofs.Common.{◌∙◌}
use Rattle.parent_rows.proofs.Told.{next_child_leads}
use Rattle.united_layers.proofs.reading.next_link.Goals as goal

pub pointer-requires-clause-within : goal.pointer-requires-clause-within
pointer-requires-clause-within g c = let r = c.requires.link in (next_child_leads r.0 r.1 r.2 _ r.4 c.args.link r.3 r.5).0

pub pointer-requires-clause-place : goal.pointer-requires-clause-place
pointer-requires-clause-place g c = let r = c.requires.link in (next_child_leads r.0 r.1 r.2 _ r.4 c.args.link r.3 r.5).1

pub returns-clause-is : goal.returns-clause-is
returns-clause-is g c d b log l i h = c.pointer.ensures.is ∙ (next_child_leads d b log _ i c.args.link l h).2
