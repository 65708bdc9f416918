use Rattle.std.proofs.Common.{◌∙◌, sym}
use Rattle.parent_rows.proofs.Told.{retiring_leads}
use Rattle.made_links.proofs.climbing.stands.Goals as goal

pub pointer-requires-clause-within : goal.pointer-requires-clause-within
pointer-requires-clause-within g c = let r = c.requires.node in (retiring_leads r.0 r.1 r.2 _ r.4 c.args.spot r.3 r.5).0

pub pointer-requires-clause-place : goal.pointer-requires-clause-place
pointer-requires-clause-place g c = let r = c.requires.node in (retiring_leads r.0 r.1 r.2 _ r.4 c.args.spot r.3 r.5).1

pub returns-in-None-clause-is : goal.returns-in-None-clause-is
returns-in-None-clause-is g c = λ d b log n i h t. sym (c.pointer.ensures.is ∙ (retiring_leads d b log _ i c.args.spot n h).2) ∙ c.in-None.is
