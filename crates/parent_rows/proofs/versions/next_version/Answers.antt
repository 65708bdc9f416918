use Rattle.std.proofs.Common.{◌∙◌}
use Rattle.parent_rows.proofs.Told.{next_version_leads}
use Rattle.parent_rows.proofs.versions.next_version.Goals as goal

pub pointer-requires-clause-within : goal.pointer-requires-clause-within
pointer-requires-clause-within g c = (next_version_leads c.requires.link.0 c.requires.link.1 c.requires.link.2 _ c.requires.link.4 c.args.link c.requires.link.3 c.requires.link.5).0

pub pointer-requires-clause-place : goal.pointer-requires-clause-place
pointer-requires-clause-place g c = (next_version_leads c.requires.link.0 c.requires.link.1 c.requires.link.2 _ c.requires.link.4 c.args.link c.requires.link.3 c.requires.link.5).1

pub returns-clause-is : goal.returns-clause-is
returns-clause-is g c = λ d b log id i h. c.pointer.ensures.is ∙ (next_version_leads d b log _ i c.args.link id h).2
