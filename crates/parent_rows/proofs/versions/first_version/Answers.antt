use Rattle.std.proofs.Common.{◌∙◌}
use Rattle.parent_rows.proofs.Told.{first_version_leads}
use Rattle.parent_rows.proofs.versions.first_version.Goals as goal

pub pointer-requires-clause-within : goal.pointer-requires-clause-within
pointer-requires-clause-within g c = (first_version_leads c.requires.owner.0 c.requires.owner.1 c.requires.owner.2 _ c.requires.owner.4 c.args.spot c.requires.owner.3 c.requires.owner.5).0

pub pointer-requires-clause-place : goal.pointer-requires-clause-place
pointer-requires-clause-place g c = (first_version_leads c.requires.owner.0 c.requires.owner.1 c.requires.owner.2 _ c.requires.owner.4 c.args.spot c.requires.owner.3 c.requires.owner.5).1

pub returns-clause-is : goal.returns-clause-is
returns-clause-is g c = λ d b log id i h. c.pointer.ensures.is ∙ (first_version_leads d b log _ i c.args.spot id h).2
