use Rattle.std.proofs.Common.{◌∙◌}
use Rattle.parent_rows.proofs.VersionWalks.{all_versions}
use Rattle.parent_rows.proofs.versions.last_version.Goals as goal

pub returns-clause-is : goal.returns-clause-is
returns-clause-is g c = λ d b log id i h. c.newest_below.ensures.is d b log id i h ∙ all_versions d b log _ i id
