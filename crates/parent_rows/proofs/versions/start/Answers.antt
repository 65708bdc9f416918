use Rattle.std.proofs.Common.{refl, inr}
use Rattle.parent_rows.proofs.ChainWalks.{image_kept}
use Rattle.parent_rows.proofs.versions.start.Goals as goal

pub returns-clause-is : goal.returns-clause-is
returns-clause-is g c = λ d b log id i h. let r = c.in-Some.ensures.is d b log id (image_kept g.W.Words.words d b log c.near_link-place.ensures.same i) h in inr (c.in-Some.link, refl, r.0, r.1, r.2)
