use Rattle.std.proofs.Common.{◌∙◌}
use Rattle.record_rows.proofs.ToldLaws.{headers_state}
use Rattle.parent_rows.proofs.Sought.{header_within}
use Rattle.made_links.proofs.climbing.layout.Goals as goal

pub fixed-word-requires-clause-within : goal.fixed-word-requires-clause-within
fixed-word-requires-clause-within g c = let r = c.requires.image in header_within r.0 r.1 r.2 _ r.3

pub layout_of-requires : goal.layout_of-requires
layout_of-requires g c = let r = c.requires.image in record { stated = (r.0, r.3.dataset, c.fixed-word.ensures.is ∙ (headers_state r.0 r.1 _ r.2 r.3.parents).0) }

pub returns-clause-is : goal.returns-clause-is
returns-clause-is g c = λ d b log i. c.layout_of.ensures.is d i.dataset (c.fixed-word.ensures.is ∙ (headers_state d b _ log i.parents).0)
