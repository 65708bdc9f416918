use Rattle.grown_rows.proofs.FillLemmas.{more_length}
use Rattle.grown_rows.proofs.DraftLemmas.{is_drafted}
use Rattle.grown_rows.proofs.drafting.draft_of.Goals as goal

pub drafted-requires-clause-whole : goal.drafted-requires-clause-whole
drafted-requires-clause-whole c = (_, more_length c.requires.growth.0 c.requires.growth.1 c.args.growth.now c.requires.growth.2)

pub returns : goal.returns
returns c old more is = let e = c.in_ok-draft.ensures in is_drafted old more c.args.growth.now is _ e.tail e.rows e.count e.links
