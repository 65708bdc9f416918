use Rattle.std.proofs.Common.{◌∙◌}
use Rattle.log_rows.proofs.ChangeWords.{change_first, change_first_small, change_first_within}
use Rattle.log_rows.proofs.changing.first_change_at.Goals as goal

pub pointer-requires-clause-within : goal.pointer-requires-clause-within
pointer-requires-clause-within g c = let r = c.requires.entry in change_first_within r.dataset r.base r.log _ r.image _ r.entry r.stands

pub pointer-requires-clause-place : goal.pointer-requires-clause-place
pointer-requires-clause-place g c = let r = c.requires.entry in change_first_small r.dataset r.base r.log _ r.image _ r.entry r.stands

pub returns-clause-is : goal.returns-clause-is
returns-clause-is g c = λ d b log e i h. c.pointer.ensures.is ∙ change_first d b log _ i _ e h
