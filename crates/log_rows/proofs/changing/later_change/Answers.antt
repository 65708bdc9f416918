use Rattle.std.proofs.Common.{◌∙◌}
use Rattle.log_rows.proofs.ChangeWords.{change_within, change_later, change_later_small}
use Rattle.log_rows.proofs.changing.later_change.Goals as goal

pub pointer-requires-clause-within : goal.pointer-requires-clause-within
pointer-requires-clause-within g c = let h = c.requires.change in change_within h.0 h.1 h.2 _ h.5 _ h.3 h.4 h.6

pub pointer-requires-clause-place : goal.pointer-requires-clause-place
pointer-requires-clause-place g c = let h = c.requires.change in change_later_small h.0 h.1 h.2 _ h.5 _ h.3 h.4 h.6

pub returns-clause-is : goal.returns-clause-is
returns-clause-is g c = λ d b log entry x i h. c.pointer.ensures.is ∙ change_later d b log _ i _ entry x h
