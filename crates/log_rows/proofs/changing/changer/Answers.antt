use Rattle.std.proofs.Common.{◌∙◌, arith}
use Rattle.record_rows.proofs.EntryRecords.{more_rows}
use Rattle.record_rows.proofs.ImageFacts.{few, parent_image}
use Rattle.log_rows.proofs.ChangeOrder.{change_below}
use Rattle.log_rows.proofs.ChangeWords.{change_within, change_number}
use Rattle.log_rows.proofs.changing.changer.Goals as goal

pub fixed-requires-clause-within : goal.fixed-requires-clause-within
fixed-requires-clause-within g c = let h = c.requires.change in change_within h.0 h.1 h.2 _ h.5 _ h.3 h.4 h.6

pub overflow_cast-result : goal.overflow_cast-result
overflow_cast-result g c =
    let h = c.requires.change in
    let e = c.fixed.ensures.is in
    let n = change_number h.0 h.1 h.2 _ h.5 _ h.3 h.4 h.6 in
    let low = change_below h.0 h.1 h.2 h.5.legal _ h.3 h.4 h.6 in
    let more = more_rows h.0 h.1 h.2 in
    let f = few h.0 h.1 h.2 _ (parent_image h.0 h.1 h.2 _ h.5) in
    omega (arith, e, n, low, more, f)

pub returns-clause-is : goal.returns-clause-is
returns-clause-is g c = λ d b log entry x i h. c.fixed.ensures.is ∙ change_number d b log _ i _ entry x h
