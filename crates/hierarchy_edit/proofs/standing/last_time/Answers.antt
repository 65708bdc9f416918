use Rattle.std.proofs.Common.{◌∙◌, sym, arith}
use Rattle.record_rows.proofs.ImageFacts.{parent_image}
use Rattle.edge_rows.proofs.ChainFacts.{image_kept}
use Rattle.hierarchy_edit.proofs.Counts.{head_time, newest_there, some_entry}
use Rattle.hierarchy_edit.proofs.standing.last_time.Goals as goal

pub length-number-requires : goal.length-number-requires
length-number-requires g c = let r = c.requires.image in record { image = (r.0, r.1, r.2, parent_image r.0 r.1 r.2 _ r.3) }

pub overflow_sub-newest : goal.overflow_sub-newest
overflow_sub-newest g c =
    let r = c.requires.image in
    let n = c.length-number.ensures.is r.0 r.1 r.2 (parent_image r.0 r.1 r.2 _ r.3) in
    let s = some_entry r.0 r.1 r.2 r.3.legal in
    omega (arith, n, s)

pub head-last-requires : goal.head-last-requires
head-last-requires g c =
    let r = c.requires.image in
    let n = c.length-number.ensures.is r.0 r.1 r.2 (parent_image r.0 r.1 r.2 _ r.3) in
    let s = some_entry r.0 r.1 r.2 r.3.legal in
    record { entry = (r.0, r.1, r.2, parent_image r.0 r.1 r.2 _ (image_kept g.W.Words.words r.0 r.1 r.2 c.length-number.ensures.same r.3), omega (arith, n, s)) }

pub returns-clause-is : goal.returns-clause-is
returns-clause-is g c = λ d b log i.
    let n = c.length-number.ensures.is d b log (parent_image d b log _ i) in
    let s = some_entry d b log i.legal in
    let e = newest_there d b log _ i.legal (omega (arith, n, s)) in
    head_time e.0 _ (c.head-last.ensures.is d b log e.0 (parent_image d b log _ (image_kept g.W.Words.words d b log c.length-number.ensures.same i)) e.1) ∙ sym e.2
