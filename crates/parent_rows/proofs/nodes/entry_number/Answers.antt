use Rattle.std.proofs.Common.{◌∙◌, arith}
use Rattle.parent_rows.proofs.Told.{entry_number as told_number}
use Rattle.parent_rows.proofs.nodes.entry_number.Goals as goal

pub fixed-requires-clause-within : goal.fixed-requires-clause-within
fixed-requires-clause-within g c = let r = c.requires.entry in (told_number r.0 r.1 r.2 _ r.4 c.args.spot r.3 r.5).0.0

pub overflow_cast-result : goal.overflow_cast-result
overflow_cast-result g c =
    let r = c.requires.entry in
    let t = told_number r.0 r.1 r.2 _ r.4 c.args.spot r.3 r.5 in
    let is = c.fixed.ensures.is ∙ t.0.1 in
    let small = t.1 in
    omega arith

pub returns-clause-is : goal.returns-clause-is
returns-clause-is g c = λ d b log e i h. c.fixed.ensures.is ∙ (told_number d b log _ i c.args.spot e h).0.1
