use Rattle.std.proofs.Common.{◌∙◌, sym, ap, Some}
use Rattle.record_rows.specs.Walks.{if_below}
use Rattle.parent_rows.proofs.ChainWalks.{image_kept}
use Rattle.parent_rows.proofs.NodeWalks.{never_ended, ended_first, below_prefix, above_prefix}
use Rattle.parent_rows.proofs.nodes.ended.Goals as goal

pub returns-in_default-clause-is : goal.returns-in_default-clause-is
returns-in_default-clause-is g c = λ d b log n i h. never_ended d b log _ i n c.args.prefix (c.retiring.ensures.is d b log n i h) c.in_default.not-Some

pub entry_number-number-requires : goal.entry_number-number-requires
entry_number-number-requires g c =
    let r = c.requires.node in
    let e = ended_first r.0 r.1 r.2 _ r.4 r.3 c.args.prefix c.in-Some.entry (c.retiring.ensures.is r.0 r.1 r.2 r.3 r.4 r.5) c.in-Some.is in
    record { entry = (r.0, r.1, r.2, e.0, image_kept g.W.Words.words r.0 r.1 r.2 c.retiring.ensures.same r.4, e.1) }

pub returns-then-number-prefix-clause-is : goal.returns-then-number-prefix-clause-is
returns-then-number-prefix-clause-is g c = λ d b log n i h.
    let e = ended_first d b log _ i n c.args.prefix c.in-Some.entry (c.retiring.ensures.is d b log n i h) c.in-Some.is in
    let k = c.entry_number-number.ensures.is d b log e.0 (image_kept g.W.Words.words d b log c.retiring.ensures.same i) e.1 in
    sym (e.2 ∙ (ap (λ x. if_below c.args.prefix (Some x)) (sym k) ∙ below_prefix c.args.prefix c.entry_number-number.result c.if-number-prefix.true))

pub returns-else-number-prefix-clause-is : goal.returns-else-number-prefix-clause-is
returns-else-number-prefix-clause-is g c = λ d b log n i h.
    let e = ended_first d b log _ i n c.args.prefix c.in-Some.entry (c.retiring.ensures.is d b log n i h) c.in-Some.is in
    let k = c.entry_number-number.ensures.is d b log e.0 (image_kept g.W.Words.words d b log c.retiring.ensures.same i) e.1 in
    sym (e.2 ∙ (ap (λ x. if_below c.args.prefix (Some x)) (sym k) ∙ above_prefix c.args.prefix c.entry_number-number.result c.if-number-prefix.false))
