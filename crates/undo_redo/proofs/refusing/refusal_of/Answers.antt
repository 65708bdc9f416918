use Rattle.std.proofs.Common.{◌<◌, ◌≤◌, sym, subst}
use Rattle.record_rows.specs.Readings.{Image}
use Rattle.record_rows.proofs.ImageFacts.{parent_image}
use Rattle.undo_redo.proofs.Turning.{no_such, none_at}
use Rattle.undo_redo.proofs.refusing.refusal_of.Goals as goal

pub length-count-requires : goal.length-count-requires
length-count-requires g c = let r = c.requires.image in record { image = (r.0, r.1, r.2, parent_image r.0 r.1 r.2 _ r.3) }

pub returns-then-op-count-clause-is : goal.returns-then-op-count-clause-is
returns-then-op-count-clause-is g c = λ d b log i.
    no_such d b log c.args.op c.args.back (none_at d b log c.args.op i.legal (subst (λ k. k ≤ c.args.op) (c.length-count.ensures.is d b log (parent_image d b log _ i)) c.if-op-count.true))

pub refusal_in-requires : goal.refusal_in-requires
refusal_in-requires g c =
    let r = c.requires.image in
    record { entry = (r.0, r.1, r.2, subst (λ w. Image r.0 r.1 r.2 (g.W.Words.words w)) (sym c.length-count.ensures.same) r.3, subst (λ k. c.args.op < k) (c.length-count.ensures.is r.0 r.1 r.2 (parent_image r.0 r.1 r.2 _ r.3)) c.if-op-count.false) }

pub returns-clause-is : goal.returns-clause-is
returns-clause-is g c = λ d b log i.
    c.refusal_in.ensures.is d b log (subst (λ w. Image d b log (g.W.Words.words w)) (sym c.length-count.ensures.same) i) (subst (λ k. c.args.op < k) (c.length-count.ensures.is d b log (parent_image d b log _ i)) c.if-op-count.false)
