use Rattle.std.proofs.Common.{◌∙◌, sym, subst}
use Rattle.op_model.specs.declared.request.Edit.TheVariants.{Split}
use Rattle.record_rows.specs.Readings.{Image}
use Rattle.record_rows.proofs.ImageFacts.{parent_image}
use Rattle.root_masks.proofs.Asked.{unplanned}
use Rattle.edit_split.proofs.Uncut.{shown_or_unplanned}
use Rattle.edit_split.proofs.planning.shown_of.Goals as goal

pub refusal_of-requires : goal.refusal_of-requires
refusal_of-requires g c = let (d, b, log, i) = c.requires.image in record { image = (d, b, log, parent_image d b log _ i) }

pub returns-in-Some-clause-is : goal.returns-in-Some-clause-is
returns-in-Some-clause-is g c d b log i = unplanned d b log (Split c.args.sources.now c.args.sinks.now) c.in-Some.refusal (sym (c.refusal_of.ensures.is d b log (parent_image d b log _ i)) ∙ c.in-Some.is)

pub cut_of-requires : goal.cut_of-requires
cut_of-requires g c =
    let (d, b, log, i) = c.requires.image in
    record { early = (d, b, log, subst (λ w. Image d b log (g.W.Words.words w)) (sym c.refusal_of.ensures.same) i, sym (c.refusal_of.ensures.is d b log (parent_image d b log _ i)) ∙ c.in_default.is) }

pub returns-clause-is : goal.returns-clause-is
returns-clause-is g c d b log i =
    let h = sym (c.refusal_of.ensures.is d b log (parent_image d b log _ i)) ∙ c.in_default.is in
    shown_or_unplanned d b log c.args.sources.now c.args.sinks.now c.cut_of.result h
    (c.cut_of.ensures.is d b log (subst (λ w. Image d b log (g.W.Words.words w)) (sym c.refusal_of.ensures.same) i) h)
