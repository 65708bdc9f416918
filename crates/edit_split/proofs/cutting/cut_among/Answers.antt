use Rattle.std.proofs.Common.{◌≡◌, ◌≤◌, ◌∙◌, List, length, sym, subst}
use Rattle.std.specs.Prelude.{IfOk, None}
use Rattle.op_model.specs.declared.base.Edge.{Edge}
use Rattle.op_model.specs.Cuts.{IsShown, part}
use Rattle.record_rows.proofs.ImageFacts.{parent_image}
use Rattle.split_net.specs.Parts.{IsPart, IsUnshown, glue_refusal}
use Rattle.edit_split.specs.Components.{IsTooLarge}
use Rattle.edit_split.proofs.Gathered.{is_part, leaves_are_known, leaves_rise, part_is, sinks_are, sources_are}
use Rattle.edit_split.proofs.Refused.{passes}
use Rattle.edit_split.proofs.Uncut.{cut_or_glued, large_uncut}
use Rattle.edit_split.proofs.cutting.cut_among.Goals as goal

pub part_of-requires-clause-known : goal.part_of-requires-clause-known
part_of-requires-clause-known g c =
    let (d, b, log, i, h) = c.requires.early in
    (d, b, log, i, leaves_are_known d b log _ (parent_image d b log _ i) c.args.sources.now c.args.sinks.now h.0 c.args.all.now h.1)

pub part_of-requires-clause-ascending : goal.part_of-requires-clause-ascending
part_of-requires-clause-ascending g c =
    let (d, b, log, i, h) = c.requires.early in
    leaves_rise d b log _ (parent_image d b log _ i) c.args.sources.now c.args.sinks.now h.0 c.args.all.now h.1

pub shown-requires-clause-part : goal.shown-requires-clause-part
shown-requires-clause-part g c =
    let (d, b, log, i, h) = c.requires.early in
    let p = parent_image d b log _ i in
    let is = c.in-Ok.ensures.is d b log i (leaves_are_known d b log _ p c.args.sources.now c.args.sinks.now h.0 c.args.all.now h.1) in
    let same : c.as_slice.result.now ≡ part d b log c.args.sources.now = c.as_slice.ensures.value ∙ (c.part.view_is ∙ (is.0 ∙ sym (part_is d b log _ p c.args.sources.now c.args.sinks.now h.0 c.args.all.now h.1))) in
    subst (IsPart c.args.all.now) (sym same) (is_part d b log _ p c.args.sources.now c.args.sinks.now h.0 c.args.all.now h.1)

pub shown-requires-clause-few : goal.shown-requires-clause-few
shown-requires-clause-few g c =
    let (d, b, log, i, h) = c.requires.early in
    let is = c.in-Ok.ensures.is d b log i (leaves_are_known d b log _ (parent_image d b log _ i) c.args.sources.now c.args.sinks.now h.0 c.args.all.now h.1) in
    subst (λ (es : List Edge). length es ≤ 500000) (sym (c.as_slice.ensures.value ∙ c.part.view_is)) is.1

pub shown-requires-clause-sources : goal.shown-requires-clause-sources
shown-requires-clause-sources g c =
    let (d, b, log, i, h) = c.requires.early in
    sources_are d b log _ (parent_image d b log _ i) c.args.sources.now c.args.sinks.now h.0 c.args.all.now h.1

pub shown-requires-clause-sinks : goal.shown-requires-clause-sinks
shown-requires-clause-sinks g c =
    let (d, b, log, i, h) = c.requires.early in
    sinks_are d b log _ (parent_image d b log _ i) c.args.sources.now c.args.sinks.now h.0 c.args.all.now h.1

pub shown-requires-clause-sides : goal.shown-requires-clause-sides
shown-requires-clause-sides g c =
    let (d, b, log, i, h) = c.requires.early in
    (passes d b log c.args.sources.now c.args.sinks.now h.0).apart

pub returns-in-Ok-clause-is : goal.returns-in-Ok-clause-is
returns-in-Ok-clause-is g c d b log i h roots =
    let p = parent_image d b log _ i in
    let is = c.in-Ok.ensures.is d b log i (leaves_are_known d b log _ p c.args.sources.now c.args.sinks.now h c.args.all.now roots) in
    let whole : c.in-Ok.part ≡ part d b log c.args.sources.now = is.0 ∙ sym (part_is d b log _ p c.args.sources.now c.args.sinks.now h c.args.all.now roots) in
    let same : c.as_slice.result.now ≡ part d b log c.args.sources.now = c.as_slice.ensures.value ∙ (c.part.view_is ∙ whole) in
    cut_or_glued d b log c.args.sources.now c.args.sinks.now c.shown.result
    (subst (λ (es : List Edge). length es ≤ 500000) whole is.1)
    (subst (λ (es : List Edge). IfOk c.shown.result (IsShown es c.args.sources.now c.args.sinks.now)) same c.shown.ensures.shown)
    (subst (λ (es : List Edge). IfOk c.shown.result (λ s. glue_refusal es c.args.sources.now c.args.sinks.now ≡ None)) same c.shown.ensures.separable)
    (subst (λ (es : List Edge). IsUnshown es c.args.sources.now c.args.sinks.now c.shown.result) same c.shown.ensures.refused)

pub returns-in-Err-clause-is : goal.returns-in-Err-clause-is
returns-in-Err-clause-is g c d b log i h roots =
    let p = parent_image d b log _ i in
    large_uncut d b log c.args.sources.now c.args.sinks.now c.in-Err.refusal
    (subst (λ (es : List Edge). IsTooLarge (length es) c.in-Err.refusal) (sym (part_is d b log _ p c.args.sources.now c.args.sinks.now h c.args.all.now roots))
    (c.in-Err.ensures.is d b log i (leaves_are_known d b log _ p c.args.sources.now c.args.sinks.now h c.args.all.now roots)))
