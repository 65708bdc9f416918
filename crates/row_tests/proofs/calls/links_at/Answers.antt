use Rattle.std.proofs.Common.{◌∙◌, sym, subst}
use Rattle.op_model.specs.Samples.{base, data_a}
use Rattle.record_rows.specs.Readings.{ParentImage}
use Rattle.record_rows.proofs.ImageFacts.{parent_image}
use Rattle.row_tests.proofs.KindFacts.{owner_id}
use Rattle.row_tests.proofs.calls.links_at.Goals as goal

pub parent_at-parent-requires : goal.parent_at-parent-requires
parent_at-parent-requires c =
    let s = c.requires.sample in
    let h = owner_id _ s c.args.place (c.is_owner.ensures.is c.if-is_owner.true) in
    record { owner = (data_a, base, s.log, h.0, subst (λ w. ParentImage data_a base s.log w.words) (sym (c.is_owner.ensures.same)) (parent_image data_a base s.log _ s.image), h.1) }

pub last_version-last-requires : goal.last_version-last-requires
last_version-last-requires c =
    let s = c.requires.sample in
    let h = owner_id _ s c.args.place (c.is_owner.ensures.is c.if-is_owner.true) in
    record { owner = (data_a, base, s.log, h.0, subst (λ w. ParentImage data_a base s.log w.words) (sym (c.parent_at-parent.ensures.same ∙ c.is_owner.ensures.same)) (parent_image data_a base s.log _ s.image), h.1) }
