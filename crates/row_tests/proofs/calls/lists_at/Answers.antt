use Rattle.std.proofs.Common.{◌∙◌, sym, subst}
use Rattle.op_model.specs.Samples.{base, data_a}
use Rattle.record_rows.specs.Readings.{ParentImage}
use Rattle.record_rows.proofs.ImageFacts.{parent_image}
use Rattle.row_tests.proofs.KindFacts.{node_kind}
use Rattle.row_tests.proofs.calls.lists_at.Goals as goal

pub children-requires : goal.children-requires
children-requires c =
    let s = c.requires.sample in
    let h = node_kind _ s c.args.place (c.is_kind.ensures.is c.if-is_kind.true) in
    record { node = (data_a, base, s.log, h.0, subst (λ w. ParentImage data_a base s.log w.words) (sym (c.is_kind.ensures.same)) (parent_image data_a base s.log _ s.image), h.1) }

pub leaves-requires : goal.leaves-requires
leaves-requires c =
    let s = c.requires.sample in
    let h = node_kind _ s c.args.place (c.is_kind.ensures.is c.if-is_kind.true) in
    record { node = (data_a, base, s.log, h.0, subst (λ w. ParentImage data_a base s.log w.words) (sym (c.children.ensures.same ∙ c.is_kind.ensures.same)) (parent_image data_a base s.log _ s.image), h.1) }
