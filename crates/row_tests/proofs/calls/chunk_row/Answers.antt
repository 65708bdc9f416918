use Rattle.std.proofs.Common.{◌∙◌, sym, subst}
use Rattle.op_model.specs.Samples.{base, data_a}
use Rattle.record_rows.specs.Readings.{ParentImage}
use Rattle.record_rows.proofs.ImageFacts.{parent_image}
use Rattle.row_tests.proofs.KindFacts.{chunk_kind}
use Rattle.row_tests.proofs.calls.chunk_row.Goals as goal

pub first_node-first-requires : goal.first_node-first-requires
first_node-first-requires c =
    let s = c.requires.sample in
    let h = chunk_kind _ s c.args.place (c.is_kind.ensures.is c.if-is_kind.true) in
    record { chunk = (data_a, base, s.log, h.0, subst (λ w. ParentImage data_a base s.log w.words) (sym (c.is_kind.ensures.same)) (parent_image data_a base s.log _ s.image), h.1) }

pub last_node-last-requires : goal.last_node-last-requires
last_node-last-requires c =
    let s = c.requires.sample in
    let h = chunk_kind _ s c.args.place (c.is_kind.ensures.is c.if-is_kind.true) in
    record { chunk = (data_a, base, s.log, h.0, subst (λ w. ParentImage data_a base s.log w.words) (sym (c.first_node-first.ensures.same ∙ c.is_kind.ensures.same)) (parent_image data_a base s.log _ s.image), h.1) }
