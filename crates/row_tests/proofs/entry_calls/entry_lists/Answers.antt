use Rattle.std.proofs.Common.{◌<◌, ◌∙◌, sym, subst}
use Rattle.op_model.specs.Samples.{base, data_a}
use Rattle.record_rows.specs.Readings.{Image}
use Rattle.record_rows.proofs.ImageFacts.{parent_image}
use Rattle.row_tests.proofs.entry_calls.entry_lists.Goals as goal

pub length-requires : goal.length-requires
length-requires c = let s = c.requires.sample in record { image = (data_a, base, s.log, parent_image data_a base s.log _ s.image) }

pub asked-requires : goal.asked-requires
asked-requires c =
    let s = c.requires.sample in
    let count = c.length.ensures.is data_a base s.log (parent_image data_a base s.log _ s.image) in
    record { entry = (data_a, base, s.log, subst (λ w. Image data_a base s.log w.words) (sym (c.length.ensures.same)) s.image, subst (λ x. c.args.n < x) count c.if-n-length.true) }

pub all_changed-requires : goal.all_changed-requires
all_changed-requires c =
    let s = c.requires.sample in
    let count = c.length.ensures.is data_a base s.log (parent_image data_a base s.log _ s.image) in
    record { entry = (data_a, base, s.log, subst (λ w. Image data_a base s.log w.words) (sym (c.asked.ensures.same ∙ c.length.ensures.same)) s.image, subst (λ x. c.args.n < x) count c.if-n-length.true) }

pub entry-requires : goal.entry-requires
entry-requires c =
    let s = c.requires.sample in
    let count = c.length.ensures.is data_a base s.log (parent_image data_a base s.log _ s.image) in
    record { entry = (data_a, base, s.log, subst (λ w. Image data_a base s.log w.words) (sym (c.all_changed.ensures.same ∙ (c.asked.ensures.same ∙ c.length.ensures.same))) s.image, subst (λ x. c.args.n < x) count c.if-n-length.true) }
