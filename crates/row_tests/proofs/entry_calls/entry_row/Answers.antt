use Rattle.std.proofs.Common.{◌<◌, ◌∙◌, sym, subst}
use Rattle.op_model.specs.Samples.{base, data_a}
use Rattle.record_rows.specs.Readings.{Image, ParentImage}
use Rattle.record_rows.proofs.ImageFacts.{parent_image}
use Rattle.row_tests.proofs.entry_calls.entry_row.Goals as goal

pub length-requires : goal.length-requires
length-requires c = let s = c.requires.sample in record { image = (data_a, base, s.log, parent_image data_a base s.log _ s.image) }

pub head-told-requires : goal.head-told-requires
head-told-requires c =
    let s = c.requires.sample in
    let count = c.length.ensures.is data_a base s.log (parent_image data_a base s.log _ s.image) in
    record { entry = (data_a, base, s.log, subst (λ w. ParentImage data_a base s.log w.words) (sym (c.length.ensures.same)) (parent_image data_a base s.log _ s.image), subst (λ x. c.args.n < x) count c.if-n-length.true) }

pub entry_spot-spot-requires : goal.entry_spot-spot-requires
entry_spot-spot-requires c =
    let s = c.requires.sample in
    let count = c.length.ensures.is data_a base s.log (parent_image data_a base s.log _ s.image) in
    record { entry = (data_a, base, s.log, subst (λ w. ParentImage data_a base s.log w.words) (sym (c.head-told.ensures.same ∙ c.length.ensures.same)) (parent_image data_a base s.log _ s.image), subst (λ x. c.args.n < x) count c.if-n-length.true) }

pub first_change-first-requires : goal.first_change-first-requires
first_change-first-requires c =
    let s = c.requires.sample in
    let count = c.length.ensures.is data_a base s.log (parent_image data_a base s.log _ s.image) in
    record { entry = (data_a, base, s.log, subst (λ w. Image data_a base s.log w.words) (sym (c.entry_spot-spot.ensures.same ∙ (c.head-told.ensures.same ∙ c.length.ensures.same))) s.image, subst (λ x. c.args.n < x) count c.if-n-length.true) }

pub last_about-last-requires : goal.last_about-last-requires
last_about-last-requires c =
    let s = c.requires.sample in
    let count = c.length.ensures.is data_a base s.log (parent_image data_a base s.log _ s.image) in
    record { entry = (data_a, base, s.log, subst (λ w. ParentImage data_a base s.log w.words) (sym (c.first_change-first.ensures.same ∙ (c.entry_spot-spot.ensures.same ∙ (c.head-told.ensures.same ∙ c.length.ensures.same)))) (parent_image data_a base s.log _ s.image), subst (λ x. c.args.n < x) count c.if-n-length.true) }
