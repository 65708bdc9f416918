use Rattle.std.proofs.Common.{◌<◌, ◌∙◌, sym, subst}
use Rattle.op_model.specs.Samples.{base, data_a}
use Rattle.record_rows.specs.Readings.{Image, ParentImage}
use Rattle.record_rows.proofs.ImageFacts.{parent_image}
use Rattle.log_rows.specs.Entries.{AtEntry}
use Rattle.log_rows.proofs.WalkBack.{entry_there}
use Rattle.row_tests.proofs.entry_calls.entry_ahead.Goals as goal

pub length-requires : goal.length-requires
length-requires c = let s = c.requires.sample in record { image = (data_a, base, s.log, parent_image data_a base s.log _ s.image) }

pub entry_spot-spot-requires : goal.entry_spot-spot-requires
entry_spot-spot-requires c =
    let s = c.requires.sample in
    let count = c.length.ensures.is data_a base s.log (parent_image data_a base s.log _ s.image) in
    record { entry = (data_a, base, s.log, subst (λ w. ParentImage data_a base s.log w.words) (sym (c.length.ensures.same)) (parent_image data_a base s.log _ s.image), subst (λ x. c.args.n < x) count c.if-n-length.true) }

pub next_entry-next-requires : goal.next_entry-next-requires
next_entry-next-requires c =
    let s = c.requires.sample in
    let p = parent_image data_a base s.log _ s.image in
    let count = c.length.ensures.is data_a base s.log p in
    let e = entry_there data_a base s.log c.args.n s.image.legal (subst (λ x. c.args.n < x) count c.if-n-length.true) in
    let moved = subst (λ w. ParentImage data_a base s.log w.words) (sym c.length.ensures.same) p in
    let a : AtEntry c.length.new.w.words c.entry_spot-spot.result = record { dataset = data_a; base = base; log = s.log; entry = e.0; image = moved; stands = c.entry_spot-spot.ensures.is data_a base s.log e.0 moved e.1 } in
    record { entry = subst (λ w. AtEntry w.words c.entry_spot-spot.result) (sym c.entry_spot-spot.ensures.same) a }

pub last_about_by_changes-last-requires : goal.last_about_by_changes-last-requires
last_about_by_changes-last-requires c =
    let s = c.requires.sample in
    let count = c.length.ensures.is data_a base s.log (parent_image data_a base s.log _ s.image) in
    record { entry = (data_a, base, s.log, subst (λ w. Image data_a base s.log w.words) (sym (c.next_entry-next.ensures.same ∙ (c.entry_spot-spot.ensures.same ∙ c.length.ensures.same))) s.image, subst (λ x. c.args.n < x) count c.if-n-length.true) }
