use Rattle.std.proofs.Common.{◌∙◌, sym, subst}
use Rattle.op_model.specs.Samples.{base, data_a}
use Rattle.record_rows.specs.Readings.{Image}
use Rattle.row_tests.proofs.KindFacts.{change_kind}
use Rattle.row_tests.proofs.calls.change_row.Goals as goal

pub changed-pair-requires : goal.changed-pair-requires
changed-pair-requires c =
    let s = c.requires.sample in
    let h = change_kind _ s c.args.place (c.is_kind.ensures.is c.if-is_kind.true) in
    record { change = (data_a, base, s.log, h.0, h.1, subst (λ w. Image data_a base s.log w.words) (sym (c.is_kind.ensures.same)) s.image, h.2) }

pub next_change-next-requires : goal.next_change-next-requires
next_change-next-requires c =
    let s = c.requires.sample in
    let h = change_kind _ s c.args.place (c.is_kind.ensures.is c.if-is_kind.true) in
    record { change = (data_a, base, s.log, h.0, h.1, subst (λ w. Image data_a base s.log w.words) (sym (c.changed-pair.ensures.same ∙ c.is_kind.ensures.same)) s.image, h.2) }
