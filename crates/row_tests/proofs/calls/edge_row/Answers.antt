use Rattle.std.proofs.Common.{◌∙◌, sym, subst}
use Rattle.op_model.specs.Samples.{base, data_a}
use Rattle.record_rows.specs.Readings.{Image}
use Rattle.row_tests.proofs.KindFacts.{edge_kind}
use Rattle.row_tests.proofs.calls.edge_row.Goals as goal

pub last_change-last-requires : goal.last_change-last-requires
last_change-last-requires c =
    let s = c.requires.sample in
    let h = edge_kind _ s c.args.place (c.is_kind.ensures.is c.if-is_kind.true) in
    record { edge = (data_a, base, s.log, h.0, h.1, subst (λ w. Image data_a base s.log w.words) (sym (c.is_kind.ensures.same)) s.image, h.2) }

pub state_at-active-requires : goal.state_at-active-requires
state_at-active-requires c =
    let s = c.requires.sample in
    let h = edge_kind _ s c.args.place (c.is_kind.ensures.is c.if-is_kind.true) in
    record { edge = (data_a, base, s.log, h.0, h.1, subst (λ w. Image data_a base s.log w.words) (sym (c.last_change-last.ensures.same ∙ c.is_kind.ensures.same)) s.image, h.2) }
