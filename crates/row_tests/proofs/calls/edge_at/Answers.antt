use Rattle.std.proofs.Common.{sym, subst}
use Rattle.op_model.specs.Samples.{base, data_a}
use Rattle.record_rows.specs.Readings.{Image}
use Rattle.row_tests.proofs.KindFacts.{supervoxel_kind}
use Rattle.row_tests.proofs.calls.edge_at.Goals as goal

pub last_edge-requires : goal.last_edge-requires
last_edge-requires c =
    let s = c.requires.sample in
    let h = supervoxel_kind _ s c.args.place (c.is_kind.ensures.is c.if-is_kind.true) in
    record { supervoxel = (data_a, base, s.log, h.0, subst (λ w. Image data_a base s.log w.words) (sym c.is_kind.ensures.same) s.image, h.1) }
