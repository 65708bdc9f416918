use Rattle.std.proofs.Common.{sym, subst}
use Rattle.op_model.specs.Samples.{base, data_a}
use Rattle.record_rows.specs.Readings.{Image}
use Rattle.row_tests.proofs.edit_calls.turns_like.Goals as goal

pub locks-locks-requires-clause-image : goal.locks-locks-requires-clause-image
locks-locks-requires-clause-image c = let s = c.requires.sample in (data_a, base, s.log, s.image)

pub plan-plan-requires-clause-image : goal.plan-plan-requires-clause-image
plan-plan-requires-clause-image c =
    let s = c.requires.sample in
    (data_a, base, s.log, subst (λ w. Image data_a base s.log w.words) (sym c.locks-locks.ensures.same) s.image)
