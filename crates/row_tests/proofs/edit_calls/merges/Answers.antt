use Rattle.std.proofs.Common.{sym, subst}
use Rattle.op_model.specs.Samples.{base, data_a}
use Rattle.record_rows.specs.Readings.{ParentImage}
use Rattle.record_rows.proofs.ImageFacts.{parent_image}
use Rattle.row_tests.proofs.edit_calls.merges.Goals as goal

pub locks-locks-requires-clause-image : goal.locks-locks-requires-clause-image
locks-locks-requires-clause-image c = let s = c.requires.sample in (data_a, base, s.log, parent_image data_a base s.log _ s.image)

pub plan-plan-requires-clause-image : goal.plan-plan-requires-clause-image
plan-plan-requires-clause-image c =
    let s = c.requires.sample in
    (data_a, base, s.log, subst (λ w. ParentImage data_a base s.log w.words) (sym c.locks-locks.ensures.same) (parent_image data_a base s.log _ s.image))
