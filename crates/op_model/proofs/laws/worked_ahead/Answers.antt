use Rattle.std.proofs.Common.{[], ◌∷◌, refl, arith, None}
use Rattle.op_model.specs.declared.request.Read.TheVariants as read
use Rattle.op_model.specs.declared.request.LineError.TheVariants.{NotJson}
use Rattle.op_model.specs.Reversed.{Answered, BadLine, Accepted}
use Rattle.op_model.specs.Locks.{lock_of, locks_of}
use Rattle.op_model.specs.Stamps.{stamp}
use Rattle.op_model.specs.Samples.{ingested, r, s, join, data_a, base}
use Rattle.op_model.specs.Operations.{next_entry as next}
use Rattle.op_model.proofs.Opened.{definitions}
use Rattle.op_model.proofs.laws.worked_ahead.Goals as goal

pub returns : goal.returns
unfolding definitions lock_of locks_of stamp
returns c = record {
  lock = refl;
  locks = refl;
  stamp_clock = refl;
  stamp_next = refl;
  stamp_greatest = refl;
  reversed = (
    1,
    [],
    Accepted (join r s) (next data_a base ingested 1 3 1010 (join r s)) 1 1010 (216172782113783809 ∷ 216172782113783810 ∷ []) (216172782113783811 ∷ []) None refl refl (omega arith) (omega arith) (refl, refl, refl, refl, refl, refl, refl, refl, refl) refl,
    (1, [], BadLine NotJson refl refl refl refl, (1, [], Answered (read.Root s None) refl (omega arith) (omega arith) (omega arith) refl refl, (refl, refl))),
  );
}
