use Rattle.std.proofs.Common.{refl}
use Rattle.op_model.proofs.Opened.{definitions}
use Rattle.record_rows.proofs.Opened.{row_definitions}
use Rattle.row_tests.proofs.word_tests.worked_words.Goals as goal

pub returns : goal.returns
unfolding definitions row_definitions
returns c = record {
  words = record { ingested_words = refl; merged_words = refl; halved_words = refl; joined_words = refl; redone_words = refl; regained_words = refl; header_first = refl; header_second = refl; header_grid = refl };
  tails = record { merged_below = refl; halved_below = refl; halved_first = refl; redone_below = refl; regained_below = refl };
  counts = record { ingested_count = refl; merged_count = refl; halved_count = refl; joined_count = refl; many_count = refl };
}
