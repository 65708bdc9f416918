use Rattle.std.proofs.Common.{ℕ, ◌≤◌, refl, arith}
use Rattle.op_model.specs.declared.base.Dataset.{Dataset}
use Rattle.op_model.specs.Valid.{IsDataset}
use Rattle.record_rows.specs.Words.{layout_word, grid_word}
use Rattle.row_tests.proofs.word_tests.headers_of_both_versions.Goals as goal

abbrev sample : ℕ → Dataset
sample version = record { layout = record { version = version; bits = 8 }; grid = record { x = 1; y = 2; z = 3 }; merge_affinity = 1; capacity = 2 }

is_dataset : (version : ℕ) → 1 ≤ version → version ≤ 2 → IsDataset (sample version)
is_dataset version low high = record {
  layout = (low, high, omega arith, omega arith);
  x = (omega arith, omega arith, omega arith);
  y = (omega arith, omega arith, omega arith);
  z = (omega arith, omega arith, omega arith);
  merge_affinity = (omega arith, omega arith);
  capacity = (omega arith, omega arith);
}

pub layout_of-first-requires : goal.layout_of-first-requires
unfolding layout_word
layout_of-first-requires g c = record { stated = (sample 1, is_dataset 1 (omega arith) (omega arith), refl) }

pub layout_of-second-requires : goal.layout_of-second-requires
unfolding layout_word
layout_of-second-requires g c = record { stated = (sample 2, is_dataset 2 (omega arith) (omega arith), refl) }

pub grid_of-grid-requires : goal.grid_of-grid-requires
unfolding grid_word
grid_of-grid-requires g c = record { stated = (sample 1, is_dataset 1 (omega arith) (omega arith), refl) }
