-- Inner: no clause of `run` is made of it.
-- What the tests know of the words that they read.
use Rattle.std.specs.Prelude.{◌≡◌, ℕ, ◌+◌, ◌*◌, ◌%◌, ◌^◌, ◌≤◌, List, length, slice_index}
use Rattle.op_model.specs.declared.entry.Entry.{Entry}
use Rattle.op_model.specs.Samples.{base, data_a}
use Rattle.record_rows.specs.Readings.{Image}

-- the words are the image of a log of the sample base
pub record IsSample (words : List ℕ) : Type 0 where
  pub log : List Entry
  pub image : Image data_a base log words

-- a record of this kind stands at the place
pub record HasKind (words : List ℕ) (place kind : ℕ) : Type 0 where
  pub within : 8 * place + 8 ≤ length words
  pub code : slice_index words (8 * place) % 2 ^ 8 ≡ kind

-- a node or a supervoxel, by its kind
pub data IsOwner (words : List ℕ) (place : ℕ) : Type 0 where
  Node : HasKind words place 4 → IsOwner words place
  Supervoxel : HasKind words place 2 → IsOwner words place
