-- Examples: no clause of `run` is made of them.
-- The definitions, evaluated on the samples.
use Rattle.std.specs.Prelude.{◌≡◌, ◌∷◌, length}
use Rattle.op_model.specs.Records.{records}
use Rattle.op_model.specs.Samples.{data_a, data_second, base, base_five, ingested, merged, halved, redone, regained, five, many_entry}
use Rattle.record_rows.specs.Words.{layout_word, grid_word, words_of}
use Rattle.record_rows.specs.LogRows.{rows_of}
use Rattle.record_rows.specs.Images.{trimmed}
use Rattle.row_tests.specs.Samples.{words_ingested, words_merged, words_halved, joined, words_joined, words_redone, words_regained}

-- the words of small logs are those written by hand
pub record WorkedWords : Type 0 where
  pub ingested_words : words_of (rows_of data_a base ingested) ≡ words_ingested
  pub merged_words : words_of (rows_of data_a base merged) ≡ words_merged
  pub halved_words : words_of (rows_of data_a base halved) ≡ words_halved
  pub joined_words : words_of (rows_of data_a base joined) ≡ words_joined
  pub redone_words : words_of (rows_of data_a base redone) ≡ words_redone
  pub regained_words : words_of (rows_of data_a base regained) ≡ words_regained
  pub header_first : layout_word data_a.layout ≡ 2049
  pub header_second : layout_word data_second.layout ≡ 67585
  pub header_grid : grid_word data_a.grid ≡ 1099512676354

-- the words below the tail of an earlier entry are those of the log up to it
pub record WorkedTails : Type 0 where
  pub merged_below : trimmed words_merged 24 ≡ words_ingested
  pub halved_below : trimmed words_halved 34 ≡ words_merged
  pub halved_first : trimmed words_halved 24 ≡ words_ingested
  pub redone_below : trimmed words_redone 47 ≡ words_halved
  pub regained_below : trimmed words_regained 34 ≡ words_merged

-- there are as many records as are counted
pub record WorkedCounts : Type 0 where
  pub ingested_count : length (rows_of data_a base ingested) ≡ records data_a base ingested
  pub merged_count : length (rows_of data_a base merged) ≡ 34
  pub halved_count : length (rows_of data_a base halved) ≡ records data_a base halved
  pub joined_count : length (rows_of data_a base joined) ≡ records data_a base joined
  pub many_count : length (rows_of data_a base_five (many_entry ∷ five)) ≡ records data_a base_five (many_entry ∷ five)
