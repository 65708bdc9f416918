-- How many records the words are.
use Rattle.std.proofs.Common.{◌≡◌, ℕ, ◌*◌, ◌/◌, List, length, ◌∙◌, ap, arith}
use Rattle.record_rows.specs.Rows.{Row}
use Rattle.record_rows.specs.Words.{words_of}
use Rattle.record_rows.proofs.TellLemmas.{length-words_of}

pub places : (rows : List Row) (words : List ℕ) → words ≡ words_of rows → length words / 8 ≡ length rows
unfolding words_of
places rows words e = let n : length words ≡ 8 * length rows = ap length e ∙ length-words_of rows in omega arith
