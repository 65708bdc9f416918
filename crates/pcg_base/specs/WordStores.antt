-- Inner: no clause of `run` is made of it.
-- What contracts see of a vector of words.
use Rattle.std.specs.Prelude.{ℕ, List}

-- the words, and for how many more there is room
pub record WordStore : Type 0 where
  pub words : List ℕ
  pub spare : ℕ

abbrev pub word_store : List ℕ → ℕ → WordStore
word_store words spare = record { words = words; spare = spare }
