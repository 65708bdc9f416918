-- Inner: no clause of `run` is made of it.
-- What a reading of words answers.
use Rattle.std.specs.Prelude.{◌≡◌, ⊤, Option, Some, None, Result, Ok, Err}
use Rattle.clap.specs.Walk.{rows_of}
use Rattle.clap.specs.Words.{found_of}
use Rattle.option_words.specs.Found.{line_in}
use Rattle.option_words.specs.Grammar.{Line}
use Rattle.option_words.specs.declared.line.Found.{Found}
use Rattle.option_words.specs.declared.line.WordsError.{WordsError}
use Rattle.option_words.specs.declared.line.WordsError.TheVariants as errors

-- the answer is what the words spell, or that they spell nothing, unless memory ran out
abbrev pub Spells : {A : Type 0} → Option A → Result A WordsError → Type 0
Spells wanted (Ok found) = wanted ≡ Some found
Spells wanted (Err errors.BadWords) = wanted ≡ None
Spells wanted (Err errors.NoMemory) = ⊤

-- what the words say in which this was found
abbrev pub said : Found → Line
said found = line_in (rows_of (found_of found.matches))
