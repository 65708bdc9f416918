-- Inner: no clause of `run` is made of it.
-- What the calls that append a record are given.
use Rattle.std.specs.Prelude.{◌≡◌, ℕ, ◌+◌, ◌*◌}
use Rattle.op_model.specs.declared.entry.Entry.{Entry}
use Rattle.op_model.specs.declared.entry.Asked.TheVariants as asked
use Rattle.row_append.specs.declared.tail.Tail.{Tail}

-- the number of the word that the pointer is
abbrev pub word_number : Tail → ℕ
word_number t = 8 * t.spot + t.word

-- the first entry of a log, with this timestamp
abbrev pub IsIngest : Entry → ℕ → Type 0
IsIngest e at = (e.number ≡ 0) × (e.client ≡ 0) × (e.line ≡ 0) × (e.at ≡ at) × (e.asked ≡ asked.Ingest)
