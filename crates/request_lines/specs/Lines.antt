-- The lines of a stream of bytes.
use Rattle.std.specs.Prelude.{ℕ, ◌==◌, if◌then◌else◌, List, [], ◌∷◌}

-- a byte at the front of the first line
abbrev pub starting : ℕ → List (List ℕ) → List (List ℕ)
starting byte [] = (byte ∷ []) ∷ []
starting byte (l ∷ ls) = (byte ∷ l) ∷ ls

-- what each line feed ends, without it, and the rest if it has a byte
unfoldable pub lines_of : List ℕ → List (List ℕ)
lines_of [] = []
lines_of (byte ∷ bytes) = if byte == 10 then [] ∷ lines_of bytes else starting byte (lines_of bytes)
