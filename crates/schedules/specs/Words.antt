-- The words of a text.
use Rattle.std.specs.Prelude.{ℕ, Bool, true, ◌==◌, ◌||◌, if◌then◌else◌, List, [], ◌∷◌}

-- a space, a tab, a line feed or a carriage return
unfoldable pub is_blank : ℕ → Bool
is_blank byte = byte == 32 || byte == 9 || byte == 10 || byte == 13

-- whether no byte of a word stands in front
unfoldable pub is_start : List ℕ → Bool
is_start [] = true
is_start (byte ∷ bytes) = is_blank byte

-- a byte at the front of the first word
abbrev pub extended : ℕ → List (List ℕ) → List (List ℕ)
extended byte [] = (byte ∷ []) ∷ []
extended byte (word ∷ words) = (byte ∷ word) ∷ words

-- what stands between blanks, in order
unfoldable pub words_of : List ℕ → List (List ℕ)
words_of [] = []
words_of (byte ∷ bytes) =
    if is_blank byte then words_of bytes else if is_start bytes then (byte ∷ []) ∷ words_of bytes else extended byte (words_of bytes)
