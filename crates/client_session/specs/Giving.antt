-- The lines that were given of what was taken.
use Rattle.std.specs.Prelude.{◌≡◌, ◌==◌, ◌^◌, ◌≤◌, ℕ, if◌then◌else◌, List, [], ◌∷◌, ◌++◌, length, Bool, true, false, ⊤}
use Rattle.request_lines.specs.Lines.{lines_of}
use Rattle.client_session.specs.Feeds.{NoFeed}

-- a byte at the front of the first line, if there is one
abbrev pub extending : ℕ → List (List ℕ) → List (List ℕ)
extending byte [] = []
extending byte (line ∷ lines) = (byte ∷ line) ∷ lines

-- what each line feed ends, without it
unfoldable pub ended_of : List ℕ → List (List ℕ)
ended_of [] = []
ended_of (byte ∷ bytes) = if byte == 10 then [] ∷ ended_of bytes else extending byte (ended_of bytes)

-- lines, each with its line feed
abbrev pub texts : List (List ℕ) → List ℕ
texts [] = []
texts (line ∷ lines) = line ++ (10 ∷ texts lines)

-- no line has a line feed
abbrev pub NoFeeds : List (List ℕ) → Type 0
NoFeeds [] = ⊤
NoFeeds (line ∷ lines) = NoFeed line × NoFeeds lines

-- Of what was taken these lines were given, with their line feeds and within the limit, and the rest waits. Or all its lines were given.
abbrev pub HasGiven : Bool → List ℕ → List (List ℕ) → List ℕ → Type 0
HasGiven false taken lines rest = NoFeeds lines × (taken ≡ texts lines ++ rest) × (length (texts lines) ≤ 2 ^ 30)
HasGiven true taken lines rest = (lines_of taken ≡ lines) × (rest ≡ [])
