-- Texts that are cut at a byte, and lines.
use Rattle.std.specs.Prelude.{ℕ, ◌+◌, ◌==◌, if◌then◌else◌, List, [], ◌∷◌, take, drop, position, Option, Some, None, option_map, option_and_then}

-- what stands before the first such byte and behind it
abbrev pub cut_at : ℕ → List ℕ → Option (List ℕ × List ℕ)
cut_at byte text = option_map (λ i. (take i text, drop (i + 1) text)) (position (λ b. b == byte) text)

-- a byte in front of the first line, if there is one
unfoldable pub before_first : ℕ → List (List ℕ) → Option (List (List ℕ))
before_first b [] = None
before_first b (line ∷ lines) = Some ((b ∷ line) ∷ lines)

-- the lines of a text, without their line feeds, where one ends each of them
unfoldable pub ended_lines : List ℕ → Option (List (List ℕ))
ended_lines [] = Some []
ended_lines (b ∷ bs) = if b == 10 then option_map (λ lines. [] ∷ lines) (ended_lines bs) else option_and_then (before_first b) (ended_lines bs)
