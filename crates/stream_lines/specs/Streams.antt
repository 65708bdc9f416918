-- Inner: no clause of `run` is made of it.
-- The lines of a stream.
use Rattle.std.specs.Prelude.{◌≡◌, ◌<◌, ◌≤◌, ◌^◌, ℕ, List, [], ◌∷◌, length, take, ⊤, Option, Some, None}
use Rattle.std.specs.Io.KnownBytes.{Consumes, IsAtEnd}
use Rattle.request_lines.specs.Lines.{lines_of}
use Rattle.client_events.specs.declared.lines.LineText.{LineText}
use Rattle.client_events.specs.declared.lines.LineText.TheVariants as text
use Rattle.client_session.specs.Giving.{ended_of}
use Rattle.pcg_base.specs.Causes.{Rose}
use Rattle.pcg_base.specs.declared.reading.StreamEnd.{StreamEnd}
use Rattle.pcg_base.specs.declared.reading.StreamEnd.TheVariants as ends

-- this line is kept: its bytes, or how many they are where they are over 65,536
abbrev pub IsText : LineText → List ℕ → Type 0
IsText (text.Bytes bytes) line = (bytes.items ≡ line) × (length line ≤ 65536)
IsText (text.Long n) line = (n ≡ length line) × (65536 < n)

-- these lines are kept, in their order
abbrev pub AreTexts : List LineText → List (List ℕ) → Type 0
AreTexts [] [] = ⊤
AreTexts [] (line ∷ lines) = ⊥
AreTexts (t ∷ ts) [] = ⊥
AreTexts (t ∷ ts) (line ∷ lines) = IsText t line × AreTexts ts lines

-- of bytes that were told none is left
abbrev pub EndsTold : Option (List ℕ) → Option (List ℕ) → Type 0
EndsTold None left' = ⊤
EndsTold (Some bytes) left' = IsAtEnd left'

-- The lines of what was taken of a stream, by how it ended: all of them at its end; those that a line feed ended before a fault, and within the limit where more was taken.
abbrev pub EndsIn : StreamEnd → List ℕ → List (List ℕ) → Option (List ℕ) → Option (List ℕ) → ℕ → ℕ → Type 0
EndsIn ends.Whole taken lines left left' before now = (lines_of taken ≡ lines) × EndsTold left left' × (now ≡ before)
EndsIn ends.Broken taken lines left left' before now = (ended_of taken ≡ lines) × Rose before now
EndsIn ends.TooLong taken lines left left' before now = (ended_of (take (2 ^ 30) taken) ≡ lines) × (2 ^ 30 < length taken) × (now ≡ before)

-- these lines are those of a stream, of which this is left, and so it ended
pub record HasLines (left left' : Option (List ℕ)) (before now : ℕ) (texts : List LineText) (end : StreamEnd) : Type 0 where
  pub taken : List ℕ
  pub consumed : Consumes left left' taken
  pub lines : List (List ℕ)
  pub kept : AreTexts texts lines
  pub ends : EndsIn end taken lines left left' before now
