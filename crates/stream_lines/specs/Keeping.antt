-- Inner: no clause of `run` is made of it.
-- A line that is taken of a stream and kept.
use Rattle.std.specs.Prelude.{◌≡◌, ℕ, List, [], ◌∷◌, ◌++◌, Option, Some, None}
use Rattle.client_events.specs.declared.lines.LineText.{LineText}
use Rattle.client_events.specs.declared.lines.LineText.TheVariants as text
use Rattle.client_session.specs.declared.session.LineRead.{LineRead}
use Rattle.client_session.specs.declared.session.LineRead.TheVariants as reads
use Rattle.client_session.specs.declared.session.Session.{Session}
use Rattle.client_session.specs.Sessions.{NextLine}
use Rattle.pcg_base.specs.declared.reading.StreamEnd.{StreamEnd}
use Rattle.pcg_base.specs.declared.reading.StreamEnd.TheVariants as ends

-- these bytes are kept
abbrev pub HasBytes : LineText → List ℕ → Type 0
HasBytes (text.Bytes bytes) line = bytes.items ≡ line
HasBytes (text.Long n) line = ⊥

-- what was read is put behind the lines, if it is one
abbrev pub Keeps : LineRead → List LineText → List LineText → Option StreamEnd → Type 0
Keeps (reads.Line line) old new end = (v : LineText) × HasBytes v line.now × (new ≡ old ++ v ∷ []) × (end ≡ None)
Keeps (reads.Long n) old new end = (new ≡ old ++ text.Long n ∷ []) × (end ≡ None)
Keeps reads.End old new end = (new ≡ old) × (end ≡ Some ends.Whole)
Keeps reads.ReadFault old new end = (new ≡ old) × (end ≡ Some ends.Broken)
Keeps reads.TooLong old new end = (new ≡ old) × (end ≡ Some ends.TooLong)

-- the session's next line was read and kept
abbrev pub IsTaken : {S K : Type 0} → (S → Option (List ℕ)) → (S → ℕ) → Session S K → Session S K → List LineText → List LineText → Option StreamEnd → Type 0
IsTaken left faults old new lines lines' end = (answer : LineRead) × NextLine left faults answer old new × Keeps answer lines lines' end
