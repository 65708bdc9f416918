-- Which clients a schedule names.
use Rattle.std.specs.Prelude.{◌≡◌, ℕ, ◌+◌, ◌&&◌, nat_le, if◌then◌else◌, List, [], ◌∷◌, ⊤, Option, Some, None, Result, Ok, Err}
use Rattle.node_ids.specs.Digits.{number_of}
use Rattle.schedules.specs.declared.reading.ScheduleError.{ScheduleError}
use Rattle.schedules.specs.declared.reading.ScheduleError.TheVariants as errors
use Rattle.schedules.specs.Words.{words_of}

-- a number from 1 to this many
abbrev pub within : ℕ → Option ℕ → Option ℕ
within clients None = None
within clients (Some n) = if nat_le 1 n && nat_le n clients then Some n else None

-- the client whose number a word is
unfoldable pub client_of : ℕ → List ℕ → Option ℕ
client_of clients word = within clients (number_of word)

-- one client in front of the others
abbrev pub in_front : ℕ → Result (List ℕ) ℕ → Result (List ℕ) ℕ
in_front n (Ok ns) = Ok (n ∷ ns)
in_front n (Err word) = Err word

-- the clients that words name, or the number of the first word that names none; the first of these words has this number
abbrev pub named_by : ℕ → Option ℕ → Result (List ℕ) ℕ → Result (List ℕ) ℕ
named_by word None rest = Err word
named_by word (Some n) rest = in_front n rest

unfoldable pub clients_from : ℕ → ℕ → List (List ℕ) → Result (List ℕ) ℕ
clients_from clients word [] = Ok []
clients_from clients word (w ∷ ws) = named_by word (client_of clients w) (clients_from clients (word + 1) ws)

-- the clients that a schedule names, or its first word that names none, counted from 1
unfoldable pub schedule_of : ℕ → List ℕ → Result (List ℕ) ℕ
schedule_of clients text = clients_from clients 1 (words_of text)

-- what is answered is this, unless there was no memory
abbrev pub Answers : Result (List ℕ) ℕ → ScheduleError → Type 0
Answers wanted (errors.Bad word) = wanted ≡ Err word
Answers wanted errors.NoMemory = ⊤
