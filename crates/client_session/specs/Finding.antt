-- Inner: no clause of `run` is made of it.
-- What the buffer's search finds.
use Rattle.std.specs.Prelude.{◌≡◌, ◌<◌, ◌≤◌, ℕ, List, length, slice_range, Bool, true, false, Option}
use Rattle.client_session.specs.declared.found.Found.{Found}
use Rattle.client_session.specs.declared.found.Found.TheVariants as found
use Rattle.client_session.specs.Feeds.{IsNext, IsEnd, IsFault, IsTooLong}

-- what is found in what is held, if that many bytes were given before, and what waits after it
abbrev pub Finds : Found → List ℕ → ℕ → List ℕ → List ℕ → Bool → Bool → Option (List ℕ) → ℕ → ℕ → Type 0
Finds (found.Line from to) bytes given held rest was over left before now =
    (from ≤ to) × (to ≤ length bytes) × (length (slice_range bytes from to) ≤ 65536) × IsNext (slice_range bytes from to) over given held rest left
Finds (found.Long n) bytes given held rest was over left before now = (line : List ℕ) × (length line ≡ n) × (65536 < n) × IsNext line over given held rest left
Finds found.End bytes given held rest was over left before now = IsEnd was held rest left
Finds found.ReadFault bytes given held rest was over left before now = IsFault held before now
Finds found.TooLong bytes given held rest was over left before now = IsTooLong given held

-- no line comes after it
abbrev pub stops_at : Found → Bool
stops_at (found.Line from to) = false
stops_at (found.Long n) = false
stops_at found.End = true
stops_at found.ReadFault = true
stops_at found.TooLong = true

-- the source failed
abbrev pub is_fault : Found → Bool
is_fault (found.Line from to) = false
is_fault (found.Long n) = false
is_fault found.End = false
is_fault found.ReadFault = true
is_fault found.TooLong = false
