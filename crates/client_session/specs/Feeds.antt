-- Inner: no clause of `run` is made of it.
-- Line feeds, and what a stream's next line is.
use Rattle.std.specs.Prelude.{◌≡◌, ◌==◌, ◌+◌, ◌-◌, ◌^◌, ◌<◌, ◌≤◌, ℕ, List, [], ◌∷◌, ◌++◌, length, take, drop, Bool, true, false, Option}
use Rattle.std.specs.List.{list_any}
use Rattle.std.specs.Io.KnownBytes.{IsAtEnd}
use Rattle.pcg_base.specs.Causes.{Rose}

-- no byte is a line feed
abbrev pub NoFeed : List ℕ → Type 0
NoFeed bytes = list_any (λ b. b == 10) bytes ≡ false

-- the first line feed of some bytes stands at this index
pub record FeedAt (at : ℕ) (bytes : List ℕ) : Type 0 where
  pub within : at < length bytes
  pub none : NoFeed (take at bytes)
  pub here : bytes ≡ take at bytes ++ (10 ∷ drop (at + 1) bytes)

-- A line stands at the front of what is held. Its line feed lies within the limit, and the rest waits. Or the stream is at its end and within the limit, and nothing waits.
abbrev pub Ends : Bool → List ℕ → ℕ → List ℕ → List ℕ → Option (List ℕ) → Type 0
Ends false line given held after left = (held ≡ line ++ (10 ∷ after)) × (given + length line < 2 ^ 30)
Ends true line given held after left = (held ≡ line) × (after ≡ []) × (0 < length line) × IsAtEnd left × (given + length line ≤ 2 ^ 30)

-- the next line of what is held, if that many bytes of the stream were given before
pub record IsNext (line : List ℕ) (over : Bool) (given : ℕ) (held after : List ℕ) (left : Option (List ℕ)) : Type 0 where
  pub no_feed : NoFeed line
  pub ends : Ends over line given held after left

-- the stream was read to its end, and all of it was given
pub record IsEnd (over : Bool) (held rest : List ℕ) (left : Option (List ℕ)) : Type 0 where
  pub none_held : held ≡ []
  pub none_waits : rest ≡ []
  pub at_end : over ≡ false → IsAtEnd left

-- the source failed, and no line feed is left
pub record IsFault (held : List ℕ) (before now : ℕ) : Type 0 where
  pub no_feed : NoFeed held
  pub rose : Rose before now

-- more bytes than the limit were taken, and those within it that weren't given have no line feed
pub record IsTooLong (given : ℕ) (held : List ℕ) : Type 0 where
  pub long : 2 ^ 30 < given + length held
  pub no_feed : NoFeed (take (2 ^ 30 - given) held)
