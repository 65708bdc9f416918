-- What contracts see of the outside.
use Rattle.std.specs.Prelude.{◌≡◌, ◌≢◌, ℕ, Bool, true, List, Option}
use Rattle.pcg_base.specs.Told.{Counts, Files}

-- a sink: the bytes that it holds and those that it held at its last flush that did not fail, where it tells them, and how often it has failed
pub record SinkState : Type 0 where
  pub held : Option (List ℕ)
  pub flushed : Option (List ℕ)
  pub faults : ℕ

-- A place: the bytes at each name, where it tells them; what the last source that was kept at a name had left, in a place that tells its bytes; failed openings for reading and the faults of all sources kept; failed openings for writing and the faults of all sinks kept; the counts beside a name; and whether a name was opened for reading, and for writing.
pub record PlaceState : Type 0 where
  pub files : Option Files
  pub left : List ℕ → List ℕ
  pub reads : ℕ
  pub writes : ℕ
  pub counts : List ℕ → Counts
  pub opened_in : List ℕ → Bool
  pub opened_out : List ℕ → Bool

module _ (old new : PlaceState) where
  -- what sources had left at all names is as it was
  abbrev pub KeepsLeft : Type 0
  KeepsLeft = (n : List ℕ) → new.left n ≡ old.left n

  -- what sources had left at all other names is as it was
  abbrev pub KeepsOtherLeft : List ℕ → Type 0
  KeepsOtherLeft name = (n : List ℕ) → n ≢ name → new.left n ≡ old.left n

  -- the counts beside all other names are as they were
  abbrev pub KeepsOtherCounts : List ℕ → Type 0
  KeepsOtherCounts name = (n : List ℕ) → n ≢ name → new.counts n ≡ old.counts n

  -- names that were opened for reading stay so
  abbrev pub StaysIn : Type 0
  StaysIn = (n : List ℕ) → old.opened_in n ≡ true → new.opened_in n ≡ true

  -- names that were opened for writing stay so
  abbrev pub StaysOut : Type 0
  StaysOut = (n : List ℕ) → old.opened_out n ≡ true → new.opened_out n ≡ true
