-- Inner: no clause of `run` is made of it.
-- A text that isn't told.
use Rattle.std.specs.Prelude.{ℕ, List}
use Rattle.pcg_base.specs.States.{SinkState}
use Rattle.request_lines.specs.Sent.{Puts}
use Rattle.request_lines.specs.declared.page.Page.{Page}

-- some text was put on a page
abbrev pub PutsSome : SinkState → SinkState → Page → Page → Type 0
PutsSome sink sink' page page' = (text : List ℕ) × Puts sink sink' page page' text
