-- Inner: no clause of `run` is made of it.
-- What a sink holds and what waits before it, while a text goes there by way of a page.
use Rattle.request_lines.specs.declared.page.Page.{Page}
use Rattle.std.specs.Prelude.{◌≡◌, ℕ, ◌≤◌, true, false, List, ◌++◌, take, ⊤, Option, Some, None}
use Rattle.std.specs.Io.KnownBytes.{Keeps}
use Rattle.pcg_base.specs.Causes.{Rose}
use Rattle.pcg_base.specs.States.{SinkState}
use Rattle.pcg_base.specs.Told.{AppendsFront}

-- what a page holds
abbrev pub waiting : Page → List ℕ
waiting p = take p.len p.bytes

-- the held bytes, where they are known, grew by what comes before the rest in this text
abbrev pub Sends : Option (List ℕ) → Option (List ℕ) → List ℕ → List ℕ → Type 0
Sends None new text rest = ⊤
Sends (Some xs) None text rest = ⊥
Sends (Some xs) (Some ys) text rest = (sent : List ℕ) × (ys ≡ xs ++ sent) × (text ≡ sent ++ rest)

-- A text was put behind what waits, by way of a sink. Once a write has failed nothing more is written.
pub record Puts (sink sink' : SinkState) (page page' : Page) (text : List ℕ) : Type 0 where
  pub later : sink.faults ≤ sink'.faults
  pub stays : page.failed ≡ true → (page'.failed ≡ true) × Keeps sink.held sink'.held
  pub goes : page'.failed ≡ false → Sends sink.held sink'.held (waiting page ++ text) (waiting page')
  pub still : page'.failed ≡ false → sink'.faults ≡ sink.faults
  pub fails : page.failed ≡ false → page'.failed ≡ true → AppendsFront sink.held sink'.held (waiting page ++ text) × Rose sink.faults sink'.faults
