-- Plays of the core, without their outlet.
use Rattle.std.specs.Prelude.{◌≡◌, ◌⊎◌, ℕ, pred, Bool, true, false, List, [], ◌∷◌, length, slice_get, Option, Some}
use Rattle.pcg_base.specs.States.{SinkState}
use Rattle.op_model.specs.declared.base.Dataset.{Dataset}
use Rattle.op_model.specs.declared.base.Base.{Base}
use Rattle.op_model.specs.Transcript.{Line}
use Rattle.session_machine.specs.Machine as machine
use Rattle.session_machine.specs.Play.{AllEnded, first_able}
use Rattle.pcg_base.specs.declared.clock.Ticks.{Ticks}
use Rattle.histories.specs.Histories.{EntriesOwned}
use Rattle.core_steps.specs.Plays.{Played}
use Rattle.core_steps.specs.Runs.{Finishes, Runs, time_at}
use Rattle.client_answers.specs.declared.answers.ClientAnswers.{ClientAnswers}
use Rattle.client_answers.specs.declared.answers.AllAnswers.{AllAnswers}
use Rattle.client_answers.specs.Answers.{IsMissed, IsPut, fault_sum}
use Rattle.client_answers.specs.Written.{AllAnswered}

module _ (d : Dataset) (b : Base) (ticks : Ticks) where
  -- the client of this number steps, by choices that are allowed and the clock's answer; or it may not go on, and nothing happens
  abbrev pub Steps : ℕ → machine.State → machine.State → Type 0
  Steps n w v =
      (s : machine.ClientState) × (slice_get w.clients (pred n) ≡ Some s)
      × (((machine.is_able w.shared s s.phase ≡ true) × (c : machine.Choice) × (c.clock ≡ time_at ticks w) × machine.IsAllowedAt d b c w.shared (slice_get w.clients (pred n))
      × (v ≡ machine.step d b c (pred n) w))
      ⊎ ((machine.is_able w.shared s s.phase ≡ false) × (v ≡ w)))

  -- the clients of these numbers step, one after the other
  abbrev pub StepsAll : List ℕ → machine.State → machine.State → Type 0
  StepsAll [] w v = v ≡ w
  StepsAll (n ∷ ns) w v = (u : machine.State) × Steps n w u × StepsAll ns u v

  -- the clients of these numbers step, each the least that may go on
  abbrev pub StepsLeast : List ℕ → machine.State → machine.State → Type 0
  StepsLeast [] w v = v ≡ w
  StepsLeast (n ∷ ns) w v = (first_able w.shared w.clients ≡ Some (pred n)) × (u : machine.State) × Steps n w u × StepsLeast ns u v

  -- the play of a schedule: a step of each of its clients, and then of the least that may go on, until all have ended
  pub record IsPlay (schedule : List ℕ) (w v : machine.State) : Type 0 where
    pub mid : machine.State
    pub scheduled : StepsAll schedule w mid
    pub turns : List ℕ
    pub rest : StepsLeast turns mid v
    pub ended : AllEnded v

-- What a play over these sinks came to: it is that of the schedule, the log is legal and each entry is of one of the clients, each client's replies are a transcript and were written to its sink, and where none failed each line has one. No sink came or went.
pub record IsPlayed {K : Type 0} (state : K → SinkState) (d : Dataset) (b : Base) (at : ℕ) (clients : List (List Line × Bool)) (ticks : Ticks) (schedule : List ℕ) (old new : AllAnswers K) (v : machine.State) : Type 0 where
  pub played : Played d b at clients v
  pub answered : AllAnswered state old.list.items new.list.items v.clients
  pub count : length new.list.items ≡ length old.list.items
  pub play : IsPlay d b ticks schedule (machine.start d b at clients) v
  pub owned : EntriesOwned (length clients) v.shared.log
  pub each : (k : ℕ) (s : machine.ClientState) (y : ClientAnswers K) (l : List Line × Bool) → slice_get v.clients k ≡ Some s → slice_get new.list.items k ≡ Some y → slice_get clients k ≡ Some l
      → y.failed ≡ false → length s.replies ≡ length l.0
  pub runs : (mid : AllAnswers K) × (u : machine.State) × Runs (λ a. fault_sum state a.list.items) (IsPut state) (IsMissed state) d b ticks schedule (machine.start d b at clients) old u mid
      × ((ns : List ℕ) × Finishes (λ a. fault_sum state a.list.items) (IsPut state) (IsMissed state) d b ticks ns u mid v new)
