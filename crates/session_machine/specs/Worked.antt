-- Examples: no clause of `run` is made of them.
-- Worked runs, each evaluated.
use Rattle.std.specs.Prelude.{◌≡◌, ℕ, replicate, Bool, true, false, List, [], ◌∷◌, map, reverse, None}
use Rattle.op_model.specs.declared.entry.Entry.{Entry}
use Rattle.op_model.specs.declared.request.Request.TheVariants as request
use Rattle.op_model.specs.declared.reply.Reply.{Reply}
use Rattle.op_model.specs.declared.reply.Reply.TheVariants as reply
use Rattle.op_model.specs.declared.reply.Refusal.TheVariants.{SameRoot}
use Rattle.op_model.specs.declared.request.Read.TheVariants as read
use Rattle.op_model.specs.Transcript.{Line, Asks}
use Rattle.op_model.specs.Samples.{p, r, s as s4, t as t5, data_a, base, base_five, join}
use Rattle.session_machine.specs.Machine.{State, Choice, run, start, is_ended}
use Rattle.session_machine.specs.Play.{play, scheduled}

abbrev pub merge : ℕ → ℕ → Line
merge u v = Asks (request.Edit (join u v))

-- a clock that stands at 1010, and nothing write_fails
abbrev pub steady : ℕ → Choice
steady n = record { write_fails = false; no_memory = false; shown = None; clock = 1010 }

abbrev pub played : List ℕ → List (List Line × Bool) → State
played schedule clients = play data_a base steady steady schedule (start data_a base 1000 clients)

abbrev pub replies_in : State → List (List Reply)
replies_in w = map (λ s. reverse s.replies) w.clients

-- both clients merge the same two roots
abbrev pub both : List (List Line × Bool)
both = (merge r s4 ∷ [], false) ∷ (merge r s4 ∷ [], false) ∷ []

-- who made the entries, newest first, and on which line
abbrev pub makers : List Entry → List (ℕ × ℕ)
makers log = map (λ e. (e.client, e.line)) log

-- Two clients merge into one root in turn, and a third reads. The schedule lets the second client look before the first one's entry, and wait for a lock that it holds.
abbrev pub three : List (List Line × Bool)
three =
    let root : Line = Asks (request.Read (read.Root p None)) in
    (merge r s4 ∷ [], false) ∷ (merge p t5 ∷ [], false) ∷ (root ∷ root ∷ root ∷ root ∷ [], false) ∷ []

abbrev pub schedule : List ℕ
schedule =
    2 ∷ 1 ∷ 1 ∷ 1 ∷ 1 ∷ 1 ∷ 1 ∷ 1 ∷ 3 ∷ 3 ∷ 2 ∷ 1 ∷ 3 ∷ 3 ∷ 1 ∷ 1 ∷ 1 ∷ 1
    ∷ 2 ∷ 2 ∷ 2 ∷ 2 ∷ 2 ∷ 2 ∷ 2 ∷ 2 ∷ 2 ∷ 2 ∷ 3 ∷ 3 ∷ 2 ∷ 2 ∷ 2 ∷ 3 ∷ 3 ∷ 2 ∷ 2 ∷ 2 ∷ 2 ∷ []

-- the state after the schedule alone
abbrev pub after : List ℕ → State
after numbers =
    run data_a base_five (scheduled data_a base_five steady numbers) (start data_a base_five 1000 three)

pub record WorkedRuns : Type 0 where
  pub one_after_the_other : makers (played [] both).shared.log ≡ (1, 1) ∷ (0, 0) ∷ []
  pub first_reply :
      replies_in (played [] both)
      ≡ (reply.Edited 1 1010 (216172782113783809 ∷ 216172782113783810 ∷ []) (216172782113783811 ∷ []) None 2 ∷ []) ∷ (reply.Refused (SameRoot 216172782113783811) 2 ∷ []) ∷ []
  pub ended : map (λ s. is_ended s s.phase) (played [] both).clients ≡ true ∷ true ∷ []
  pub in_turn : makers (after schedule).shared.log ≡ (2, 1) ∷ (1, 1) ∷ (0, 0) ∷ []
  pub replies :
      replies_in (after schedule)
      ≡ (reply.Edited 1 1010 (216172782113783809 ∷ 216172782113783810 ∷ []) (216172782113783812 ∷ []) None 2 ∷ [])
      ∷ (reply.Edited 2 1011 (216172782113783811 ∷ 216172782113783812 ∷ []) (216172782113783813 ∷ []) None 3 ∷ [])
      ∷ (reply.Root 216172782113783809 1 ∷ reply.Root 216172782113783812 2 ∷ reply.Root 216172782113783812 2 ∷ reply.Root 216172782113783813 3 ∷ [])
      ∷ []
  -- the schedule has just the events that the clients need
  pub all_ended : map (λ s. is_ended s s.phase) (after schedule).clients ≡ true ∷ true ∷ true ∷ []
  pub free : (after schedule).shared.locks ≡ replicate 64 0
