-- The machine of the server: clients that answer lines over one log, with locks on roots and a turn for publishing.
-- Lists of what has come, as the log, replies and held locks, have the newest first.
use Rattle.std.specs.Prelude.{◌≡◌, ℕ, suc, Bool, true, false, not, ◌&&◌, ◌==◌, if◌then◌else◌, List, [], ◌∷◌, length, map, replicate, slice_index, slice_get, slice_set, Option, Some, None}
use Rattle.std.specs.List.{list_any}
use Rattle.op_model.specs.declared.base.Dataset.{Dataset}
use Rattle.op_model.specs.declared.base.Base.{Base}
use Rattle.op_model.specs.declared.request.Edit.{Edit}
use Rattle.op_model.specs.declared.entry.Asked.TheVariants as asked
use Rattle.op_model.specs.declared.entry.Changed.{Changed}
use Rattle.op_model.specs.declared.entry.Entry.{Entry}
use Rattle.op_model.specs.declared.entry.Shown.{Shown}
use Rattle.op_model.specs.declared.request.Request.TheVariants as request
use Rattle.op_model.specs.declared.reply.Reply.{Reply}
use Rattle.op_model.specs.declared.reply.Reply.TheVariants as reply
use Rattle.op_model.specs.declared.reply.Refusal.{Refusal}
use Rattle.graph_model.specs.Lists.{has}
use Rattle.op_model.specs.Cuts.{Shows}
use Rattle.op_model.specs.Operations.{change, touched, entry_of, first_entry}
use Rattle.op_model.specs.Refusals.{refuse_early, refuse_cut, refuse_late, refused}
use Rattle.op_model.specs.Answers.{answer}
use Rattle.op_model.specs.Locks.{locks_of}
use Rattle.op_model.specs.Stamps.{stamp}
use Rattle.op_model.specs.Transcript.{Line, Asks, Faulty, read_reply, log_at}

-- what a client does once it has given its locks back
pub data After : Type 0 where
  Answer : Reply → After
  Restart : Edit → After

-- where a client is in its line, with what it needs from there on
pub data Phase : Type 0 where
  -- it takes its next line, or begins an edit again
  Ready : Phase
  Again : Edit → Phase
  -- it takes the next lock, and then the others
  Locking : Edit → ℕ → List ℕ → Phase
  Pinning : Edit → Phase
  Planning : Edit → Phase
  -- it waits for the turn with its plan, and makes the entry in its turn
  Waiting : Edit → List Changed → Option Shown → Phase
  Checking : Edit → List Changed → Option Shown → Phase
  Committing : Edit → Option Shown → Entry → Phase
  -- it gives back the turn, and then its locks
  Yielding : Reply → Phase
  Releasing : After → Phase
  Replying : Reply → Phase
  Ended : Phase

-- A client: its lines, its phase, and what has come of it.
pub record ClientState : Type 0 where
  -- the lines left, the next one first, and whether their stream ended in a fault
  pub lines : List Line
  pub faulty : Bool
  pub phase : Phase
  -- the locks that it holds, the greatest first, and those that it has pinned
  pub held : List ℕ
  pub pinned : List ℕ
  -- the length of the log that it has seen last, and its own entries
  pub seen : ℕ
  pub own : List Entry
  -- the lines taken and the replies given to them
  pub asked : List Line
  pub replies : List Reply

-- what all clients share; a lock and the turn are 0, or the number of the client that holds them
pub record Shared : Type 0 where
  pub log : List Entry
  pub locks : List ℕ
  pub turn : ℕ

-- the client in place k has the number k + 1
pub record State : Type 0 where
  pub shared : Shared
  pub clients : List ClientState

-- What the machine doesn't decide, for one step: whether a reply's writing fails, whether memory is wanting, the flow that is shown with a split, and the clock's answer
pub record Choice : Type 0 where
  pub write_fails : Bool
  pub no_memory : Bool
  pub shown : Option Shown
  pub clock : ℕ

-- whether all of these locks are held
unfoldable pub holds_all : List ℕ → List ℕ → Bool
holds_all held locks = not (list_any (λ n. not (has held n)) locks)

-- where a client is that has these locks left to take
abbrev pub locking : Edit → List ℕ → Phase
locking edit [] = Pinning edit
locking edit (n ∷ ns) = Locking edit n ns

-- where it goes on once it holds no lock
abbrev pub after : After → Phase
after (Answer r) = Replying r
after (Restart edit) = Again edit

-- the phase of a client that has these locks left to give back
abbrev pub releasing : After → List ℕ → Phase
releasing a [] = after a
releasing a (n ∷ ns) = Releasing a

-- the greatest held lock is given back
abbrev pub give_back : Shared → ClientState → After → List ℕ → Shared × ClientState
give_back sh s a [] = (sh, record s { pinned = []; phase = after a })
give_back sh s a (n ∷ ns) = (record sh { locks = slice_set sh.locks n 0 }, record s { held = ns; pinned = []; phase = releasing a ns })

-- a client at the start, with its lines
abbrev pub new_client : List Line × Bool → ClientState
new_client l =
    record { lines = l.0; faulty = l.1; phase = Ready; held = []; pinned = []; seen = 1; own = []; asked = []; replies = [] }

-- whether a client in this phase may go on
abbrev pub is_able : Shared → ClientState → Phase → Bool
is_able sh s Ready = if length s.lines == 0 then s.faulty else true
is_able sh s (Locking edit n ns) = slice_index sh.locks n == 0
is_able sh s (Waiting edit changed shown) = sh.turn == 0
is_able sh s Ended = false
is_able sh s p = true

-- a client with no line left has ended too, unless its stream's fault is still to come
abbrev pub is_ended : ClientState → Phase → Bool
is_ended s Ready = length s.lines == 0 && not s.faulty
is_ended s Ended = true
is_ended s p = false

module _ (d : Dataset) (b : Base) where
  -- the look that begins an edit
  abbrev pub looked : Shared → ClientState → Edit → Option Refusal → ClientState
  looked sh s edit None = record s { seen = length sh.log; phase = locking edit (locks_of d.layout (touched d b sh.log edit)) }
  looked sh s edit (Some r) = record s { seen = length sh.log; phase = Replying (reply.Refused r (length sh.log)) }

  abbrev pub look : Choice → Shared → ClientState → Edit → ClientState
  look c sh s edit =
      if c.no_memory
      then record s { seen = length sh.log; phase = Replying reply.NoMemory }
      else looked sh s edit (refuse_early d b sh.log edit)

  -- the look at a line that was taken
  abbrev pub read_line : Shared → ClientState → Line → ClientState
  read_line sh s (Faulty error) = record s { phase = Replying (reply.BadLine error) }
  read_line sh s (Asks (request.Read q)) =
      record s { seen = length sh.log; phase = Replying (read_reply (refused d b sh.log (request.Read q)) sh.log (answer d b sh.log q)) }
  read_line sh s (Asks (request.Edit edit)) = looked sh s edit (refuse_early d b sh.log edit)

  -- a line is taken
  abbrev pub take_line : Choice → Shared → ClientState → List Line → ClientState
  take_line c sh s [] = if s.faulty then record s { phase = Ended } else s
  take_line c sh s (l ∷ lines) =
      let t = record s { lines = lines; asked = l ∷ s.asked } in
      if c.no_memory then record t { seen = length sh.log; phase = Replying reply.NoMemory } else read_line sh t l

  -- the look that pins: the roots' locks are to be held
  abbrev pub pinned_at : Shared → ClientState → Edit → Option Refusal → Bool → ClientState
  pinned_at sh s edit (Some r) all = record s { seen = length sh.log; phase = Releasing (Answer (reply.Refused r (length sh.log))) }
  pinned_at sh s edit None false = record s { seen = length sh.log; phase = Releasing (Restart edit) }
  pinned_at sh s edit None true = record s { seen = length sh.log; pinned = s.held; phase = Planning edit }

  abbrev pub pin : Shared → ClientState → Edit → ClientState
  pin sh s edit = pinned_at sh s edit (refuse_early d b sh.log edit) (holds_all s.held (locks_of d.layout (touched d b sh.log edit)))

  -- the plan is made at the log that was pinned
  abbrev pub planned : Choice → Shared → ClientState → Edit → Option Refusal → ClientState
  planned c sh s edit (Some r) = record s { phase = Releasing (Answer (reply.Refused r s.seen)) }
  planned c sh s edit None = record s { phase = Waiting edit (change d b (log_at d b sh.log s.seen) edit) c.shown }

  abbrev pub plan : Choice → Shared → ClientState → Edit → ClientState
  plan c sh s edit =
      if c.no_memory
      then record s { phase = Releasing (Answer reply.NoMemory) }
      else planned c sh s edit (refuse_cut d b (log_at d b sh.log s.seen) edit)

  -- the entry is made in the turn
  abbrev pub checked : Choice → ℕ → Shared → ClientState → Edit → List Changed → Option Shown → Option Refusal → ClientState
  checked c i sh s edit changed shown (Some r) = record s { seen = length sh.log; phase = Yielding (reply.Refused r (length sh.log)) }
  checked c i sh s edit changed shown None =
      record s {
        seen = length sh.log;
        phase = Committing edit shown (entry_of d b sh.log i (length s.asked) (stamp sh.log c.clock) (asked.Edit edit) changed);
      }

  abbrev pub check : Choice → ℕ → Shared → ClientState → Edit → List Changed → Option Shown → ClientState
  check c i sh s edit changed shown =
      if c.no_memory
      then record s { seen = length sh.log; phase = Yielding reply.NoMemory }
      else checked c i sh s edit changed shown (refuse_late d b sh.log edit)

  -- the one next event of client i in this phase: what is shared and the client's state afterwards
  abbrev pub event : Choice → ℕ → Shared → ClientState → Phase → Shared × ClientState
  event c i sh s Ready = (sh, take_line c sh s s.lines)
  event c i sh s (Again edit) = (sh, look c sh s edit)
  event c i sh s (Locking edit n ns) =
      if slice_index sh.locks n == 0
      then (record sh { locks = slice_set sh.locks n i }, record s { held = n ∷ s.held; phase = locking edit ns })
      else (sh, s)
  event c i sh s (Pinning edit) = (sh, pin sh s edit)
  event c i sh s (Planning edit) = (sh, plan c sh s edit)
  event c i sh s (Waiting edit changed shown) =
      if sh.turn == 0
      then (record sh { turn = i }, record s { phase = Checking edit changed shown })
      else (sh, s)
  event c i sh s (Checking edit changed shown) = (sh, check c i sh s edit changed shown)
  event c i sh s (Committing edit shown e) = (
    record sh { log = e ∷ sh.log },
    record s { own = e ∷ s.own; seen = suc (length sh.log); phase = Yielding (reply.Edited e.number e.at e.retired e.made shown (suc (length sh.log))) },
  )
  event c i sh s (Yielding r) = (record sh { turn = 0 }, record s { phase = Releasing (Answer r) })
  event c i sh s (Releasing a) = give_back sh s a s.held
  event c i sh s (Replying r) = (sh, record s { replies = r ∷ s.replies; phase = if c.write_fails then Ended else Ready })
  event c i sh s Ended = (sh, s)

  abbrev pub step_client : Choice → ℕ → State → Option ClientState → State
  step_client c k w None = w
  step_client c k w (Some s) =
      let m = event c (suc k) w.shared s s.phase in
      record { shared = m.0; clients = slice_set w.clients k m.1 }

  -- a step of the client in place k, whose number is one more
  abbrev pub step : Choice → ℕ → State → State
  step c k w = step_client c k w (slice_get w.clients k)

  -- the state after these events
  abbrev pub run : List (Choice × ℕ) → State → State
  run [] w = w
  run (m ∷ ms) w = run ms (step m.0 m.1 w)

  -- the state at the start
  abbrev pub start : ℕ → List (List Line × Bool) → State
  start at clients =
      record {
        shared = record { log = first_entry d b at ∷ []; locks = replicate 64 0; turn = 0 };
        clients = map new_client clients;
      }

module _ (d : Dataset) (b : Base) where
  -- at a plan that isn't refused, and for which there is memory, the choice shows a flow
  abbrev pub IsAllowed : Choice → Shared → ClientState → Phase → Type 0
  IsAllowed c sh s (Planning edit) = c.no_memory ≡ false → refuse_cut d b (log_at d b sh.log s.seen) edit ≡ None → Shows d b (log_at d b sh.log s.seen) edit c.shown
  IsAllowed c sh s p = Unit {0}

  abbrev pub IsAllowedAt : Choice → Shared → Option ClientState → Type 0
  IsAllowedAt c sh None = Unit {0}
  IsAllowedAt c sh (Some s) = IsAllowed c sh s s.phase

  -- the choices of a run are allowed where they are made
  abbrev pub IsRun : List (Choice × ℕ) → State → Type 0
  IsRun [] w = Unit {0}
  IsRun (m ∷ ms) w = IsAllowedAt m.0 w.shared (slice_get w.clients m.1) × IsRun ms (step d b m.0 m.1 w)
