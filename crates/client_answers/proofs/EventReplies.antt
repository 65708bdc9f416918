-- Events and the replies of a client, and its end.
use Rattle.std.proofs.Common.{◌≡◌, ℕ, Bool, true, false, cond, eqb, List, [], ◌∷◌, length, get_or, refl, Option, Some, None}
use Rattle.std.specs.Prelude.{slice_set}
use Rattle.op_model.specs.declared.base.Dataset.{Dataset}
use Rattle.op_model.specs.declared.base.Base.{Base}
use Rattle.op_model.specs.declared.request.Edit.{Edit}
use Rattle.op_model.specs.declared.request.Request.TheVariants as request
use Rattle.op_model.specs.declared.reply.Refusal.{Refusal}
use Rattle.op_model.specs.declared.reply.Reply.{Reply}
use Rattle.op_model.specs.declared.reply.Reply.TheVariants as reply
use Rattle.op_model.specs.Operations.{touched}
use Rattle.op_model.specs.Refusals.{refuse_early, refuse_cut, refuse_late}
use Rattle.op_model.specs.Transcript.{Line, Asks, Faulty, log_at}
use Rattle.op_model.specs.Locks.{locks_of}
use Rattle.session_machine.specs.Machine.{After, Answer, Restart, Phase, Ready, Again, Locking, Pinning, Planning, Waiting, Checking, Committing, Yielding, Releasing, Replying, Ended, ClientState, Shared, Choice, holds_all, locking, after, give_back, looked, look, read_line, take_line, pinned_at, planned, checked, event}

-- the replies are the same
abbrev Same : ClientState → ClientState → Type 0
Same s t = t.replies ≡ s.replies

module _ (d : Dataset) (b : Base) where
  looked_same : (sh : Shared) (s : ClientState) (edit : Edit) (r : Option Refusal) → Same s (looked d b sh s edit r)
  looked_same sh s edit None = refl
  looked_same sh s edit (Some r) = refl

  look_same : (c : Choice) (sh : Shared) (s : ClientState) (edit : Edit) → Same s (look d b c sh s edit)
  look_same c sh s edit = go c.no_memory
    where
      go : (t : Bool) → Same s (cond t (record s { seen = length sh.log; phase = Replying reply.NoMemory }) (looked d b sh s edit (refuse_early d b sh.log edit)))
      go true = refl
      go false = looked_same sh s edit _

  read_line_same : (sh : Shared) (s : ClientState) (l : Line) → Same s (read_line d b sh s l)
  read_line_same sh s (Faulty error) = refl
  read_line_same sh s (Asks (request.Read r)) = refl
  read_line_same sh s (Asks (request.Edit edit)) = looked_same sh s edit (refuse_early d b sh.log edit)

  take_same : (c : Choice) (sh : Shared) (s : ClientState) (ls : List Line) → Same s (take_line d b c sh s ls)
  take_same c sh s [] = go s.faulty
    where
      go : (t : Bool) → Same s (cond t (record s { phase = Ended }) s)
      go true = refl
      go false = refl
  take_same c sh s (l ∷ lines) = go c.no_memory
    where
      t : ClientState
      t = record s { lines = lines; asked = l ∷ s.asked }

      go : (x : Bool) → Same s (cond x (record t { seen = length sh.log; phase = Replying reply.NoMemory }) (read_line d b sh t l))
      go true = refl
      go false = read_line_same sh t l

  -- every event but that of a reply leaves the replies as they are
  pub event_same : (c : Choice) (i : ℕ) (sh : Shared) (s : ClientState) (p : Phase) → ((r : Reply) → p ≡ Replying r → ⊥) → Same s (event d b c i sh s p).1
  event_same c i sh s Ready other = take_same c sh s s.lines
  event_same c i sh s (Again edit) other = look_same c sh s edit
  event_same c i sh s (Locking edit n ns) other = go (eqb (get_or sh.locks n 0) 0)
    where
      go : (t : Bool) → Same s (cond {A = Shared × ClientState} t (record sh { locks = slice_set sh.locks n i }, record s { held = n ∷ s.held; phase = locking edit ns }) (sh, s)).1
      go true = refl
      go false = refl
  event_same c i sh s (Pinning edit) other = go (refuse_early d b sh.log edit) (holds_all s.held (locks_of d.layout (touched d b sh.log edit)))
    where
      go : (r : Option Refusal) (t : Bool) → Same s (pinned_at d b sh s edit r t)
      go (Some r) t = refl
      go None true = refl
      go None false = refl
  event_same c i sh s (Planning edit) other = go c.no_memory (refuse_cut d b (log_at d b sh.log s.seen) edit)
    where
      go : (t : Bool) (r : Option Refusal) → Same s (cond t (record s { phase = Releasing (Answer reply.NoMemory) }) (planned d b c sh s edit r))
      go true r = refl
      go false (Some r) = refl
      go false None = refl
  event_same c i sh s (Waiting edit changed shown) other = go (eqb sh.turn 0)
    where
      go : (t : Bool) → Same s (cond {A = Shared × ClientState} t (record sh { turn = i }, record s { phase = Checking edit changed shown }) (sh, s)).1
      go true = refl
      go false = refl
  event_same c i sh s (Checking edit changed shown) other = go c.no_memory (refuse_late d b sh.log edit)
    where
      go : (t : Bool) (r : Option Refusal) → Same s (cond t (record s { seen = length sh.log; phase = Yielding reply.NoMemory }) (checked d b c i sh s edit changed shown r))
      go true r = refl
      go false (Some r) = refl
      go false None = refl
  event_same c i sh s (Committing edit shown e) other = refl
  event_same c i sh s (Yielding r) other = refl
  event_same c i sh s (Releasing a) other = go s.held
    where
      go : (hs : List ℕ) → Same s (give_back sh s a hs).1
      go [] = refl
      go (n ∷ ns) = refl
  event_same c i sh s Ended other = refl
  event_same c i sh s (Replying r) other = absurd (other r refl)

-- the client hasn't ended
abbrev IsOpen : ClientState → Type 0
IsOpen s = s.phase ≡ Ended → ⊥

-- it has ended only with no line left
abbrev Drained : ClientState → Type 0
Drained s = s.phase ≡ Ended → s.lines ≡ []

locking_open : (edit : Edit) (ns : List ℕ) → locking edit ns ≡ Ended → ⊥
locking_open edit [] e = cc
locking_open edit (n ∷ ns) e = cc

after_open : (a : After) → after a ≡ Ended → ⊥
after_open (Answer r) e = cc
after_open (Restart edit) e = cc

module _ (d : Dataset) (b : Base) where
  looked_open : (sh : Shared) (s : ClientState) (edit : Edit) (r : Option Refusal) → IsOpen (looked d b sh s edit r)
  looked_open sh s edit None e = locking_open edit (locks_of d.layout (touched d b sh.log edit)) e
  looked_open sh s edit (Some r) e = cc

  look_open : (c : Choice) (sh : Shared) (s : ClientState) (edit : Edit) → IsOpen (look d b c sh s edit)
  look_open c sh s edit = go c.no_memory
    where
      go : (t : Bool) → IsOpen (cond t (record s { seen = length sh.log; phase = Replying reply.NoMemory }) (looked d b sh s edit (refuse_early d b sh.log edit)))
      go true e = cc
      go false e = looked_open sh s edit _ e

  read_line_open : (sh : Shared) (s : ClientState) (l : Line) → IsOpen (read_line d b sh s l)
  read_line_open sh s (Faulty error) e = cc
  read_line_open sh s (Asks (request.Read r)) e = cc
  read_line_open sh s (Asks (request.Edit edit)) e = looked_open sh s edit (refuse_early d b sh.log edit) e

  take_drained : (c : Choice) (sh : Shared) (s : ClientState) (ls : List Line) → s.lines ≡ ls → Drained s → Drained (take_line d b c sh s ls)
  take_drained c sh s [] q h = go s.faulty
    where
      go : (t : Bool) → Drained (cond t (record s { phase = Ended }) s)
      go true e = q
      go false e = h e
  take_drained c sh s (l ∷ lines) q h = λ e. absurd (go c.no_memory e)
    where
      t : ClientState
      t = record s { lines = lines; asked = l ∷ s.asked }

      go : (x : Bool) → IsOpen (cond x (record t { seen = length sh.log; phase = Replying reply.NoMemory }) (read_line d b sh t l))
      go true e = cc
      go false e = read_line_open sh t l e

  -- every event but that of a reply ends a client only with no line left
  pub event_drained : (c : Choice) (i : ℕ) (sh : Shared) (s : ClientState) (p : Phase) → ((r : Reply) → p ≡ Replying r → ⊥) → Drained s → Drained (event d b c i sh s p).1
  event_drained c i sh s Ready other h = take_drained c sh s s.lines refl h
  event_drained c i sh s (Again edit) other h = λ e. absurd (look_open c sh s edit e)
  event_drained c i sh s (Locking edit n ns) other h = go (eqb (get_or sh.locks n 0) 0)
    where
      go : (t : Bool) → Drained (cond {A = Shared × ClientState} t (record sh { locks = slice_set sh.locks n i }, record s { held = n ∷ s.held; phase = locking edit ns }) (sh, s)).1
      go true = λ e. absurd (locking_open edit ns e)
      go false = h
  event_drained c i sh s (Pinning edit) other h = λ e. absurd (go (refuse_early d b sh.log edit) (holds_all s.held (locks_of d.layout (touched d b sh.log edit))) e)
    where
      go : (r : Option Refusal) (t : Bool) → IsOpen (pinned_at d b sh s edit r t)
      go (Some r) t e = cc
      go None true e = cc
      go None false e = cc
  event_drained c i sh s (Planning edit) other h = λ e. absurd (go c.no_memory (refuse_cut d b (log_at d b sh.log s.seen) edit) e)
    where
      go : (t : Bool) (r : Option Refusal) → IsOpen (cond t (record s { phase = Releasing (Answer reply.NoMemory) }) (planned d b c sh s edit r))
      go true r e = cc
      go false (Some r) e = cc
      go false None e = cc
  event_drained c i sh s (Waiting edit changed shown) other h = go (eqb sh.turn 0)
    where
      go : (t : Bool) → Drained (cond {A = Shared × ClientState} t (record sh { turn = i }, record s { phase = Checking edit changed shown }) (sh, s)).1
      go true = λ e. cc
      go false = h
  event_drained c i sh s (Checking edit changed shown) other h = λ e. absurd (go c.no_memory (refuse_late d b sh.log edit) e)
    where
      go : (t : Bool) (r : Option Refusal) → IsOpen (cond t (record s { seen = length sh.log; phase = Yielding reply.NoMemory }) (checked d b c i sh s edit changed shown r))
      go true r e = cc
      go false (Some r) e = cc
      go false None e = cc
  event_drained c i sh s (Committing edit shown e) other h = λ q. cc
  event_drained c i sh s (Yielding r) other h = λ q. cc
  event_drained c i sh s (Releasing a) other h = λ e. absurd (go s.held e)
    where
      go : (hs : List ℕ) → IsOpen (give_back sh s a hs).1
      go [] e = after_open a e
      go (n ∷ []) e = after_open a e
      go (n ∷ m ∷ ns) e = cc
  event_drained c i sh s Ended other h = h
  event_drained c i sh s (Replying r) other h = absurd (other r refl)
