-- The lines of each client stay those of its stream.
use Rattle.std.proofs.Common.{◌≡◌, ℕ, zero, suc, Bool, true, false, cond, eqb, List, [], ◌∷◌, ◌++◌, map, length, get_or, reverse, refl, ◌∙◌, ap, subst, Option, Some, None}
use Rattle.std.specs.Prelude.{slice_get, slice_set}
use Rattle.op_model.specs.declared.base.Dataset.{Dataset}
use Rattle.op_model.specs.declared.base.Base.{Base}
use Rattle.op_model.specs.declared.request.Edit.{Edit}
use Rattle.op_model.specs.declared.request.Request.TheVariants as request
use Rattle.op_model.specs.declared.reply.Refusal.{Refusal}
use Rattle.op_model.specs.declared.reply.Reply.TheVariants as reply
use Rattle.op_model.specs.Operations.{touched}
use Rattle.op_model.specs.Refusals.{refuse_early, refuse_cut, refuse_late}
use Rattle.op_model.specs.Transcript.{Line, Asks, Faulty, log_at}
use Rattle.op_model.specs.Locks.{locks_of}
use Rattle.op_model.proofs.TranscriptLemmas.{reverse_more}
use Rattle.session_machine.specs.Machine.{Answer, Phase, Ready, Again, Locking, Pinning, Planning, Waiting, Checking, Committing, Yielding, Releasing, Replying, Ended, ClientState, Shared, State, Choice, holds_all, locking, give_back, looked, look, read_line, take_line, pinned_at, planned, checked, event, step_client, step, run, new_client, start}
use Rattle.session_machine.proofs.StepLemmas.{step_clients}

-- all of its lines, and whether their stream ended in a fault
abbrev Same : ClientState → ClientState → Type 0
Same s t = (reverse t.asked ++ t.lines ≡ reverse s.asked ++ s.lines) × (t.faulty ≡ s.faulty)

module _ (d : Dataset) (b : Base) where
  looked_same : (sh : Shared) (s : ClientState) (edit : Edit) (r : Option Refusal) → Same s (looked d b sh s edit r)
  looked_same sh s edit None = (refl, refl)
  looked_same sh s edit (Some r) = (refl, refl)

  look_same : (c : Choice) (sh : Shared) (s : ClientState) (edit : Edit) → Same s (look d b c sh s edit)
  look_same c sh s edit = go c.no_memory
    where
      go : (t : Bool) → Same s (cond t (record s { seen = length sh.log; phase = Replying reply.NoMemory }) (looked d b sh s edit (refuse_early d b sh.log edit)))
      go true = (refl, refl)
      go false = looked_same sh s edit _

  read_line_same : (sh : Shared) (s : ClientState) (l : Line) → Same s (read_line d b sh s l)
  read_line_same sh s (Faulty error) = (refl, refl)
  read_line_same sh s (Asks (request.Read r)) = (refl, refl)
  read_line_same sh s (Asks (request.Edit edit)) = looked_same sh s edit (refuse_early d b sh.log edit)

  take_same : (c : Choice) (sh : Shared) (s : ClientState) (ls : List Line) → ls ≡ s.lines → Same s (take_line d b c sh s ls)
  take_same c sh s [] q = go s.faulty
    where
      go : (t : Bool) → Same s (cond t (record s { phase = Ended }) s)
      go true = (refl, refl)
      go false = (refl, refl)
  take_same c sh s (l ∷ lines) q = go c.no_memory
    where
      t : ClientState
      t = record s { lines = lines; asked = l ∷ s.asked }

      moved : reverse (l ∷ s.asked) ++ lines ≡ reverse s.asked ++ s.lines
      moved = reverse_more l s.asked lines ∙ ap (λ x. reverse s.asked ++ x) q

      go : (x : Bool) → Same s (cond x (record t { seen = length sh.log; phase = Replying reply.NoMemory }) (read_line d b sh t l))
      go true = (moved, refl)
      go false = let h = read_line_same sh t l in (h.0 ∙ moved, h.1)

  event_same : (c : Choice) (i : ℕ) (sh : Shared) (s : ClientState) (p : Phase) → Same s (event d b c i sh s p).1
  event_same c i sh s Ready = take_same c sh s s.lines refl
  event_same c i sh s (Again edit) = look_same c sh s edit
  event_same c i sh s (Locking edit n ns) = go (eqb (get_or sh.locks n 0) 0)
    where
      go : (t : Bool) → Same s (cond {A = Shared × ClientState} t (record sh { locks = slice_set sh.locks n i }, record s { held = n ∷ s.held; phase = locking edit ns }) (sh, s)).1
      go true = (refl, refl)
      go false = (refl, refl)
  event_same c i sh s (Pinning edit) = go (refuse_early d b sh.log edit) (holds_all s.held (locks_of d.layout (touched d b sh.log edit)))
    where
      go : (r : Option Refusal) (t : Bool) → Same s (pinned_at d b sh s edit r t)
      go (Some r) t = (refl, refl)
      go None true = (refl, refl)
      go None false = (refl, refl)
  event_same c i sh s (Planning edit) = go c.no_memory (refuse_cut d b (log_at d b sh.log s.seen) edit)
    where
      go : (t : Bool) (r : Option Refusal) → Same s (cond t (record s { phase = Releasing (Answer reply.NoMemory) }) (planned d b c sh s edit r))
      go true r = (refl, refl)
      go false (Some r) = (refl, refl)
      go false None = (refl, refl)
  event_same c i sh s (Waiting edit changed shown) = go (eqb sh.turn 0)
    where
      go : (t : Bool) → Same s (cond {A = Shared × ClientState} t (record sh { turn = i }, record s { phase = Checking edit changed shown }) (sh, s)).1
      go true = (refl, refl)
      go false = (refl, refl)
  event_same c i sh s (Checking edit changed shown) = go c.no_memory (refuse_late d b sh.log edit)
    where
      go : (t : Bool) (r : Option Refusal) → Same s (cond t (record s { seen = length sh.log; phase = Yielding reply.NoMemory }) (checked d b c i sh s edit changed shown r))
      go true r = (refl, refl)
      go false (Some r) = (refl, refl)
      go false None = (refl, refl)
  event_same c i sh s (Committing edit shown e) = (refl, refl)
  event_same c i sh s (Yielding r) = (refl, refl)
  event_same c i sh s (Releasing a) = go s.held
    where
      go : (hs : List ℕ) → Same s (give_back sh s a hs).1
      go [] = (refl, refl)
      go (n ∷ ns) = (refl, refl)
  event_same c i sh s (Replying r) = (refl, refl)
  event_same c i sh s Ended = (refl, refl)

  abbrev Lines : List (List Line × Bool) → ℕ → ClientState → Type 0
  Lines clients k s = (l : List Line × Bool) × (slice_get clients k ≡ Some l) × (reverse s.asked ++ s.lines ≡ l.0) × (s.faulty ≡ l.1)

  step_lines : (clients : List (List Line × Bool)) (c : Choice) (k : ℕ) (w : State) → ((j : ℕ) (s : ClientState) → slice_get w.clients j ≡ Some s → Lines clients j s)
      → (j : ℕ) (s : ClientState) → slice_get (step d b c k w).clients j ≡ Some s → Lines clients j s
  step_lines clients c k w o = go (slice_get w.clients k) refl
    where
      go : (m : Option ClientState) → slice_get w.clients k ≡ m → (j : ℕ) (s : ClientState) → slice_get (step_client d b c k w m).clients j ≡ Some s → Lines clients j s
      go None e = o
      go (Some s) e =
          let p = o k s e in
          let q = event_same c (suc k) w.shared s s.phase in
          step_clients d b (λ j sh t. Lines clients j t) c k w s e (p.0, p.1, q.0 ∙ p.2, q.1 ∙ p.3) (λ j t n r. o j t r)

  run_lines : (clients : List (List Line × Bool)) (events : List (Choice × ℕ)) (w : State) → ((j : ℕ) (s : ClientState) → slice_get w.clients j ≡ Some s → Lines clients j s)
      → (j : ℕ) (s : ClientState) → slice_get (run d b events w).clients j ≡ Some s → Lines clients j s
  run_lines clients [] w o = o
  run_lines clients (m ∷ ms) w o = run_lines clients ms (step d b m.0 m.1 w) (step_lines clients m.0 m.1 w o)

  start_lines : (clients : List (List Line × Bool)) (k : ℕ) (s : ClientState) → slice_get (map new_client clients) k ≡ Some s → Lines clients k s
  start_lines [] k s q = cc
  start_lines (l ∷ ls) zero s q = let e : new_client l ≡ s = cc in subst (Lines (l ∷ ls) zero) e (l, refl, refl, refl)
  start_lines (l ∷ ls) (suc k) s q = start_lines ls k s q

  pub lines : (at : ℕ) (clients : List (List Line × Bool)) (events : List (Choice × ℕ)) (k : ℕ) (s : ClientState) → slice_get (run d b events (start d b at clients)).clients k ≡ Some s → Lines clients k s
  lines at clients events = run_lines clients events (start d b at clients) (start_lines clients)
