-- A client that is past its locks holds one.
use Rattle.std.proofs.Common.{◌≡◌, ℕ, suc, Bool, true, false, cond, eqb, List, [], ◌∷◌, ◌++◌, map, length, get_or, refl, sym, subst, arith, Option, Some, None}
use Rattle.std.specs.Prelude.{slice_get, slice_set}
use Rattle.node_ids.specs.Ids.{IsLayout}
use Rattle.op_model.specs.declared.request.AskedPair.{AskedPair}
use Rattle.op_model.specs.Edges.{named_ends}
use Rattle.op_model.specs.declared.base.Dataset.{Dataset}
use Rattle.op_model.specs.declared.base.Base.{Base}
use Rattle.op_model.specs.declared.request.Edit.{Edit}
use Rattle.op_model.specs.declared.entry.Changed.{Changed}
use Rattle.op_model.specs.declared.entry.Entry.{Entry}
use Rattle.op_model.specs.declared.request.Request.TheVariants as request
use Rattle.op_model.specs.declared.reply.Refusal.{Refusal}
use Rattle.op_model.specs.declared.reply.Reply.TheVariants as reply
use Rattle.op_model.specs.Operations.{touched}
use Rattle.op_model.specs.Refusals.{refuse_early, refuse_cut, refuse_late}
use Rattle.op_model.specs.Transcript.{Line, Asks, Faulty, log_at}
use Rattle.op_model.specs.Locks.{locks_of, lock_of}
use Rattle.session_machine.specs.Machine.{After, Answer, Restart, Phase, Ready, Again, Locking, Pinning, Planning, Waiting, Checking, Committing, Yielding, Releasing, Replying, Ended, ClientState, Shared, State, Choice, holds_all, locking, give_back, looked, look, read_line, take_line, pinned_at, planned, checked, event, step_client, step, run, new_client}
use Rattle.session_machine.proofs.StepLemmas.{step_clients}
use Rattle.std.proofs.Common.{◌<◌, ltb}
use Rattle.std.proofs.lemmas.Bool.{false≢true}
use Rattle.op_model.specs.declared.request.Edit.TheVariants.{Merge, Split, Undo, Redo}
use Rattle.op_model.specs.Labels.{root}
use Rattle.op_model.specs.Operations.{put_id, ascending, ends, changed_by}
use Rattle.op_model.specs.Refusals.{refuse_if, refuse_marks}
use Rattle.op_model.specs.Legal.{Legal}
use Rattle.op_model.proofs.LegalLemmas.{first_none}
use Rattle.op_model.proofs.AboutLemmas.{undo_some, redo_some}
use Rattle.session_machine.specs.Machine.{IsRun}
use Rattle.session_machine.specs.Invariant.{LocksAgree, LogAgrees}
use Rattle.session_machine.specs.Laws.{needs_lock}
use Rattle.session_machine.proofs.StepLemmas.{step_locked, get_map}
use Rattle.session_machine.proofs.RunLemmas.{Retires, step_log}

put_some : (x : ℕ) (ys : List ℕ) → 0 < length (put_id x ys)
unfolding put_id
put_some x [] = omega arith
put_some x (y ∷ ys) = go (eqb x y) (ltb x y)
  where
    go : (s t : Bool) → 0 < length (cond s (y ∷ ys) (cond t (x ∷ y ∷ ys) (y ∷ put_id x ys)))
    go true t = omega arith
    go false true = omega arith
    go false false = omega arith

locks_some : (d : Dataset) (rs : List ℕ) → 0 < length rs → 0 < length (locks_of d.layout rs)
unfolding locks_of ascending
locks_some d [] l = l
locks_some d (r ∷ rs) l = put_some (lock_of d.layout r) (ascending (map (lock_of d.layout) rs))

none_if : (c : Bool) (r : Refusal) → refuse_if c r ≡ None → c ≡ false
unfolding refuse_if
none_if true r e = cc
none_if false r e = refl

ends_some : (cs : List Changed) → 0 < length cs → 0 < length (ends cs)
unfolding ends
ends_some [] l = l
ends_some (c ∷ cs) l = omega arith

mapped_some : (f : ℕ → ℕ) (xs : List ℕ) → 0 < length xs → 0 < length (map f xs)
mapped_some f [] l = l
mapped_some f (x ∷ xs) l = omega arith

module _ (d : Dataset) (b : Base) (bits : IsLayout d.layout) where
  has_marks : (log : List Entry) (sources sinks : List ℕ) → refuse_early d b log (Split sources sinks) ≡ None → 0 < length (sources ++ sinks)
  unfolding refuse_early refuse_marks
  has_marks log [] sinks h = absurd (false≢true (sym (none_if _ _ (first_none _ _ (first_none _ _ h).1).0)))
  has_marks log (x ∷ sources) sinks h = omega arith

  has_pairs : (log : List Entry) (pairs : List AskedPair) → refuse_early d b log (Merge pairs) ≡ None → 0 < length (named_ends pairs)
  unfolding refuse_early named_ends
  has_pairs log [] h = absurd (false≢true (sym (none_if _ _ (first_none _ _ (first_none _ _ h).1).0)))
  has_pairs log (x ∷ pairs) h = omega arith

  touched_some : (log : List Entry) (edit : Edit) → Legal d b log → refuse_early d b log edit ≡ None → 0 < length (touched d b log edit)
  unfolding touched
  touched_some log (Merge pairs) legal h = mapped_some (root d b log) (named_ends pairs) (has_pairs log pairs h)
  touched_some log (Split sources sinks) legal h = mapped_some (root d b log) (sources ++ sinks) (has_marks log sources sinks h)
  touched_some log (Undo n) legal h = mapped_some (root d b log) (ends (changed_by log n)) (ends_some (changed_by log n) (undo_some d b bits log n legal h))
  touched_some log (Redo n) legal h = mapped_some (root d b log) (ends (changed_by log n)) (ends_some (changed_by log n) (redo_some d b bits log n legal h))

  abbrev Holds : ClientState → Type 0
  Holds s = needs_lock s.phase ≡ true → 0 < length s.held

  looked_holds : (sh : Shared) (s : ClientState) (edit : Edit) (r : Option Refusal) → refuse_early d b sh.log edit ≡ r → Legal d b sh.log → Holds (looked d b sh s edit r)
  looked_holds sh s edit (Some r) e legal = λ h. absurd (false≢true h)
  looked_holds sh s edit None e legal = go (locks_of d.layout (touched d b sh.log edit)) (locks_some d (touched d b sh.log edit) (touched_some sh.log edit legal e))
    where
      go : (ns : List ℕ) → 0 < length ns → needs_lock (locking edit ns) ≡ true → 0 < length s.held
      go [] l h = absurd (omega arith)
      go (n ∷ ns) l h = absurd (false≢true h)

  look_holds : (c : Choice) (sh : Shared) (s : ClientState) (edit : Edit) → Legal d b sh.log → Holds (look d b c sh s edit)
  look_holds c sh s edit legal = go c.no_memory
    where
      go : (t : Bool) → Holds (cond t (record s { seen = length sh.log; phase = Replying reply.NoMemory }) (looked d b sh s edit (refuse_early d b sh.log edit)))
      go true = λ h. absurd (false≢true h)
      go false = looked_holds sh s edit (refuse_early d b sh.log edit) refl legal

  read_line_holds : (sh : Shared) (s : ClientState) (l : Line) → Legal d b sh.log → Holds (read_line d b sh s l)
  read_line_holds sh s (Faulty error) legal = λ h. absurd (false≢true h)
  read_line_holds sh s (Asks (request.Read r)) legal = λ h. absurd (false≢true h)
  read_line_holds sh s (Asks (request.Edit edit)) legal = looked_holds sh s edit (refuse_early d b sh.log edit) refl legal

  take_holds : (c : Choice) (sh : Shared) (s : ClientState) (ls : List Line) → Holds s → Legal d b sh.log → Holds (take_line d b c sh s ls)
  take_holds c sh s [] o legal = go s.faulty
    where
      go : (t : Bool) → Holds (cond t (record s { phase = Ended }) s)
      go true = λ h. absurd (false≢true h)
      go false = o
  take_holds c sh s (l ∷ lines) o legal = go c.no_memory
    where
      t : ClientState
      t = record s { lines = lines; asked = l ∷ s.asked }

      go : (x : Bool) → Holds (cond x (record t { seen = length sh.log; phase = Replying reply.NoMemory }) (read_line d b sh t l))
      go true = λ h. absurd (false≢true h)
      go false = read_line_holds sh t l legal

  event_holds : (c : Choice) (i : ℕ) (sh : Shared) (s : ClientState) (p : Phase) → s.phase ≡ p → (needs_lock p ≡ true → 0 < length s.held) → Legal d b sh.log → Holds (event d b c i sh s p).1
  event_holds c i sh s Ready q o legal = take_holds c sh s s.lines (subst (λ p. needs_lock p ≡ true → 0 < length s.held) (sym q) o) legal
  event_holds c i sh s (Again edit) q o legal = look_holds c sh s edit legal
  event_holds c i sh s (Locking edit n ns) q o legal = go (eqb (get_or sh.locks n 0) 0)
    where
      go : (t : Bool) → Holds (cond {A = Shared × ClientState} t (record sh { locks = slice_set sh.locks n i }, record s { held = n ∷ s.held; phase = locking edit ns }) (sh, s)).1
      go true = λ h. omega arith
      go false = subst (λ p. needs_lock p ≡ true → 0 < length s.held) (sym q) o
  event_holds c i sh s (Pinning edit) q o legal = go (refuse_early d b sh.log edit) (holds_all s.held (locks_of d.layout (touched d b sh.log edit)))
    where
      go : (r : Option Refusal) (t : Bool) → Holds (pinned_at d b sh s edit r t)
      go (Some r) t = o
      go None true = o
      go None false = o
  event_holds c i sh s (Planning edit) q o legal = go c.no_memory (refuse_cut d b (log_at d b sh.log s.seen) edit)
    where
      go : (t : Bool) (r : Option Refusal) → Holds (cond t (record s { phase = Releasing (Answer reply.NoMemory) }) (planned d b c sh s edit r))
      go true r = o
      go false (Some r) = o
      go false None = o
  event_holds c i sh s (Waiting edit changed shown) q o legal = go (eqb sh.turn 0)
    where
      go : (t : Bool) → Holds (cond {A = Shared × ClientState} t (record sh { turn = i }, record s { phase = Checking edit changed shown }) (sh, s)).1
      go true = o
      go false = subst (λ p. needs_lock p ≡ true → 0 < length s.held) (sym q) o
  event_holds c i sh s (Checking edit changed shown) q o legal = go c.no_memory (refuse_late d b sh.log edit)
    where
      go : (t : Bool) (r : Option Refusal) → Holds (cond t (record s { seen = length sh.log; phase = Yielding reply.NoMemory }) (checked d b c i sh s edit changed shown r))
      go true r = o
      go false (Some r) = o
      go false None = o
  event_holds c i sh s (Committing edit shown e) q o legal = o
  event_holds c i sh s (Yielding r) q o legal = o
  event_holds c i sh s (Releasing a) q o legal = go a s.held
    where
      go : (a : After) (hs : List ℕ) → Holds (give_back sh s a hs).1
      go (Answer r) [] = λ h. absurd (false≢true h)
      go (Restart edit) [] = λ h. absurd (false≢true h)
      go (Answer r) (n ∷ []) = λ h. absurd (false≢true h)
      go (Restart edit) (n ∷ []) = λ h. absurd (false≢true h)
      go a (n ∷ m ∷ ms) = λ h. omega arith
  event_holds c i sh s (Replying r) q o legal = go c.write_fails
    where
      go : (t : Bool) → Holds (record s { replies = r ∷ s.replies; phase = cond t Ended Ready })
      go true = λ h. absurd (false≢true h)
      go false = λ h. absurd (false≢true h)
  event_holds c i sh s Ended q o legal = subst (λ p. needs_lock p ≡ true → 0 < length s.held) (sym q) o

  abbrev AllHold : State → Type 0
  AllHold w = (j : ℕ) (s : ClientState) → slice_get w.clients j ≡ Some s → Holds s

  step_holds : (c : Choice) (k : ℕ) (w : State) → Legal d b w.shared.log → AllHold w → AllHold (step d b c k w)
  step_holds c k w legal o = go (slice_get w.clients k) refl
    where
      go : (m : Option ClientState) → slice_get w.clients k ≡ m → AllHold (step_client d b c k w m)
      go None e = o
      go (Some s) e = step_clients d b (λ j sh t. Holds t) c k w s e (event_holds c (suc k) w.shared s s.phase refl (o k s e) legal) (λ j t n r. o j t r)

module _ (d : Dataset) (b : Base) where
  pub run_holds : IsLayout d.layout → Retires d b → (events : List (Choice × ℕ)) (w : State) → LocksAgree w → IsRun d b events w → LogAgrees d b w
      → ((j : ℕ) (s : ClientState) → slice_get w.clients j ≡ Some s → needs_lock s.phase ≡ true → 0 < length s.held)
      → (j : ℕ) (s : ClientState) → slice_get (run d b events w).clients j ≡ Some s → needs_lock s.phase ≡ true → 0 < length s.held
  run_holds bits retires [] w l a t o = o
  run_holds bits retires (m ∷ ms) w l a t o =
      run_holds bits retires ms (step d b m.0 m.1 w) (step_locked d b m.0 m.1 w l) a.1 (step_log d b bits retires m.0 m.1 w l a.0 t) (step_holds d b bits m.0 m.1 w t.legal o)

  pub start_holds : (clients : List (List Line × Bool)) (k : ℕ) (s : ClientState) → slice_get (map new_client clients) k ≡ Some s → needs_lock s.phase ≡ true → 0 < length s.held
  start_holds clients k s q = let l = get_map d b clients k s q in subst (λ t. needs_lock t.phase ≡ true → 0 < length t.held) (sym l.1) (λ h. absurd (false≢true h))
