-- A client that is past its locks holds its whole list of them.
use Rattle.std.proofs.Common.{◌≡◌, ℕ, suc, ◌≤◌, Bool, true, false, cond, eqb, List, [], ◌∷◌, map, length, get_or, refl, sym, ◌∙◌, ap, subst, inl, inr, arith, Option, Some, None}
use Rattle.std.specs.Prelude.{slice_get, slice_set}
use Rattle.std.proofs.lemmas.Bool.{false≢true}
use Rattle.node_ids.specs.Ids.{IsLayout}
use Rattle.op_model.specs.declared.base.Dataset.{Dataset}
use Rattle.op_model.specs.declared.base.Base.{Base}
use Rattle.op_model.specs.declared.request.Edit.{Edit}
use Rattle.op_model.specs.declared.entry.Entry.{Entry}
use Rattle.op_model.specs.declared.request.Request.TheVariants as request
use Rattle.op_model.specs.declared.reply.Refusal.{Refusal}
use Rattle.op_model.specs.declared.reply.Reply.TheVariants as reply
use Rattle.op_model.specs.Operations.{touched}
use Rattle.op_model.specs.Refusals.{refuse_early, refuse_cut, refuse_late}
use Rattle.op_model.specs.Transcript.{Line, Asks, Faulty, log_at}
use Rattle.op_model.specs.Locks.{locks_of}
use Rattle.op_model.proofs.ReversedLemmas.{log_at_more}
use Rattle.session_machine.specs.Machine.{After, Answer, Restart, Phase, Ready, Again, Locking, Pinning, Planning, Waiting, Checking, Committing, Yielding, Releasing, Replying, Ended, ClientState, Shared, State, Choice, holds_all, locking, give_back, looked, look, read_line, take_line, pinned_at, planned, checked, event, step_client, step, run, new_client, IsRun}
use Rattle.session_machine.specs.Invariant.{LocksAgree, LogAgrees, ClientHistory, onto}
use Rattle.session_machine.specs.Laws.{WholeList, HasList}
use Rattle.session_machine.proofs.StepLemmas.{get_set, get_map, step_locked}
use Rattle.session_machine.proofs.OtherLemmas.{adds}
use Rattle.session_machine.proofs.EventLemmas.{le_both}
use Rattle.session_machine.proofs.RunLemmas.{Retires, step_log}

-- whether a client in this phase is past its pin, and has not given back a lock
abbrev later : Phase → Bool
later (Planning edit) = true
later (Waiting edit changed shown) = true
later (Checking edit changed shown) = true
later (Committing edit shown e) = true
later (Yielding r) = true
later p = false

later_locking : (edit : Edit) (ns : List ℕ) → later (locking edit ns) ≡ false
later_locking edit [] = refl
later_locking edit (n ∷ ns) = refl

module _ (d : Dataset) (b : Base) where
  later_looked : (sh : Shared) (s : ClientState) (edit : Edit) (r : Option Refusal) → later (looked d b sh s edit r).phase ≡ false
  later_looked sh s edit None = later_locking edit (locks_of d.layout (touched d b sh.log edit))
  later_looked sh s edit (Some r) = refl

  later_read_line : (sh : Shared) (s : ClientState) (l : Line) → later (read_line d b sh s l).phase ≡ false
  later_read_line sh s (Faulty error) = refl
  later_read_line sh s (Asks (request.Read q)) = refl
  later_read_line sh s (Asks (request.Edit edit)) = later_looked sh s edit (refuse_early d b sh.log edit)

  later_take : (c : Choice) (sh : Shared) (s : ClientState) (ls : List Line) → s.phase ≡ Ready → later (take_line d b c sh s ls).phase ≡ false
  later_take c sh s [] q = go s.faulty
    where
      go : (t : Bool) → later (cond t (record s { phase = Ended }) s).phase ≡ false
      go true = refl
      go false = ap later q
  later_take c sh s (l ∷ lines) q = go c.no_memory
    where
      go : (t : Bool) → later (cond t (record s { lines = lines; asked = l ∷ s.asked; seen = length sh.log; phase = Replying reply.NoMemory }) (read_line d b sh (record s { lines = lines; asked = l ∷ s.asked }) l)).phase ≡ false
      go true = refl
      go false = later_read_line sh (record s { lines = lines; asked = l ∷ s.asked }) l

  later_look : (c : Choice) (sh : Shared) (s : ClientState) (edit : Edit) → later (look d b c sh s edit).phase ≡ false
  later_look c sh s edit = go c.no_memory
    where
      go : (t : Bool) → later (cond t (record s { seen = length sh.log; phase = Replying reply.NoMemory }) (looked d b sh s edit (refuse_early d b sh.log edit))).phase ≡ false
      go true = refl
      go false = later_looked sh s edit (refuse_early d b sh.log edit)

  -- where a client isn't past its pin, its plan says what it holds
  easy : (log : List Entry) (i : ℕ) (s : ClientState) (p : Phase) → ClientHistory d b log i s p → later p ≡ false → HasList d b log s p
  easy log i s (Pinning edit) t e = (s.seen, t.seen.0, omega arith, t.plan.0, t.plan.1)
  easy log i s (Planning edit) t e = absurd (false≢true (sym e))
  easy log i s (Waiting edit changed shown) t e = absurd (false≢true (sym e))
  easy log i s (Checking edit changed shown) t e = absurd (false≢true (sym e))
  easy log i s (Committing edit shown x) t e = absurd (false≢true (sym e))
  easy log i s (Yielding r) t e = absurd (false≢true (sym e))
  easy log i s Ready t e = tt
  easy log i s (Again edit) t e = tt
  easy log i s (Locking edit n ns) t e = tt
  easy log i s (Releasing a) t e = tt
  easy log i s (Replying r) t e = tt
  easy log i s Ended t e = tt

  -- at a later length and with the same locks it is the same list
  whole_seen : (log : List Entry) (s u : ClientState) (edit : Edit) → u.held ≡ s.held → s.seen ≤ u.seen → WholeList d b log s edit → WholeList d b log u edit
  whole_seen log s u edit h l o = (o.0, o.1, le_both o.0 s.seen u.seen o.2 l, o.3, ap (λ xs. onto xs []) h ∙ o.4)

  whole_more : (e : Entry) (log : List Entry) (s : ClientState) (edit : Edit) → s.seen ≤ length log → WholeList d b log s edit → WholeList d b (e ∷ log) s edit
  whole_more e log s edit l o =
      let m = log_at_more d b e log o.0 (le_both o.0 s.seen (length log) o.2 l) in
      (o.0, o.1, o.2, subst (λ h. refuse_early d b h edit ≡ None) (sym m) o.3, o.4 ∙ ap (λ h. locks_of d.layout (touched d b h edit)) (sym m))

  list_more : (e : Entry) (log : List Entry) (s : ClientState) (p : Phase) → s.seen ≤ length log → HasList d b log s p → HasList d b (e ∷ log) s p
  list_more e log s (Pinning edit) l o = whole_more e log s edit l o
  list_more e log s (Planning edit) l o = whole_more e log s edit l o
  list_more e log s (Waiting edit changed shown) l o = whole_more e log s edit l o
  list_more e log s (Checking edit changed shown) l o = whole_more e log s edit l o
  list_more e log s (Committing edit shown x) l o = whole_more e log s edit l o
  list_more e log s (Yielding r) l o = (o.0, o.1, o.2, whole_more e log s o.0 l o.3)
  list_more e log s Ready l o = tt
  list_more e log s (Again edit) l o = tt
  list_more e log s (Locking edit n ns) l o = tt
  list_more e log s (Releasing a) l o = tt
  list_more e log s (Replying r) l o = tt
  list_more e log s Ended l o = tt

  -- a client's own event
  own_list : (c : Choice) (i j : ℕ) (sh : Shared) (s : ClientState) (p : Phase) → s.phase ≡ p → ClientHistory d b sh.log i s p → HasList d b sh.log s p
      → ClientHistory d b (event d b c i sh s p).0.log j (event d b c i sh s p).1 (event d b c i sh s p).1.phase → HasList d b (event d b c i sh s p).0.log (event d b c i sh s p).1 (event d b c i sh s p).1.phase
  own_list c i j sh s Ready q t o n = easy _ j _ _ n (later_take c sh s s.lines q)
  own_list c i j sh s (Again edit) q t o n = easy _ j _ _ n (later_look c sh s edit)
  own_list c i j sh s (Locking edit m ms) q t o n = go (eqb (get_or sh.locks m 0) 0) n
    where
      M : Bool → Shared × ClientState
      M x = cond {A = Shared × ClientState} x (record sh { locks = slice_set sh.locks m i }, record s { held = m ∷ s.held; phase = locking edit ms }) (sh, s)

      go : (x : Bool) → ClientHistory d b (M x).0.log j (M x).1 (M x).1.phase → HasList d b (M x).0.log (M x).1 (M x).1.phase
      go true n = easy _ j _ _ n (later_locking edit ms)
      go false n = easy _ j _ _ n (ap later q)
  own_list c i j sh s (Pinning edit) q t o n = go (refuse_early d b sh.log edit) (holds_all s.held (locks_of d.layout (touched d b sh.log edit)))
    where
      go : (r : Option Refusal) (x : Bool) → HasList d b sh.log (pinned_at d b sh s edit r x) (pinned_at d b sh s edit r x).phase
      go (Some r) x = tt
      go None false = tt
      go None true = whole_seen sh.log s (record s { seen = length sh.log; pinned = s.held; phase = Planning edit }) edit refl t.seen.1 o
  own_list c i j sh s (Planning edit) q t o n = go c.no_memory (refuse_cut d b (log_at d b sh.log s.seen) edit)
    where
      go : (x : Bool) (r : Option Refusal)
          → HasList d b sh.log (cond x (record s { phase = Releasing (Answer reply.NoMemory) }) (planned d b c sh s edit r)) (cond x (record s { phase = Releasing (Answer reply.NoMemory) }) (planned d b c sh s edit r)).phase
      go true r = tt
      go false (Some r) = tt
      go false None = o
  own_list c i j sh s (Waiting edit changed shown) q t o n = go (eqb sh.turn 0)
    where
      M : Bool → Shared × ClientState
      M x = cond {A = Shared × ClientState} x (record sh { turn = i }, record s { phase = Checking edit changed shown }) (sh, s)

      go : (x : Bool) → HasList d b (M x).0.log (M x).1 (M x).1.phase
      go true = o
      go false = subst (HasList d b sh.log s) (sym q) o
  own_list c i j sh s (Checking edit changed shown) q t o n = go c.no_memory (refuse_late d b sh.log edit)
    where
      M : Bool → Option Refusal → ClientState
      M x r = cond x (record s { seen = length sh.log; phase = Yielding reply.NoMemory }) (checked d b c i sh s edit changed shown r)

      go : (x : Bool) (r : Option Refusal) → HasList d b sh.log (M x r) (M x r).phase
      go true r = (edit, t.replied.0, t.replied.1, whole_seen sh.log s (M true r) edit refl t.seen.1 o)
      go false (Some r) = (edit, t.replied.0, t.replied.1, whole_seen sh.log s (M false (Some r)) edit refl t.seen.1 o)
      go false None = whole_seen sh.log s (M false None) edit refl t.seen.1 o
  own_list c i j sh s (Committing edit shown e) q t o n =
      (edit, t.replied.0, t.replied.1, whole_seen (e ∷ sh.log) s (event d b c i sh s (Committing edit shown e)).1 edit refl (le_next s.seen (length sh.log) t.seen.1) (whole_more e sh.log s edit t.seen.1 o))
    where
      le_next : (m k : ℕ) → m ≤ k → m ≤ suc k
      le_next m k l = omega arith
  own_list c i j sh s (Yielding r) q t o n = tt
  own_list c i j sh s (Releasing a) q t o n = go a s.held
    where
      go : (a : After) (hs : List ℕ) → HasList d b (give_back sh s a hs).0.log (give_back sh s a hs).1 (give_back sh s a hs).1.phase
      go (Answer r) [] = tt
      go (Restart edit) [] = tt
      go (Answer r) (m ∷ []) = tt
      go (Restart edit) (m ∷ []) = tt
      go (Answer r) (m ∷ k ∷ ks) = tt
      go (Restart edit) (m ∷ k ∷ ks) = tt
  own_list c i j sh s (Replying r) q t o n = go c.write_fails
    where
      go : (x : Bool) → HasList d b sh.log (record s { replies = r ∷ s.replies; phase = cond x Ended Ready }) (cond x Ended Ready)
      go true = tt
      go false = tt
  own_list c i j sh s Ended q t o n = subst (HasList d b sh.log s) (sym q) tt

  abbrev AllLists : State → Type 0
  AllLists w = (j : ℕ) (s : ClientState) → slice_get w.clients j ≡ Some s → HasList d b w.shared.log s s.phase

  step_lists : (c : Choice) (k : ℕ) (w : State) → LocksAgree w → LogAgrees d b w → LogAgrees d b (step d b c k w) → AllLists w → AllLists (step d b c k w)
  step_lists c k w l t n o = go (slice_get w.clients k) refl n
    where
      go : (m : Option ClientState) → slice_get w.clients k ≡ m → LogAgrees d b (step_client d b c k w m) → AllLists (step_client d b c k w m)
      go None e n = o
      go (Some s) e n = λ j u q.
          let m : Shared × ClientState = event d b c (suc k) w.shared s s.phase in
          let history = t.clients k s e in
          elim (get_set d b w.clients k m.1 j u q) [
            | inl p ↦ subst (λ x. HasList d b m.0.log x x.phase) (sym p.1)
                (own_list c (suc k) (suc j) w.shared s s.phase refl history (o k s e) (subst (λ x. ClientHistory d b m.0.log (suc j) x x.phase) p.1 (n.clients j u q)))
            | inr p ↦ elim (adds d b c (suc k) w.shared s s.phase (l.clients k s e) history.plan) [
              | inl same ↦ subst (λ x. HasList d b x u u.phase) (sym same) (o j u p.1)
              | inr a ↦ subst (λ x. HasList d b x u u.phase) (sym a.1) (list_more a.0 w.shared.log u u.phase (t.clients j u p.1).seen.1 (o j u p.1))
            ]
          ]

  pub run_lists : IsLayout d.layout → Retires d b → (events : List (Choice × ℕ)) (w : State) → LocksAgree w → IsRun d b events w → LogAgrees d b w → AllLists w → AllLists (run d b events w)
  run_lists bits retires [] w l a t o = o
  run_lists bits retires (m ∷ ms) w l a t o =
      let n = step_log d b bits retires m.0 m.1 w l a.0 t in
      run_lists bits retires ms (step d b m.0 m.1 w) (step_locked d b m.0 m.1 w l) a.1 n (step_lists m.0 m.1 w l t n o)

  pub start_lists : (log : List Entry) (clients : List (List Line × Bool)) (k : ℕ) (s : ClientState) → slice_get (map new_client clients) k ≡ Some s → HasList d b log s s.phase
  start_lists log clients k s q = let l = get_map d b clients k s q in subst (λ u. HasList d b log u u.phase) (sym l.1) tt
