-- The entry that is made in the turn is legal; every run keeps what clients have seen, planned and replied.
use Rattle.std.proofs.Common.{◌≡◌, ℕ, suc, pred, ◌-◌, ◌^◌, ◌<◌, Bool, true, false, cond, eqb, List, [], ◌∷◌, length, refl, sym, ap, subst, inl, inr, arith, Option, Some, None}
use Rattle.std.specs.Prelude.{slice_get}
use Rattle.std.proofs.lemmas.Bool.{eqb-false, ne_eqb, cond-false}
use Rattle.node_ids.specs.Ids.{IsLayout}
use Rattle.op_model.specs.Cuts.{Shows}
use Rattle.op_model.specs.declared.base.Dataset.{Dataset}
use Rattle.op_model.specs.declared.base.Base.{Base}
use Rattle.op_model.specs.declared.request.Edit.{Edit}
use Rattle.op_model.specs.declared.entry.Changed.{Changed}
use Rattle.op_model.specs.declared.entry.Entry.{Entry}
use Rattle.op_model.specs.declared.entry.Shown.{Shown}
use Rattle.op_model.specs.declared.entry.Asked.TheVariants as asked
use Rattle.op_model.specs.declared.request.Request.TheVariants as request
use Rattle.op_model.specs.declared.reply.Refusal.{Refusal}
use Rattle.op_model.specs.declared.reply.Reply.TheVariants as reply
use Rattle.op_model.specs.Operations.{touched, change, entry_of, next_entry, first_entry}
use Rattle.op_model.specs.Refusals.{last_at, refuse_early, refuse_cut, refuse_late, refused}
use Rattle.op_model.proofs.LegalLemmas.{first_none}
use Rattle.op_model.specs.Legal.{Legal}
use Rattle.op_model.specs.Transcript.{Line}
use Rattle.op_model.specs.Stamps.{stamp}
use Rattle.op_model.proofs.StampLemmas.{stamps}
use Rattle.graph_model.specs.Lists.{has}
use Rattle.std.specs.List.{AllByRecursion}
use Rattle.session_machine.specs.Machine.{Phase, Ready, Again, Locking, Pinning, Planning, Waiting, Checking, Committing, Yielding, Releasing, Replying, Ended, ClientState, Shared, State, Choice, checked, check, event, step_client, step, run, start, IsAllowed, IsAllowedAt, IsRun}
use Rattle.session_machine.specs.Invariant.{ClientLocks, LocksAgree, Covers, IsNext, ClientHistory, LogAgrees}
use Rattle.session_machine.proofs.PrefixLemmas.{covers_has}
use Rattle.session_machine.proofs.StepLemmas.{step_clients, get_map, step_locked}
use Rattle.session_machine.proofs.OtherLemmas.{Adds, others_log, adds}
use Rattle.session_machine.proofs.OwnLemmas.{KeepsHistory, spared_now, late_refused, not_refused, short_open, deny_now, open_seen, look_log}
use Rattle.session_machine.proofs.EventLemmas.{le_self, le_both, take_log, lock_log, pinned_log, plan_log, turn_log, commit_log, give_log, reply_log}
use Rattle.op_model.specs.Refusals.{refuse_if}

next_low : (x n : ℕ) → x < n → eqb x (n - 1) ≡ false → x < n - 1
next_low x n l e = let k : (x ≡ n - 1 → ⊥) = eqb-false x (n - 1) e in go x n l k
  where
    go : (x n : ℕ) → x < n → (x ≡ n - 1 → ⊥) → x < n - 1
    go x n l k = grind arith

if_none : (c : Bool) (r : Refusal) → refuse_if c r ≡ None → c ≡ false
unfolding refuse_if
if_none true r e = cc
if_none false r e = refl

module _ (d : Dataset) (b : Base) where
  last_low : (log : List Entry) → Legal d b log → last_at log < 2 ^ 62
  unfolding last_at
  last_low [] legal = absurd legal
  last_low (e ∷ []) legal = legal.1
  last_low (e ∷ f ∷ log) legal = legal.0.4

  not_end : (log : List Entry) (edit : Edit) → refuse_late d b log edit ≡ None → eqb (last_at log) (2 ^ 62 - 1) ≡ false
  unfolding refuse_late
  not_end log edit e = if_none (eqb (last_at log) (2 ^ 62 - 1)) _ (first_none _ _ (first_none _ _ (first_none _ _ e).1).1).0

  pub next_legal : (log : List Entry) (i line clock : ℕ) (edit : Edit) → Legal d b log → refused d b log (request.Edit edit) ≡ None → refuse_late d b log edit ≡ None
      → Legal d b (next_entry d b log i line (stamp log clock) edit ∷ log)
  unfolding next_entry entry_of
  next_legal [] i line clock edit legal h e = absurd legal
  next_legal (f ∷ log) i line clock edit legal h e =
      let t = stamps (f ∷ log) clock in
      ((edit, h, refl, t.0, t.1 (next_low (last_at (f ∷ log)) (2 ^ 62) (last_low (f ∷ log) legal) (not_end (f ∷ log) edit e))), legal)

module _ (d : Dataset) (b : Base) where
  -- an entry retires only roots that its edit touches
  abbrev pub Retires : Type 0
  Retires =
      (log : List Entry) (client line at : ℕ) (edit : Edit) → Legal d b log → refuse_early d b log edit ≡ None
      → AllByRecursion (λ r. has (touched d b log edit) r ≡ true) (next_entry d b log client line at edit).retired

  is_next : Retires → (c : Choice) (i : ℕ) (log : List Entry) (s t : ClientState) (edit : Edit) (shown : Option Shown) → t.seen ≡ length log → t.asked ≡ s.asked → t.pinned ≡ s.pinned
      → Legal d b log → refuse_early d b log edit ≡ None → refuse_cut d b log edit ≡ None → refuse_late d b log edit ≡ None → Covers d s.pinned (touched d b log edit) → Shows d b log edit shown
      → IsNext d b log i t edit shown (next_entry d b log i (length s.asked) (stamp log c.clock) edit)
  unfolding next_entry entry_of
  is_next retires c i log s t edit shown p q r legal early cuts late covers shows =
      record {
        seen = p;
        plan = (early, cuts, refl);
        roots = subst (λ x. Covers d x (touched d b log edit)) (sym r) covers;
        legal = next_legal d b log i (length s.asked) c.clock edit legal (not_refused d b log edit early cuts late) late;
        number = refl;
        client = refl;
        line = ap length (sym q);
        asked = refl;
        shows = shows;
        covers = subst (λ x. Covers d x (next_entry d b log i (length s.asked) (stamp log c.clock) edit).retired) (sym r)
            (covers_has d s.pinned (touched d b log edit) (next_entry d b log i (length s.asked) (stamp log c.clock) edit).retired covers (retires log i (length s.asked) (stamp log c.clock) edit legal early));
      }

  same_entry : (log : List Entry) (i line at : ℕ) (edit : Edit) → next_entry d b log i line at edit ≡ entry_of d b log i line at (asked.Edit edit) (change d b log edit)
  unfolding next_entry
  same_entry log i line at edit = refl

  checked_log : Retires → (c : Choice) (i : ℕ) (sh : Shared) (s : ClientState) (edit : Edit) (changed : List Changed) (shown : Option Shown) (r : Option Refusal) → refuse_late d b sh.log edit ≡ r → Legal d b sh.log
      → ClientHistory d b sh.log i s (Checking edit changed shown) → KeepsHistory d b i (sh, checked d b c i sh s edit changed shown r)
  checked_log retires c i sh s edit changed shown (Some r) e legal o =
      record {
        seen = (le_both 1 s.seen (length sh.log) o.seen.0 o.seen.1, le_self (length sh.log));
        own = o.own;
        spared = spared_now d b sh.log s.pinned;
        plan = tt;
        replied = deny_now d b sh.log i s edit r o.replied o.seen (late_refused d b sh.log edit r o.plan.0.0 o.plan.0.1 e);
      }
  checked_log retires c i sh s edit changed shown None e legal o =
      let t : ClientState = record s { seen = length sh.log; phase = Committing edit shown (entry_of d b sh.log i (length s.asked) (stamp sh.log c.clock) (asked.Edit edit) changed) } in
      record {
        seen = (le_both 1 s.seen (length sh.log) o.seen.0 o.seen.1, le_self (length sh.log));
        own = o.own;
        spared = spared_now d b sh.log s.pinned;
        plan = subst (λ cs. IsNext d b sh.log i t edit shown (entry_of d b sh.log i (length s.asked) (stamp sh.log c.clock) (asked.Edit edit) cs)) (sym o.plan.0.2)
            (subst (IsNext d b sh.log i t edit shown) (same_entry sh.log i (length s.asked) (stamp sh.log c.clock) edit)
            (is_next retires c i sh.log s t edit shown refl refl refl legal o.plan.0.0 o.plan.0.1 e o.plan.1 o.plan.2));
        replied = open_seen d b sh.log i s t edit refl refl refl o.seen.1 o.replied;
      }

  check_log : Retires → (c : Choice) (i : ℕ) (sh : Shared) (s : ClientState) (edit : Edit) (changed : List Changed) (shown : Option Shown) → Legal d b sh.log
      → ClientHistory d b sh.log i s (Checking edit changed shown) → KeepsHistory d b i (sh, check d b c i sh s edit changed shown)
  check_log retires c i sh s edit changed shown legal o = go c.no_memory
    where
      go : (t : Bool) → KeepsHistory d b i (sh, cond t (record s { seen = length sh.log; phase = Yielding reply.NoMemory }) (checked d b c i sh s edit changed shown (refuse_late d b sh.log edit)))
      go true =
          record {
            seen = (le_both 1 s.seen (length sh.log) o.seen.0 o.seen.1, le_self (length sh.log));
            own = o.own;
            spared = spared_now d b sh.log s.pinned;
            plan = tt;
            replied = short_open d b sh.log i s edit (length sh.log) o.replied o.seen.1;
          }
      go false = checked_log retires c i sh s edit changed shown (refuse_late d b sh.log edit) refl legal o

  own_log : IsLayout d.layout → Retires → (c : Choice) (i : ℕ) (sh : Shared) (s : ClientState) (p : Phase) → s.phase ≡ p → ClientLocks sh i s p → Legal d b sh.log → IsAllowed d b c sh s p
      → ClientHistory d b sh.log i s p → KeepsHistory d b i (event d b c i sh s p)
  own_log bits retires c i sh s Ready q l legal a o = take_log d b c i sh s s.lines q l.holds o
  own_log bits retires c i sh s (Again edit) q l legal a o = look_log d b c i sh s edit l.holds (record { seen = o.seen; own = o.own }) o.replied
  own_log bits retires c i sh s (Locking edit n ns) q l legal a o = lock_log d b c i sh s edit n ns q o
  own_log bits retires c i sh s (Pinning edit) q l legal a o = pinned_log d b i sh s edit _ _ refl refl o
  own_log bits retires c i sh s (Planning edit) q l legal a o = plan_log d b bits c i sh s edit a legal o
  own_log bits retires c i sh s (Waiting edit changed shown) q l legal a o = turn_log d b c i sh s edit changed shown q o
  own_log bits retires c i sh s (Checking edit changed shown) q l legal a o = check_log retires c i sh s edit changed shown legal o
  own_log bits retires c i sh s (Committing edit shown e) q l legal a o = commit_log d b i sh s edit shown e o
  own_log bits retires c i sh s (Yielding r) q l legal a o = record { seen = o.seen; own = o.own; spared = o.spared; plan = tt; replied = o.replied }
  own_log bits retires c i sh s (Releasing x) q l legal a o = give_log d b i sh s x s.held o
  own_log bits retires c i sh s (Replying r) q l legal a o = reply_log d b c i sh s r o
  own_log bits retires c i sh s Ended q l legal a o = subst (ClientHistory d b sh.log i s) (sym q) o

  adds_legal : (i : ℕ) (old : Shared) (log : List Entry) → Legal d b old.log → Adds d b i old log → Legal d b log
  adds_legal i old log legal (inl q) = subst (Legal d b) (sym q) legal
  adds_legal i old log legal (inr a) = subst (Legal d b) (sym a.1) a.4

  pub step_log : IsLayout d.layout → Retires → (c : Choice) (k : ℕ) (w : State) → LocksAgree w → IsAllowedAt d b c w.shared (slice_get w.clients k) → LogAgrees d b w → LogAgrees d b (step d b c k w)
  step_log bits retires c k w l a o = go (slice_get w.clients k) refl a
    where
      go : (m : Option ClientState) → slice_get w.clients k ≡ m → IsAllowedAt d b c w.shared m → LogAgrees d b (step_client d b c k w m)
      go None e a = o
      go (Some s) e a =
          let mine = l.clients k s e in
          let history = o.clients k s e in
          let new = adds d b c (suc k) w.shared s s.phase mine history.plan in
          record {
            legal = adds_legal (suc k) w.shared (event d b c (suc k) w.shared s s.phase).0.log o.legal new;
            clients = step_clients d b (λ j sh t. ClientHistory d b sh.log (suc j) t t.phase) c k w s e
                (own_log bits retires c (suc k) w.shared s s.phase refl mine o.legal a history)
                (λ j t n q. others_log d b bits (suc k) (suc j) w.shared (event d b c (suc k) w.shared s s.phase).0.log t t.phase (λ x. n (ap pred x)) (l.clients j t q) o.legal new (o.clients j t q));
          }

  pub run_log : IsLayout d.layout → Retires → (events : List (Choice × ℕ)) (w : State) → LocksAgree w → IsRun d b events w → LogAgrees d b w → LogAgrees d b (run d b events w)
  run_log bits retires [] w l a o = o
  run_log bits retires (m ∷ ms) w l a o =
      run_log bits retires ms (step d b m.0 m.1 w) (step_locked d b m.0 m.1 w l) a.1 (step_log bits retires m.0 m.1 w l a.0 o)

  pub start_log : (at : ℕ) (clients : List (List Line × Bool)) → Legal d b (first_entry d b at ∷ []) → LogAgrees d b (start d b at clients)
  unfolding first_entry
  start_log at clients legal =
      record {
        legal = legal;
        clients = λ k s q.
            let l = get_map d b clients k s q in
            subst (λ t. ClientHistory d b (first_entry d b at ∷ []) (suc k) t t.phase) (sym l.1)
            (record { seen = (le_self 1, le_self 1); own = sym (cond-false (eqb 0 (suc k)) (first_entry d b at ∷ []) [] (ne_eqb 0 (suc k) (λ e. omega arith))); spared = spared_now d b (first_entry d b at ∷ []) []; plan = tt; replied = (1, le_self 1, (refl, refl)) });
      }
