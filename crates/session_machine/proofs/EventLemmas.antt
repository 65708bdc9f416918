-- Each event of a client keeps what it has seen, planned and replied.
use Rattle.std.proofs.Common.{◌≡◌, ℕ, suc, ◌+◌, ◌-◌, ◌<◌, ◌≤◌, Bool, true, false, cond, eqb, List, [], ◌∷◌, length, get_or, refl, sym, ◌∙◌, ap, subst, arith, Option, Some, None}
use Rattle.std.specs.Prelude.{slice_set}
use Rattle.std.proofs.lemmas.Bool.{eq-eqb, cond-true}
use Rattle.node_ids.specs.Ids.{IsLayout}
use Rattle.op_model.specs.Cuts.{Shows}
use Rattle.op_model.specs.declared.base.Dataset.{Dataset}
use Rattle.op_model.specs.declared.base.Base.{Base}
use Rattle.op_model.specs.declared.request.Edit.{Edit}
use Rattle.op_model.specs.declared.entry.Changed.{Changed}
use Rattle.op_model.specs.declared.entry.Entry.{Entry}
use Rattle.op_model.specs.declared.entry.Shown.{Shown}
use Rattle.op_model.specs.declared.request.Request.TheVariants as request
use Rattle.op_model.specs.declared.reply.Refusal.{Refusal}
use Rattle.op_model.specs.declared.reply.Reply.{Reply}
use Rattle.op_model.specs.declared.reply.Reply.TheVariants as reply
use Rattle.op_model.specs.Operations.{touched}
use Rattle.op_model.specs.Refusals.{refuse_early, refuse_cut, refused}
use Rattle.op_model.specs.Answers.{answer}
use Rattle.op_model.specs.Legal.{Legal}
use Rattle.op_model.specs.Transcript.{Line, Asks, Faulty, log_at, read_reply}
use Rattle.op_model.specs.Locks.{locks_of}
use Rattle.op_model.specs.Reversed.{OutOfMemory, BadLine, Answered, Accepted}
use Rattle.op_model.proofs.ReversedLemmas.{log_at_more, reversed_more}
use Rattle.session_machine.specs.Machine.{After, Answer, Restart, Ready, Locking, Pinning, Planning, Waiting, Checking, Committing, Yielding, Releasing, Replying, Ended, ClientState, Shared, Choice, holds_all, locking, give_back, read_line, take_line, pinned_at, planned, plan, event}
use Rattle.session_machine.specs.Invariant.{newer, Covers, ClientHistory}
use Rattle.session_machine.proofs.PrefixLemmas.{log_at_whole, holds_covers, still}
use Rattle.session_machine.proofs.OwnLemmas.{KeepsHistory, spared_now, spared_none, early_refused, cut_refused, reply_open, short_open, deny_open, deny_now, open_seen, looked_log, locking_plan, locking_replied}

pub le_self : (n : ℕ) → n ≤ n
le_self n = omega arith

pub le_both : (k m n : ℕ) → k ≤ m → m ≤ n → k ≤ n
le_both k m n l r = omega arith

lt_next : (k m n : ℕ) → k ≤ m → m ≤ n → k < suc n
lt_next k m n l r = omega arith

one_more : (n : ℕ) → 1 ≤ suc n
one_more n = omega arith

next_number : (m n : ℕ) → m ≡ n → m + 1 ≡ suc n
next_number m n e = omega arith

less_one : (n : ℕ) → suc n - 1 ≡ n
less_one n = omega arith

module _ (d : Dataset) (b : Base) where
  read_line_log : (i : ℕ) (sh : Shared) (s : ClientState) (lines : List Line) (l : Line) → s.held ≡ [] → ClientHistory d b sh.log i s Ready
      → KeepsHistory d b i (sh, read_line d b sh (record s { lines = lines; asked = l ∷ s.asked }) l)
  read_line_log i sh s lines (Faulty error) h o =
      record { seen = o.seen; own = o.own; spared = o.spared; plan = tt; replied = (o.replied.0, o.replied.1, (o.replied.0, s.own, BadLine error refl refl refl refl, o.replied.2)) }
  read_line_log i sh s lines (Asks (request.Read q)) h o =
      record {
        seen = (le_both 1 s.seen (length sh.log) o.seen.0 o.seen.1, le_self (length sh.log));
        own = o.own;
        spared = spared_now d b sh.log s.pinned;
        plan = tt;
        replied = (
          length sh.log,
          le_self (length sh.log),
          (
            o.replied.0,
            s.own,
            Answered q refl (le_both 1 s.seen (length sh.log) o.seen.0 o.seen.1) (le_both o.replied.0 s.seen (length sh.log) o.replied.1 o.seen.1) (le_self (length sh.log))
                (subst (λ x. read_reply (refused d b sh.log (request.Read q)) sh.log (answer d b sh.log q) ≡ read_reply (refused d b x (request.Read q)) x (answer d b x q)) (sym (log_at_whole d b sh.log)) refl) refl,
            o.replied.2,
          ),
        );
      }
  read_line_log i sh s lines (Asks (request.Edit edit)) h o =
      looked_log d b i sh (record s { lines = lines; asked = Asks (request.Edit edit) ∷ s.asked }) edit (refuse_early d b sh.log edit) refl h (record { seen = o.seen; own = o.own }) (s.asked, refl, o.replied)

  pub take_log : (c : Choice) (i : ℕ) (sh : Shared) (s : ClientState) (lines : List Line) → s.phase ≡ Ready → s.held ≡ [] → ClientHistory d b sh.log i s Ready → KeepsHistory d b i (sh, take_line d b c sh s lines)
  take_log c i sh s [] p h o = go s.faulty
    where
      go : (t : Bool) → KeepsHistory d b i (sh, cond t (record s { phase = Ended }) s)
      go true = record { seen = o.seen; own = o.own; spared = o.spared; plan = tt; replied = o.replied }
      go false = subst (ClientHistory d b sh.log i s) (sym p) o
  take_log c i sh s (l ∷ lines) p h o = go c.no_memory
    where
      t : ClientState
      t = record s { lines = lines; asked = l ∷ s.asked }

      low : o.replied.0 ≤ length sh.log
      low = le_both o.replied.0 s.seen (length sh.log) o.replied.1 o.seen.1

      go : (x : Bool) → KeepsHistory d b i (sh, cond x (record t { seen = length sh.log; phase = Replying reply.NoMemory }) (read_line d b sh t l))
      go true =
          record {
            seen = (le_both 1 s.seen (length sh.log) o.seen.0 o.seen.1, le_self (length sh.log));
            own = o.own;
            spared = spared_now d b sh.log s.pinned;
            plan = tt;
            replied = (o.replied.0, low, (o.replied.0, s.own, OutOfMemory refl refl refl, o.replied.2));
          }
      go false = read_line_log i sh s lines l h o

  pub lock_log : (c : Choice) (i : ℕ) (sh : Shared) (s : ClientState) (edit : Edit) (n : ℕ) (ns : List ℕ) → s.phase ≡ Locking edit n ns → ClientHistory d b sh.log i s (Locking edit n ns) → KeepsHistory d b i (event d b c i sh s (Locking edit n ns))
  lock_log c i sh s edit n ns p o = go (eqb (get_or sh.locks n 0) 0)
    where
      go : (t : Bool) → KeepsHistory d b i (cond t (record sh { locks = slice_set sh.locks n i }, record s { held = n ∷ s.held; phase = locking edit ns }) (sh, s))
      go true =
          let t : ClientState = record s { held = n ∷ s.held; phase = locking edit ns } in
          record { seen = o.seen; own = o.own; spared = o.spared; plan = locking_plan d b sh.log i t edit ns o.plan; replied = locking_replied d b sh.log i t edit ns o.replied }
      go false = subst (ClientHistory d b sh.log i s) (sym p) o

  pub pinned_log : (i : ℕ) (sh : Shared) (s : ClientState) (edit : Edit) (r : Option Refusal) (all : Bool) → refuse_early d b sh.log edit ≡ r → holds_all s.held (locks_of d.layout (touched d b sh.log edit)) ≡ all
      → ClientHistory d b sh.log i s (Pinning edit) → KeepsHistory d b i (sh, pinned_at d b sh s edit r all)
  pinned_log i sh s edit (Some r) all e h o =
      record {
        seen = (le_both 1 s.seen (length sh.log) o.seen.0 o.seen.1, le_self (length sh.log));
        own = o.own;
        spared = spared_now d b sh.log s.pinned;
        plan = tt;
        replied = deny_now d b sh.log i s edit r o.replied o.seen (early_refused d b sh.log edit r e);
      }
  pinned_log i sh s edit None false e h o =
      record {
        seen = (le_both 1 s.seen (length sh.log) o.seen.0 o.seen.1, le_self (length sh.log));
        own = o.own;
        spared = spared_now d b sh.log s.pinned;
        plan = tt;
        replied = open_seen d b sh.log i s (record s { seen = length sh.log; phase = Releasing (Restart edit) }) edit refl refl refl o.seen.1 o.replied;
      }
  pinned_log i sh s edit None true e h o =
      record {
        seen = (le_both 1 s.seen (length sh.log) o.seen.0 o.seen.1, le_self (length sh.log));
        own = o.own;
        spared = spared_now d b sh.log s.held;
        plan = (
          subst (λ l. refuse_early d b l edit ≡ None) (sym (log_at_whole d b sh.log)) e,
          subst (λ l. Covers d s.held (touched d b l edit)) (sym (log_at_whole d b sh.log)) (holds_covers d s.held (touched d b sh.log edit) h),
        );
        replied = open_seen d b sh.log i s (record s { seen = length sh.log; pinned = s.held; phase = Planning edit }) edit refl refl refl o.seen.1 o.replied;
      }

  planned_log : IsLayout d.layout → (c : Choice) (i : ℕ) (sh : Shared) (s : ClientState) (edit : Edit) (r : Option Refusal) → refuse_cut d b (log_at d b sh.log s.seen) edit ≡ r
      → (refuse_cut d b (log_at d b sh.log s.seen) edit ≡ None → Shows d b (log_at d b sh.log s.seen) edit c.shown) → Legal d b sh.log
      → ClientHistory d b sh.log i s (Planning edit) → KeepsHistory d b i (sh, planned d b c sh s edit r)
  planned_log bits c i sh s edit (Some r) e shows legal o =
      record {
        seen = o.seen;
        own = o.own;
        spared = o.spared;
        plan = tt;
        replied = deny_open d b sh.log i s edit r s.seen o.replied (le_self s.seen) o.seen.0 o.seen.1 (cut_refused d b (log_at d b sh.log s.seen) edit r o.plan.0 e);
      }
  planned_log bits c i sh s edit None e shows legal o =
      let l = still d b sh.log s.seen edit s.pinned bits legal o.seen.0 o.seen.1 o.plan.0 o.plan.1 o.spared in
      record {
        seen = o.seen;
        own = o.own;
        spared = o.spared;
        plan = ((l.0.early, l.0.cut_refusal ∙ e, sym l.0.change), subst (Covers d s.pinned) (sym l.0.touched) o.plan.1, l.1 c.shown (shows e));
        replied = o.replied;
      }

  pub plan_log : IsLayout d.layout → (c : Choice) (i : ℕ) (sh : Shared) (s : ClientState) (edit : Edit)
      → (c.no_memory ≡ false → refuse_cut d b (log_at d b sh.log s.seen) edit ≡ None → Shows d b (log_at d b sh.log s.seen) edit c.shown) → Legal d b sh.log
      → ClientHistory d b sh.log i s (Planning edit) → KeepsHistory d b i (sh, plan d b c sh s edit)
  plan_log bits c i sh s edit shows legal o = go c.no_memory refl
    where
      go : (t : Bool) → c.no_memory ≡ t → KeepsHistory d b i (sh, cond t (record s { phase = Releasing (Answer reply.NoMemory) }) (planned d b c sh s edit (refuse_cut d b (log_at d b sh.log s.seen) edit)))
      go true e = record { seen = o.seen; own = o.own; spared = o.spared; plan = tt; replied = short_open d b sh.log i s edit s.seen o.replied (le_self s.seen) }
      go false e = planned_log bits c i sh s edit (refuse_cut d b (log_at d b sh.log s.seen) edit) refl (shows e) legal o

  pub turn_log : (c : Choice) (i : ℕ) (sh : Shared) (s : ClientState) (edit : Edit) (changed : List Changed) (shown : Option Shown) → s.phase ≡ Waiting edit changed shown
      → ClientHistory d b sh.log i s (Waiting edit changed shown) → KeepsHistory d b i (event d b c i sh s (Waiting edit changed shown))
  turn_log c i sh s edit changed shown p o = go (eqb sh.turn 0)
    where
      go : (t : Bool) → KeepsHistory d b i (cond t (record sh { turn = i }, record s { phase = Checking edit changed shown }) (sh, s))
      go true = record { seen = o.seen; own = o.own; spared = o.spared; plan = o.plan; replied = o.replied }
      go false = subst (ClientHistory d b sh.log i s) (sym p) o

  pub commit_log : (i : ℕ) (sh : Shared) (s : ClientState) (edit : Edit) (shown : Option Shown) (e : Entry) → ClientHistory d b sh.log i s (Committing edit shown e)
      → KeepsHistory d b i (record sh { log = e ∷ sh.log }, record s { own = e ∷ s.own; seen = suc (length sh.log); phase = Yielding (reply.Edited e.number e.at e.retired e.made shown (suc (length sh.log))) })
  commit_log i sh s edit shown e o =
      let n = length sh.log in
      let now : log_at d b (e ∷ sh.log) (suc n - 1) ≡ sh.log = ap (log_at d b (e ∷ sh.log)) (less_one n) ∙ (log_at_more d b e sh.log n (le_self n) ∙ log_at_whole d b sh.log) in
      record {
        seen = (one_more n, le_self (suc n));
        own = ap (λ x. e ∷ x) o.own ∙ sym (cond-true (eqb e.client i) _ _ (eq-eqb e.client i o.plan.client));
        spared = spared_now d b (e ∷ sh.log) s.pinned;
        plan = tt;
        replied = reply_open d b (e ∷ sh.log) i s edit (o.replied.0, o.replied.1, (o.replied.2.0, o.replied.2.1, reversed_more d b e sh.log i o.replied.0 s.replies s.own o.replied.2.0 o.replied.2.2)) (reply.Edited e.number e.at e.retired e.made shown (suc n)) (suc n) (e ∷ s.own) (suc n)
            (Accepted edit e e.number e.at e.retired e.made shown refl refl (lt_next o.replied.2.0 s.seen n o.replied.2.1 o.seen.1) (le_self (suc n))
            (next_number e.number n o.plan.number, o.plan.client, o.plan.line ∙ ap length o.replied.1, o.plan.asked, refl, refl, refl, refl, subst (λ l. Shows d b l edit shown) (sym now) o.plan.shows)
            refl)
            (le_self (suc n));
      }

  pub give_log : (i : ℕ) (sh : Shared) (s : ClientState) (a : After) (hs : List ℕ) → ClientHistory d b sh.log i s (Releasing a) → KeepsHistory d b i (give_back sh s a hs)
  give_log i sh s (Answer r) [] o = record { seen = o.seen; own = o.own; spared = spared_none d b (newer sh.log s.seen); plan = tt; replied = o.replied }
  give_log i sh s (Restart edit) [] o = record { seen = o.seen; own = o.own; spared = spared_none d b (newer sh.log s.seen); plan = tt; replied = o.replied }
  give_log i sh s (Answer r) (n ∷ []) o = record { seen = o.seen; own = o.own; spared = spared_none d b (newer sh.log s.seen); plan = tt; replied = o.replied }
  give_log i sh s (Restart edit) (n ∷ []) o = record { seen = o.seen; own = o.own; spared = spared_none d b (newer sh.log s.seen); plan = tt; replied = o.replied }
  give_log i sh s (Answer r) (n ∷ m ∷ ms) o = record { seen = o.seen; own = o.own; spared = spared_none d b (newer sh.log s.seen); plan = tt; replied = o.replied }
  give_log i sh s (Restart edit) (n ∷ m ∷ ms) o = record { seen = o.seen; own = o.own; spared = spared_none d b (newer sh.log s.seen); plan = tt; replied = o.replied }

  pub reply_log : (c : Choice) (i : ℕ) (sh : Shared) (s : ClientState) (r : Reply) → ClientHistory d b sh.log i s (Replying r) → KeepsHistory d b i (event d b c i sh s (Replying r))
  reply_log c i sh s r o = go c.write_fails
    where
      go : (t : Bool) → KeepsHistory d b i (sh, record s { replies = r ∷ s.replies; phase = cond t Ended Ready })
      go true = record { seen = o.seen; own = o.own; spared = o.spared; plan = tt; replied = o.replied }
      go false = record { seen = o.seen; own = o.own; spared = o.spared; plan = tt; replied = o.replied }
