-- What a client has seen, planned and replied is kept by its own events.
use Rattle.std.proofs.Common.{◌≡◌, ℕ, suc, ◌≤◌, Bool, true, false, cond, eqb, List, [], ◌∷◌, length, refl, sym, ◌∙◌, ap, subst, arith, Option, Some, None}
use Rattle.std.specs.List.{AllByRecursion, filter}
use Rattle.op_model.specs.declared.base.Dataset.{Dataset}
use Rattle.op_model.specs.declared.base.Base.{Base}
use Rattle.op_model.specs.declared.request.Edit.{Edit}
use Rattle.op_model.specs.declared.entry.Entry.{Entry}
use Rattle.op_model.specs.declared.request.Request.TheVariants as request
use Rattle.op_model.specs.declared.reply.Refusal.{Refusal}
use Rattle.op_model.specs.declared.reply.Reply.{Reply}
use Rattle.op_model.specs.declared.reply.Reply.TheVariants as reply
use Rattle.graph_model.specs.Lists.{has}
use Rattle.op_model.specs.Operations.{touched}
use Rattle.op_model.specs.Refusals.{first_of, refuse_early, refuse_cut, refuse_late, refuse_edit, refused}
use Rattle.op_model.specs.Transcript.{Asks, log_at}
use Rattle.op_model.specs.Locks.{lock_of, locks_of}
use Rattle.op_model.specs.Reversed.{IsReplied, OutOfMemory, Refused, ReversedTranscript}
use Rattle.session_machine.specs.Machine.{Replying, ClientState, Shared, Choice, locking, looked, look}
use Rattle.session_machine.specs.Invariant.{newer, onto, AtLook, PlanFor, RepliedTo, IsOpen, RepliesFor, ClientHistory}
use Rattle.session_machine.proofs.PrefixLemmas.{log_at_whole, newer_whole}

module _ (d : Dataset) (b : Base) where
  -- A client's own event.

  abbrev pub KeepsHistory : ℕ → Shared × ClientState → Type 0
  KeepsHistory i m = ClientHistory d b m.0.log i m.1 m.1.phase

  pub spared_now : (log : List Entry) (pinned : List ℕ) → AllByRecursion (λ f. AllByRecursion (λ r. has pinned (lock_of d.layout r) ≡ false) f.retired) (newer log (length log))
  spared_now log pinned = subst (AllByRecursion (λ f. AllByRecursion (λ r. has pinned (lock_of d.layout r) ≡ false) f.retired)) (sym (newer_whole log)) tt

  pub spared_none : (es : List Entry) → AllByRecursion (λ f. AllByRecursion (λ r. has [] (lock_of d.layout r) ≡ false) f.retired) es
  spared_none [] = tt
  spared_none (e ∷ es) = (each e.retired, spared_none es)
    where
      each : (rs : List ℕ) → AllByRecursion (λ r. has [] (lock_of d.layout r) ≡ false) rs
      each [] = tt
      each (r ∷ rs) = (refl, each rs)

  pub early_refused : (log : List Entry) (edit : Edit) (r : Refusal) → refuse_early d b log edit ≡ Some r → refused d b log (request.Edit edit) ≡ Some r
  unfolding refused refuse_edit first_of
  early_refused log edit r e = rw e refl

  pub cut_refused : (log : List Entry) (edit : Edit) (r : Refusal) → refuse_early d b log edit ≡ None → refuse_cut d b log edit ≡ Some r → refused d b log (request.Edit edit) ≡ Some r
  unfolding refused refuse_edit first_of
  cut_refused log edit r e f = rw (e, f) refl

  pub late_refused : (log : List Entry) (edit : Edit) (r : Refusal) → refuse_early d b log edit ≡ None → refuse_cut d b log edit ≡ None → refuse_late d b log edit ≡ Some r → refused d b log (request.Edit edit) ≡ Some r
  unfolding refused refuse_edit first_of
  late_refused log edit r e f g = rw (e, f, g) refl

  pub not_refused : (log : List Entry) (edit : Edit) → refuse_early d b log edit ≡ None → refuse_cut d b log edit ≡ None → refuse_late d b log edit ≡ None → refused d b log (request.Edit edit) ≡ None
  unfolding refused refuse_edit first_of
  not_refused log edit e f g = rw (e, f, g) refl

  -- the open line gets its reply
  pub reply_open : (log : List Entry) (i : ℕ) (s : ClientState) (edit : Edit) (o : IsOpen d b log i s edit) (r : Reply) (k : ℕ) (owns : List Entry) (seen : ℕ)
      → IsReplied d b log i (suc (length o.0)) o.2.0 s.own (Asks (request.Edit edit)) r k owns → k ≤ seen → RepliedTo d b log i s.asked (r ∷ s.replies) owns seen
  reply_open log i s edit o r k owns seen x l =
      subst (λ asked. RepliedTo d b log i asked (r ∷ s.replies) owns seen) (sym o.1) (k, l, (o.2.0, s.own, x, o.2.2))

  pub short_open : (log : List Entry) (i : ℕ) (s : ClientState) (edit : Edit) (seen : ℕ) → IsOpen d b log i s edit → s.seen ≤ seen → RepliedTo d b log i s.asked (reply.NoMemory ∷ s.replies) s.own seen
  short_open log i s edit seen o l = reply_open log i s edit o reply.NoMemory o.2.0 s.own seen (OutOfMemory refl refl refl) (omega (arith, o.2.1))

  pub deny_open : (log : List Entry) (i : ℕ) (s : ClientState) (edit : Edit) (r : Refusal) (k : ℕ) → IsOpen d b log i s edit → s.seen ≤ k → 1 ≤ k → k ≤ length log
      → refused d b (log_at d b log k) (request.Edit edit) ≡ Some r → RepliedTo d b log i s.asked (reply.Refused r k ∷ s.replies) s.own k
  deny_open log i s edit r k o l m n e = reply_open log i s edit o (reply.Refused r k) k s.own k (Refused edit r refl refl m (omega (arith, o.2.1)) n e refl) (omega arith)

  pub deny_now : (log : List Entry) (i : ℕ) (s : ClientState) (edit : Edit) (r : Refusal) → IsOpen d b log i s edit → (1 ≤ s.seen) × (s.seen ≤ length log)
      → refused d b log (request.Edit edit) ≡ Some r → RepliedTo d b log i s.asked (reply.Refused r (length log) ∷ s.replies) s.own (length log)
  deny_now log i s edit r o l e =
      deny_open log i s edit r (length log) o l.1 (omega (arith, l)) (omega arith) (subst (λ h. refused d b h (request.Edit edit) ≡ Some r) (sym (log_at_whole d b log)) e)

  pub open_seen : (log : List Entry) (i : ℕ) (s t : ClientState) (edit : Edit) → t.asked ≡ s.asked → t.replies ≡ s.replies → t.own ≡ s.own → s.seen ≤ t.seen → IsOpen d b log i s edit → IsOpen d b log i t edit
  open_seen log i s t edit p q r l o =
      (o.0, p ∙ o.1, (o.2.0, omega (arith, o.2.1), subst (λ x. ReversedTranscript d b log i o.0 x t.own o.2.0) (sym q) (subst (λ x. ReversedTranscript d b log i o.0 s.replies x o.2.0) (sym r) o.2.2)))

  pub locking_plan : (log : List Entry) (i : ℕ) (s : ClientState) (edit : Edit) (ns : List ℕ) → AtLook d b log s.seen edit (onto s.held ns) → PlanFor d b log i s (locking edit ns)
  locking_plan log i s edit [] a = a
  locking_plan log i s edit (n ∷ ns) a = a

  pub locking_replied : (log : List Entry) (i : ℕ) (s : ClientState) (edit : Edit) (ns : List ℕ) → IsOpen d b log i s edit → RepliesFor d b log i s (locking edit ns)
  locking_replied log i s edit [] a = a
  locking_replied log i s edit (n ∷ ns) a = a

  -- what a client keeps in every phase
  pub record ClientBase (log : List Entry) (i : ℕ) (s : ClientState) : Type 0 where
    pub seen : (1 ≤ s.seen) × (s.seen ≤ length log)
    pub own : s.own ≡ filter (λ e. eqb e.client i) log

  pub looked_log : (i : ℕ) (sh : Shared) (s : ClientState) (edit : Edit) (r : Option Refusal) → refuse_early d b sh.log edit ≡ r → s.held ≡ [] → ClientBase sh.log i s → IsOpen d b sh.log i s edit → KeepsHistory i (sh, looked d b sh s edit r)
  looked_log i sh s edit (Some r) e h o replied =
      record { seen = (omega (arith, o.seen), omega arith); own = o.own; spared = spared_now sh.log s.pinned; plan = tt; replied = deny_now sh.log i s edit r replied o.seen (early_refused sh.log edit r e) }
  looked_log i sh s edit None e h o replied =
      let locks : List ℕ = locks_of d.layout (touched d b sh.log edit) in
      let t : ClientState = record s { seen = length sh.log; phase = locking edit locks } in
      record {
        seen = (omega (arith, o.seen), omega arith);
        own = o.own;
        spared = spared_now sh.log s.pinned;
        plan = locking_plan sh.log i t edit locks (subst (λ l. refuse_early d b l edit ≡ None) (sym (log_at_whole d b sh.log)) e, ap (λ x. onto x locks) h ∙ ap (λ l. locks_of d.layout (touched d b l edit)) (sym (log_at_whole d b sh.log)));
        replied = locking_replied sh.log i t edit locks (open_seen sh.log i s t edit refl refl refl o.seen.1 replied);
      }

  pub look_log : (c : Choice) (i : ℕ) (sh : Shared) (s : ClientState) (edit : Edit) → s.held ≡ [] → ClientBase sh.log i s → IsOpen d b sh.log i s edit → KeepsHistory i (sh, look d b c sh s edit)
  look_log c i sh s edit h o replied = go c.no_memory
    where
      go : (t : Bool) → KeepsHistory i (sh, cond t (record s { seen = length sh.log; phase = Replying reply.NoMemory }) (looked d b sh s edit (refuse_early d b sh.log edit)))
      go true = record { seen = (omega (arith, o.seen), omega arith); own = o.own; spared = spared_now sh.log s.pinned; plan = tt; replied = short_open sh.log i s edit (length sh.log) replied o.seen.1 }
      go false = looked_log i sh s edit (refuse_early d b sh.log edit) refl h o replied
