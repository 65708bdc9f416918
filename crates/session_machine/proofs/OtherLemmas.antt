-- What clients have seen, planned and replied is kept by each event.
use Rattle.std.proofs.Common.{◌≡◌, ◌≢◌, ℕ, ◌≤◌, Bool, true, false, cond, eqb, List, [], ◌∷◌, length, get_or, refl, sym, ◌∙◌, ap, subst, inl, inr, ◌⊎◌, arith, Option, None}
use Rattle.std.specs.Prelude.{slice_set}
use Rattle.std.specs.List.{AllByRecursion}
use Rattle.std.proofs.lemmas.Bool.{false≢true, eqb-true, ne_eqb, cond-false}
use Rattle.node_ids.specs.Ids.{IsLayout}
use Rattle.op_model.specs.declared.base.Dataset.{Dataset}
use Rattle.op_model.specs.declared.base.Base.{Base}
use Rattle.op_model.specs.declared.request.Edit.{Edit}
use Rattle.op_model.specs.declared.entry.Changed.{Changed}
use Rattle.op_model.specs.declared.entry.Entry.{Entry}
use Rattle.op_model.specs.declared.entry.Shown.{Shown}
use Rattle.op_model.specs.declared.reply.Reply.{Reply}
use Rattle.graph_model.specs.Lists.{has}
use Rattle.op_model.specs.Operations.{touched}
use Rattle.op_model.specs.Refusals.{refuse_early}
use Rattle.op_model.specs.Legal.{Legal}
use Rattle.op_model.specs.Transcript.{Line}
use Rattle.op_model.specs.Locks.{lock_of, locks_of}
use Rattle.op_model.proofs.ReversedLemmas.{log_at_more, reversed_more}
use Rattle.session_machine.specs.Machine.{Answer, Restart, Phase, Ready, Again, Locking, Pinning, Planning, Waiting, Checking, Committing, Yielding, Releasing, Replying, Ended, ClientState, Shared, Choice, locking, give_back, event}
use Rattle.session_machine.specs.Invariant.{has_turn, PinsFor, ClientLocks, Covers, onto, AtLook, Planned, PlanFor, RepliedTo, IsOpen, RepliesFor, ClientHistory}
use Rattle.session_machine.proofs.PrefixLemmas.{newer_more, still_step}

module _ (d : Dataset) (b : Base) where
  -- Another client's entry.

  pub to_more : (e : Entry) (log : List Entry) (i : ℕ) (asked : List Line) (replies : List Reply) (own : List Entry) (seen : ℕ)
      → RepliedTo d b log i asked replies own seen → RepliedTo d b (e ∷ log) i asked replies own seen
  to_more e log i asked replies own seen s = (s.0, s.1, reversed_more d b e log i asked replies own s.0 s.2)

  pub open_more : (e : Entry) (log : List Entry) (i : ℕ) (s : ClientState) (edit : Edit) → IsOpen d b log i s edit → IsOpen d b (e ∷ log) i s edit
  open_more e log i s edit o = (o.0, o.1, to_more e log i o.0 s.replies s.own s.seen o.2)

  for_more : (e : Entry) (log : List Entry) (i : ℕ) (s : ClientState) (p : Phase) → RepliesFor d b log i s p → RepliesFor d b (e ∷ log) i s p
  for_more e log i s Ready o = to_more e log i s.asked s.replies s.own s.seen o
  for_more e log i s Ended o = to_more e log i s.asked s.replies s.own s.seen o
  for_more e log i s (Again edit) o = open_more e log i s edit o
  for_more e log i s (Locking edit n ns) o = open_more e log i s edit o
  for_more e log i s (Pinning edit) o = open_more e log i s edit o
  for_more e log i s (Planning edit) o = open_more e log i s edit o
  for_more e log i s (Waiting edit changed shown) o = open_more e log i s edit o
  for_more e log i s (Checking edit changed shown) o = open_more e log i s edit o
  for_more e log i s (Committing edit shown f) o = open_more e log i s edit o
  for_more e log i s (Releasing (Restart edit)) o = open_more e log i s edit o
  for_more e log i s (Releasing (Answer r)) o = to_more e log i s.asked (r ∷ s.replies) s.own s.seen o
  for_more e log i s (Yielding r) o = to_more e log i s.asked (r ∷ s.replies) s.own s.seen o
  for_more e log i s (Replying r) o = to_more e log i s.asked (r ∷ s.replies) s.own s.seen o

  at_look_more : (e : Entry) (log : List Entry) (k : ℕ) (edit : Edit) (locks : List ℕ) → k ≤ length log → AtLook d b log k edit locks → AtLook d b (e ∷ log) k edit locks
  at_look_more e log k edit locks l a =
      subst (λ h. (refuse_early d b h edit ≡ None) × (locks ≡ locks_of d.layout (touched d b h edit))) (sym (log_at_more d b e log k l)) a

  planned_more : IsLayout d.layout → (e : Entry) (log : List Entry) (pinned : List ℕ) (edit : Edit) (changed : List Changed) (shown : Option Shown) → Legal d b (e ∷ log) → Legal d b log
      → AllByRecursion (λ r. has pinned (lock_of d.layout r) ≡ false) e.retired → Planned d b log pinned edit changed shown → Planned d b (e ∷ log) pinned edit changed shown
  planned_more bits e log pinned edit changed shown legal before a p =
      let s = still_step d b e log edit pinned bits legal before p.0.0 p.1 a in
      ((s.0.early, s.0.cut_refusal ∙ p.0.1, p.0.2 ∙ sym s.0.change), subst (Covers d pinned) (sym s.0.touched) p.1, s.1 shown p.2)

  plan_more : IsLayout d.layout → (e : Entry) (log : List Entry) (i : ℕ) (s : ClientState) (p : Phase) → has_turn p ≡ false → Legal d b (e ∷ log) → Legal d b log → s.seen ≤ length log
      → AllByRecursion (λ r. has s.pinned (lock_of d.layout r) ≡ false) e.retired → PlanFor d b log i s p → PlanFor d b (e ∷ log) i s p
  plan_more bits e log i s Ready h legal before l a o = tt
  plan_more bits e log i s (Again edit) h legal before l a o = tt
  plan_more bits e log i s (Locking edit n ns) h legal before l a o = at_look_more e log s.seen edit (onto s.held (n ∷ ns)) l o
  plan_more bits e log i s (Pinning edit) h legal before l a o = at_look_more e log s.seen edit (onto s.held []) l o
  plan_more bits e log i s (Planning edit) h legal before l a o =
      subst (λ x. (refuse_early d b x edit ≡ None) × Covers d s.pinned (touched d b x edit)) (sym (log_at_more d b e log s.seen l)) o
  plan_more bits e log i s (Waiting edit changed shown) h legal before l a o = planned_more bits e log s.pinned edit changed shown legal before a o
  plan_more bits e log i s (Checking edit changed shown) h legal before l a o = absurd (false≢true (sym h))
  plan_more bits e log i s (Committing edit shown f) h legal before l a o = absurd (false≢true (sym h))
  plan_more bits e log i s (Yielding r) h legal before l a o = tt
  plan_more bits e log i s (Releasing x) h legal before l a o = tt
  plan_more bits e log i s (Replying r) h legal before l a o = tt
  plan_more bits e log i s Ended h legal before l a o = tt

  history_more : IsLayout d.layout → (e : Entry) (log : List Entry) (i : ℕ) (s : ClientState) (p : Phase) → has_turn p ≡ false → e.client ≢ i → Legal d b (e ∷ log) → Legal d b log
      → AllByRecursion (λ r. has s.pinned (lock_of d.layout r) ≡ false) e.retired → ClientHistory d b log i s p → ClientHistory d b (e ∷ log) i s p
  history_more bits e log i s p h other legal before a o =
      record {
        seen = (o.seen.0, omega arith);
        own = o.own ∙ sym (cond-false (eqb e.client i) _ _ (ne_eqb e.client i other));
        spared = subst (λ es. AllByRecursion (λ f. AllByRecursion (λ r. has s.pinned (lock_of d.layout r) ≡ false) f.retired) es) (sym (newer_more e log s.seen o.seen.1)) (a, o.spared);
        plan = plan_more bits e log i s p h legal before o.seen.1 a o.plan;
        replied = for_more e log i s p o.replied;
      }

  -- what a client's event does to the log: nothing, or it adds an entry of its own in its turn
  abbrev pub Adds : ℕ → Shared → List Entry → Type 0
  Adds i old log =
      (log ≡ old.log)
      ⊎ ((e : Entry) × (log ≡ e ∷ old.log) × (eqb old.turn i ≡ true) × (e.client ≡ i) × Legal d b (e ∷ old.log) × AllByRecursion (λ r. eqb (get_or old.locks (lock_of d.layout r) 0) i ≡ true) e.retired)

  pins_held : (pinned held : List ℕ) (p : Phase) (n : ℕ) → PinsFor pinned held p → has held n ≡ false → has pinned n ≡ false
  pins_held pinned held Ready n q h = subst (λ ns. has ns n ≡ false) (sym q) refl
  pins_held pinned held (Again edit) n q h = subst (λ ns. has ns n ≡ false) (sym q) refl
  pins_held pinned held (Locking edit m ms) n q h = subst (λ ns. has ns n ≡ false) (sym q) refl
  pins_held pinned held (Pinning edit) n q h = subst (λ ns. has ns n ≡ false) (sym q) refl
  pins_held pinned held (Planning edit) n q h = subst (λ ns. has ns n ≡ false) (sym q) h
  pins_held pinned held (Waiting edit changed shown) n q h = subst (λ ns. has ns n ≡ false) (sym q) h
  pins_held pinned held (Checking edit changed shown) n q h = subst (λ ns. has ns n ≡ false) (sym q) h
  pins_held pinned held (Committing edit shown e) n q h = subst (λ ns. has ns n ≡ false) (sym q) h
  pins_held pinned held (Yielding r) n q h = subst (λ ns. has ns n ≡ false) (sym q) h
  pins_held pinned held (Releasing a) n (inl q) h = subst (λ ns. has ns n ≡ false) (sym q) h
  pins_held pinned held (Releasing a) n (inr q) h = subst (λ ns. has ns n ≡ false) (sym q) refl
  pins_held pinned held (Replying r) n q h = subst (λ ns. has ns n ≡ false) (sym q) refl
  pins_held pinned held Ended n q h = subst (λ ns. has ns n ≡ false) (sym q) refl

  pub others_log : IsLayout d.layout → (i j : ℕ) (old : Shared) (log : List Entry) (s : ClientState) (p : Phase) → j ≢ i → ClientLocks old j s p → Legal d b old.log → Adds i old log
      → ClientHistory d b old.log j s p → ClientHistory d b log j s p
  others_log bits i j old log s p k l legal (inl q) o = subst (λ x. ClientHistory d b x j s p) (sym q) o
  others_log bits i j old log s p k l legal (inr a) o =
      let e : Entry = a.0 in
      let t : old.turn ≡ i = eqb-true old.turn i a.2 in
      subst (λ x. ClientHistory d b x j s p) (sym a.1)
      (history_more bits e old.log j s p (sym l.turn ∙ ne_eqb old.turn j (λ q. k (sym q ∙ t))) (λ q. k (sym q ∙ a.3)) a.4 legal (each e.retired a.5) o)
    where
      each : (rs : List ℕ) → AllByRecursion (λ r. eqb (get_or old.locks (lock_of d.layout r) 0) i ≡ true) rs → AllByRecursion (λ r. has s.pinned (lock_of d.layout r) ≡ false) rs
      each [] a = tt
      each (r ∷ rs) a =
          let h : get_or old.locks (lock_of d.layout r) 0 ≡ i = eqb-true _ i a.0 in
          (pins_held s.pinned s.held p (lock_of d.layout r) l.pins (sym (l.mine (lock_of d.layout r)) ∙ ne_eqb _ j (λ q. k (sym q ∙ h))), each rs a.1)

  pub adds : (c : Choice) (i : ℕ) (sh : Shared) (s : ClientState) (p : Phase) → ClientLocks sh i s p → PlanFor d b sh.log i s p → Adds i sh (event d b c i sh s p).0.log
  adds c i sh s Ready l o = inl refl
  adds c i sh s (Again edit) l o = inl refl
  adds c i sh s (Locking edit n ns) l o = go (eqb (get_or sh.locks n 0) 0)
    where
      go : (t : Bool) → Adds i sh (cond {A = Shared × ClientState} t (record sh { locks = slice_set sh.locks n i }, record s { held = n ∷ s.held; phase = locking edit ns }) (sh, s)).0.log
      go true = inl refl
      go false = inl refl
  adds c i sh s (Pinning edit) l o = inl refl
  adds c i sh s (Planning edit) l o = inl refl
  adds c i sh s (Waiting edit changed shown) l o = go (eqb sh.turn 0)
    where
      go : (t : Bool) → Adds i sh (cond {A = Shared × ClientState} t (record sh { turn = i }, record s { phase = Checking edit changed shown }) (sh, s)).0.log
      go true = inl refl
      go false = inl refl
  adds c i sh s (Checking edit changed shown) l o = inl refl
  adds c i sh s (Committing edit shown e) l o = inr (e, refl, l.turn, o.client, o.legal, each e.retired o.covers)
    where
      each : (rs : List ℕ) → Covers d s.pinned rs → AllByRecursion (λ r. eqb (get_or sh.locks (lock_of d.layout r) 0) i ≡ true) rs
      each [] a = tt
      each (r ∷ rs) a = (l.mine (lock_of d.layout r) ∙ (ap (λ ns. has ns (lock_of d.layout r)) (sym l.pins) ∙ a.0), each rs a.1)
  adds c i sh s (Yielding r) l o = inl refl
  adds c i sh s (Releasing a) l o = go s.held
    where
      go : (hs : List ℕ) → Adds i sh (give_back sh s a hs).0.log
      go [] = inl refl
      go (n ∷ ns) = inl refl
  adds c i sh s (Replying r) l o = inl refl
  adds c i sh s Ended l o = inl refl
