-- Locks, pins and the turn are kept by each event.
use Rattle.std.proofs.Common.{◌≡◌, ℕ, zero, suc, ◌<◌, ◌≤◌, Bool, true, false, cond, ◌||◌, eqb, List, [], ◌∷◌, length, get_or, set, refl, sym, ◌∙◌, ap, subst, inl, inr, arith, Option, Some, None, get_or-set_same, get_or-set_other, eq-eqb}
use Rattle.std.specs.List.{AllByRecursion}
use Rattle.std.proofs.lemmas.Bool.{or_from, ne_eqb, cases_eq}
use Rattle.op_model.specs.declared.base.Dataset.{Dataset}
use Rattle.op_model.specs.declared.base.Base.{Base}
use Rattle.op_model.specs.declared.request.Edit.{Edit}
use Rattle.op_model.specs.declared.entry.Changed.{Changed}
use Rattle.op_model.specs.declared.entry.Shown.{Shown}
use Rattle.op_model.specs.declared.request.Request.TheVariants as request
use Rattle.op_model.specs.declared.reply.Refusal.{Refusal}
use Rattle.op_model.specs.declared.reply.Reply.TheVariants as reply
use Rattle.graph_model.specs.Lists.{has}
use Rattle.op_model.specs.Valid.{IsAscending}
use Rattle.op_model.specs.Operations.{touched}
use Rattle.op_model.specs.Refusals.{refuse_early, refuse_cut, refuse_late}
use Rattle.op_model.specs.Transcript.{Line, Asks, Faulty, log_at}
use Rattle.op_model.specs.Locks.{locks_of}
use Rattle.op_model.proofs.LockLemmas.{locks_listed}
use Rattle.session_machine.specs.Machine.{After, Answer, Restart, Phase, Ready, Again, Locking, Pinning, Planning, Waiting, Checking, Committing, Yielding, Releasing, Replying, Ended, ClientState, Shared, Choice, locking, give_back, looked, look, read_line, take_line, pinned_at, planned, plan, checked, check, event}
use Rattle.session_machine.specs.Invariant.{has_turn, HoldsFor, PinsFor, Descends, ClientLocks}

-- Lists.

rest_ascends : (n : ℕ) (ns : List ℕ) → IsAscending (n ∷ ns) → IsAscending ns
rest_ascends n [] a = tt
rest_ascends n (m ∷ ms) a = a.1

all_weaker : (m n : ℕ) → m ≤ n → (xs : List ℕ) → AllByRecursion (λ x. x < m) xs → AllByRecursion (λ x. x < n) xs
all_weaker m n l [] a = tt
all_weaker m n l (x ∷ xs) a = (omega (arith, a.0), all_weaker m n l xs a.1)

-- these locks are below the next one
abbrev Under : List ℕ → List ℕ → Type 0
Under held [] = Unit {0}
Under held (n ∷ ns) = AllByRecursion (λ m. m < n) held

under_next : (n : ℕ) (ns held : List ℕ) → AllByRecursion (λ m. m < n) held → IsAscending (n ∷ ns) → Under (n ∷ held) ns
under_next n [] held a l = tt
under_next n (m ∷ ms) held a l = (l.0, all_weaker n m (omega (arith, l.0)) held a)

under_none : (ns held : List ℕ) → held ≡ [] → Under held ns
under_none [] held h = tt
under_none (n ∷ ns) held h = subst (AllByRecursion (λ m. m < n)) (sym h) tt

below_has : (n : ℕ) (ns : List ℕ) → AllByRecursion (λ m. m < n) ns → has ns n ≡ false
below_has n [] a = refl
below_has n (m ∷ ms) a = or_from _ _ (ne_eqb m n (λ e. omega (arith, a.0))) (below_has n ms a.1)

-- A client's own step.

abbrev Kept : ℕ → Shared × ClientState → Type 0
Kept i m = ClientLocks m.0 i m.1 m.1.phase

-- a client that holds and has pinned nothing and hasn't the turn
pub record Idle (sh : Shared) (i : ℕ) (s : ClientState) : Type 0 where
  pub mine : (n : ℕ) → eqb (get_or sh.locks n 0) i ≡ has s.held n
  pub held : s.held ≡ []
  pub pinned : s.pinned ≡ []
  pub turn : eqb sh.turn i ≡ false

idle_order : (s : ClientState) → s.held ≡ [] → Descends s.held
idle_order s h = subst Descends (sym h) tt

replying_kept : (i : ℕ) (sh : Shared) (s : ClientState) (p : Phase) → Idle sh i s → HoldsFor s.held p → PinsFor s.pinned s.held p → has_turn p ≡ false → ClientLocks sh i s p
replying_kept i sh s p o h q t = record { mine = o.mine; order = idle_order s o.held; holds = h; pins = q; turn = o.turn ∙ sym t }

locking_kept : (i : ℕ) (sh : Shared) (s : ClientState) (edit : Edit) (ns : List ℕ) → ((n : ℕ) → eqb (get_or sh.locks n 0) i ≡ has s.held n) → Descends s.held → s.pinned ≡ [] → eqb sh.turn i ≡ false
    → Under s.held ns → IsAscending ns → AllByRecursion (λ m. m < 64) ns → ClientLocks sh i s (locking edit ns)
locking_kept i sh s edit [] mine once pins turn below a l = record { mine = mine; order = once; holds = tt; pins = pins; turn = turn }
locking_kept i sh s edit (n ∷ ns) mine once pins turn below a l = record { mine = mine; order = once; holds = (below, a, l); pins = pins; turn = turn }

again_kept : (d : Dataset) (i : ℕ) (sh : Shared) (s : ClientState) (edit : Edit) (rs : List ℕ) → Idle sh i s → ClientLocks sh i s (locking edit (locks_of d.layout rs))
again_kept d i sh s edit rs o =
    let l = locks_listed d.layout rs in
    locking_kept i sh s edit (locks_of d.layout rs) o.mine (idle_order s o.held) o.pinned o.turn (under_none (locks_of d.layout rs) s.held o.held) l.0 l.1

module _ (d : Dataset) (b : Base) where
  looked_kept : (i : ℕ) (sh : Shared) (s : ClientState) (edit : Edit) (r : Option Refusal) → Idle sh i s → Kept i (sh, looked d b sh s edit r)
  looked_kept i sh s edit None o =
      again_kept d i sh (record s { seen = length sh.log; phase = locking edit (locks_of d.layout (touched d b sh.log edit)) }) edit (touched d b sh.log edit)
      (record { mine = o.mine; held = o.held; pinned = o.pinned; turn = o.turn })
  looked_kept i sh s edit (Some r) o = record { mine = o.mine; order = idle_order s o.held; holds = o.held; pins = o.pinned; turn = o.turn }

  look_kept : (c : Choice) (i : ℕ) (sh : Shared) (s : ClientState) (edit : Edit) → Idle sh i s → Kept i (sh, look d b c sh s edit)
  look_kept c i sh s edit o = go c.no_memory
    where
      go : (t : Bool) → Kept i (sh, cond t (record s { seen = length sh.log; phase = Replying reply.NoMemory }) (looked d b sh s edit (refuse_early d b sh.log edit)))
      go true = record { mine = o.mine; order = idle_order s o.held; holds = o.held; pins = o.pinned; turn = o.turn }
      go false = looked_kept i sh s edit (refuse_early d b sh.log edit) o

  read_line_kept : (i : ℕ) (sh : Shared) (s : ClientState) (l : Line) → Idle sh i s → Kept i (sh, read_line d b sh s l)
  read_line_kept i sh s (Faulty error) o = record { mine = o.mine; order = idle_order s o.held; holds = o.held; pins = o.pinned; turn = o.turn }
  read_line_kept i sh s (Asks (request.Read q)) o = record { mine = o.mine; order = idle_order s o.held; holds = o.held; pins = o.pinned; turn = o.turn }
  read_line_kept i sh s (Asks (request.Edit edit)) o = looked_kept i sh s edit (refuse_early d b sh.log edit) o

  take_kept : (c : Choice) (i : ℕ) (sh : Shared) (s : ClientState) (lines : List Line) → s.phase ≡ Ready → Idle sh i s → Kept i (sh, take_line d b c sh s lines)
  take_kept c i sh s [] p o = go s.faulty
    where
      go : (t : Bool) → Kept i (sh, cond t (record s { phase = Ended }) s)
      go true = record { mine = o.mine; order = idle_order s o.held; holds = o.held; pins = o.pinned; turn = o.turn }
      go false = subst (ClientLocks sh i s) (sym p) (record { mine = o.mine; order = idle_order s o.held; holds = o.held; pins = o.pinned; turn = o.turn })
  take_kept c i sh s (l ∷ lines) p o = go c.no_memory
    where
      t : ClientState
      t = record s { lines = lines; asked = l ∷ s.asked }

      go : (x : Bool) → Kept i (sh, cond x (record t { seen = length sh.log; phase = Replying reply.NoMemory }) (read_line d b sh t l))
      go true = record { mine = o.mine; order = idle_order s o.held; holds = o.held; pins = o.pinned; turn = o.turn }
      go false = read_line_kept i sh t l (record { mine = o.mine; held = o.held; pinned = o.pinned; turn = o.turn })

  idle : (i : ℕ) (sh : Shared) (s : ClientState) (p : Phase) → ClientLocks sh i s p → s.held ≡ [] → s.pinned ≡ [] → has_turn p ≡ false → Idle sh i s
  idle i sh s p o h q t = record { mine = o.mine; held = h; pinned = q; turn = o.turn ∙ t }

  -- the next lock is taken
  set_mine : (i n : ℕ) (locks : List ℕ) (held : List ℕ) → n < length locks → ((m : ℕ) → eqb (get_or locks m 0) i ≡ has held m) → (m : ℕ) → eqb (get_or (set locks n i) m 0) i ≡ has (n ∷ held) m
  set_mine i n locks held l mine m =
      elim (cases_eq m n) [
        | inl e ↦ subst (λ x. eqb (get_or (set locks n i) x 0) i ≡ has (n ∷ held) x) (sym e) (rw (get_or-set_same locks n i 0 l, eq-eqb i i refl, eq-eqb n n refl) refl)
        | inr k ↦ rw (get_or-set_other locks n m i 0 k, ne_eqb n m (λ e. k (sym e))) (mine m)
      ]

  lock_kept : (c : Choice) (i : ℕ) (sh : Shared) (s : ClientState) (edit : Edit) (n : ℕ) (ns : List ℕ) → s.phase ≡ Locking edit n ns → 0 < i → length sh.locks ≡ 64 → ClientLocks sh i s (Locking edit n ns) → Kept i (event d b c i sh s (Locking edit n ns))
  lock_kept c i sh s edit n ns p pos len o = go (eqb (get_or sh.locks n 0) 0) refl
    where
      go : (t : Bool) → eqb (get_or sh.locks n 0) 0 ≡ t
          → Kept i (cond t (record sh { locks = set sh.locks n i }, record s { held = n ∷ s.held; phase = locking edit ns }) (sh, s))
      go true e =
          let lt : n < length sh.locks = omega (arith, o.holds.2.0) in
          locking_kept i (record sh { locks = set sh.locks n i }) (record s { held = n ∷ s.held; phase = locking edit ns }) edit ns
          (set_mine i n sh.locks s.held lt o.mine) (o.holds.0, o.order) o.pins o.turn (under_next n ns s.held o.holds.0 o.holds.1) (rest_ascends n ns o.holds.1) o.holds.2.1
      go false e = subst (ClientLocks sh i s) (sym p) o

  -- a step that keeps the locks and the turn
  calm : (i : ℕ) (sh : Shared) (s : ClientState) (p : Phase) → ClientLocks sh i s p → (t : ClientState) → t.held ≡ s.held → HoldsFor t.held t.phase → PinsFor t.pinned t.held t.phase → has_turn t.phase ≡ has_turn p → ClientLocks sh i t t.phase
  calm i sh s p o t h f q e =
      record { mine = λ n. o.mine n ∙ ap (λ ns. has ns n) (sym h); order = subst Descends (sym h) o.order; holds = f; pins = q; turn = o.turn ∙ sym e }

  pin_kept : (i : ℕ) (sh : Shared) (s : ClientState) (edit : Edit) (r : Option Refusal) (all : Bool) → ClientLocks sh i s (Pinning edit) → Kept i (sh, pinned_at d b sh s edit r all)
  pin_kept i sh s edit (Some r) all o = calm i sh s (Pinning edit) o _ refl tt (inr o.pins) refl
  pin_kept i sh s edit None false o = calm i sh s (Pinning edit) o _ refl tt (inr o.pins) refl
  pin_kept i sh s edit None true o = calm i sh s (Pinning edit) o _ refl tt refl refl

  planned_kept : (c : Choice) (i : ℕ) (sh : Shared) (s : ClientState) (edit : Edit) (r : Option Refusal) → ClientLocks sh i s (Planning edit) → Kept i (sh, planned d b c sh s edit r)
  planned_kept c i sh s edit (Some r) o = calm i sh s (Planning edit) o _ refl tt (inl o.pins) refl
  planned_kept c i sh s edit None o = calm i sh s (Planning edit) o _ refl tt o.pins refl

  plan_kept : (c : Choice) (i : ℕ) (sh : Shared) (s : ClientState) (edit : Edit) → ClientLocks sh i s (Planning edit) → Kept i (sh, plan d b c sh s edit)
  plan_kept c i sh s edit o = go c.no_memory
    where
      go : (t : Bool) → Kept i (sh, cond t (record s { phase = Releasing (Answer reply.NoMemory) }) (planned d b c sh s edit (refuse_cut d b (log_at d b sh.log s.seen) edit)))
      go true = calm i sh s (Planning edit) o _ refl tt (inl o.pins) refl
      go false = planned_kept c i sh s edit _ o

  checked_kept : (c : Choice) (i : ℕ) (sh : Shared) (s : ClientState) (edit : Edit) (changed : List Changed) (shown : Option Shown) (r : Option Refusal) → ClientLocks sh i s (Checking edit changed shown)
      → Kept i (sh, checked d b c i sh s edit changed shown r)
  checked_kept c i sh s edit changed shown (Some r) o = calm i sh s (Checking edit changed shown) o _ refl tt o.pins refl
  checked_kept c i sh s edit changed shown None o = calm i sh s (Checking edit changed shown) o _ refl tt o.pins refl

  check_kept : (c : Choice) (i : ℕ) (sh : Shared) (s : ClientState) (edit : Edit) (changed : List Changed) (shown : Option Shown) → ClientLocks sh i s (Checking edit changed shown)
      → Kept i (sh, check d b c i sh s edit changed shown)
  check_kept c i sh s edit changed shown o = go c.no_memory
    where
      go : (t : Bool) → Kept i (sh, cond t (record s { seen = length sh.log; phase = Yielding reply.NoMemory }) (checked d b c i sh s edit changed shown (refuse_late d b sh.log edit)))
      go true = calm i sh s (Checking edit changed shown) o _ refl tt o.pins refl
      go false = checked_kept c i sh s edit changed shown _ o

  turn_kept : (c : Choice) (i : ℕ) (sh : Shared) (s : ClientState) (edit : Edit) (changed : List Changed) (shown : Option Shown) → s.phase ≡ Waiting edit changed shown → ClientLocks sh i s (Waiting edit changed shown)
      → Kept i (event d b c i sh s (Waiting edit changed shown))
  turn_kept c i sh s edit changed shown p o = go (eqb sh.turn 0)
    where
      go : (t : Bool) → Kept i (cond t (record sh { turn = i }, record s { phase = Checking edit changed shown }) (sh, s))
      go true = record { mine = o.mine; order = o.order; holds = tt; pins = o.pins; turn = eq-eqb i i refl }
      go false = subst (ClientLocks sh i s) (sym p) o

  -- the first of these locks is given back
  unset_mine : (i n : ℕ) (locks held : List ℕ) → 0 < i → has held n ≡ false → ((m : ℕ) → eqb (get_or locks m 0) i ≡ has (n ∷ held) m) → (m : ℕ) → eqb (get_or (set locks n 0) m 0) i ≡ has held m
  unset_mine i n locks held pos out mine m =
      elim (cases_eq m n) [
        | inl e ↦ subst (λ x. eqb (get_or (set locks n 0) x 0) i ≡ has held x) (sym e) (gone (eq_or_short n locks))
        | inr k ↦ rw (get_or-set_other locks n m 0 0 k) (mine m ∙ ap (λ t. t || has held m) (ne_eqb n m (λ e. k (sym e))))
      ]
    where
      eq_or_short : (n : ℕ) (locks : List ℕ) → get_or (set locks n 0) n 0 ≡ 0
      eq_or_short zero [] = refl
      eq_or_short (suc n) [] = refl
      eq_or_short zero (x ∷ xs) = refl
      eq_or_short (suc n) (x ∷ xs) = eq_or_short n xs

      gone : get_or (set locks n 0) n 0 ≡ 0 → eqb (get_or (set locks n 0) n 0) i ≡ has held n
      gone q = rw q (ne_eqb 0 i (λ e. omega arith) ∙ sym out)

  give_kept : (i : ℕ) (sh : Shared) (s : ClientState) (a : After) (hs : List ℕ) → 0 < i → hs ≡ s.held → ClientLocks sh i s (Releasing a) → Kept i (give_back sh s a hs)
  give_kept i sh s (Answer r) [] pos q o = calm i sh s (Releasing (Answer r)) o _ refl (sym q) refl refl
  give_kept i sh s (Restart edit) [] pos q o = calm i sh s (Releasing (Restart edit)) o _ refl (sym q) refl refl
  give_kept i sh s a (n ∷ ns) pos q o = rest a ns o (subst Descends (sym q) o.order) (λ m. o.mine m ∙ ap (λ xs. has xs m) (sym q))
    where
      rest : (a : After) (ns : List ℕ) → ClientLocks sh i s (Releasing a) → Descends (n ∷ ns) → ((m : ℕ) → eqb (get_or sh.locks m 0) i ≡ has (n ∷ ns) m) → Kept i (give_back sh s a (n ∷ ns))
      rest (Answer r) [] o once mine = record { mine = unset_mine i n sh.locks [] pos refl mine; order = tt; holds = refl; pins = refl; turn = o.turn }
      rest (Restart edit) [] o once mine = record { mine = unset_mine i n sh.locks [] pos refl mine; order = tt; holds = refl; pins = refl; turn = o.turn }
      rest a (m ∷ ms) o once mine = record { mine = unset_mine i n sh.locks (m ∷ ms) pos (below_has n (m ∷ ms) once.0) mine; order = once.1; holds = tt; pins = inr refl; turn = o.turn }

  -- a client's own event keeps its locks, pins and turn
  pub own_kept : (c : Choice) (i : ℕ) (sh : Shared) (s : ClientState) (p : Phase) → s.phase ≡ p → 0 < i → length sh.locks ≡ 64 → ClientLocks sh i s p → Kept i (event d b c i sh s p)
  own_kept c i sh s Ready q pos len o = take_kept c i sh s s.lines q (idle i sh s Ready o o.holds o.pins refl)
  own_kept c i sh s (Again edit) q pos len o = look_kept c i sh s edit (idle i sh s (Again edit) o o.holds o.pins refl)
  own_kept c i sh s (Locking edit n ns) q pos len o = lock_kept c i sh s edit n ns q pos len o
  own_kept c i sh s (Pinning edit) q pos len o = pin_kept i sh s edit _ _ o
  own_kept c i sh s (Planning edit) q pos len o = plan_kept c i sh s edit o
  own_kept c i sh s (Waiting edit changed shown) q pos len o = turn_kept c i sh s edit changed shown q o
  own_kept c i sh s (Checking edit changed shown) q pos len o = check_kept c i sh s edit changed shown o
  own_kept c i sh s (Committing edit shown e) q pos len o = record { mine = o.mine; order = o.order; holds = tt; pins = o.pins; turn = o.turn }
  own_kept c i sh s (Yielding r) q pos len o = record { mine = o.mine; order = o.order; holds = tt; pins = inl o.pins; turn = ne_eqb 0 i (λ e. omega arith) }
  own_kept c i sh s (Releasing a) q pos len o = give_kept i sh s a s.held pos refl o
  own_kept c i sh s (Replying r) q pos len o = go c.write_fails
    where
      go : (t : Bool) → ClientLocks sh i (record s { replies = r ∷ s.replies; phase = cond t Ended Ready }) (cond t Ended Ready)
      go true = record { mine = o.mine; order = o.order; holds = o.holds; pins = o.pins; turn = o.turn }
      go false = record { mine = o.mine; order = o.order; holds = o.holds; pins = o.pins; turn = o.turn }
  own_kept c i sh s Ended q pos len o = subst (ClientLocks sh i s) (sym q) o
