-- What a client's event leaves of the locks, the pins and the turn of the others.
use Rattle.std.proofs.Common.{◌≡◌, ◌≢◌, ℕ, zero, suc, ◌<◌, ◌≤◌, Bool, true, false, cond, eqb, List, [], ◌∷◌, get_or, set, refl, sym, ◌∙◌, ap, subst, inl, inr, ◌⊎◌, arith, get_or-set_other, eq-eqb}
use Rattle.std.proofs.lemmas.Bool.{eqb-true, ne_eqb, cases_eq}
use Rattle.std.proofs.lemmas.List.{length-set}
use Rattle.op_model.specs.declared.base.Dataset.{Dataset}
use Rattle.op_model.specs.declared.base.Base.{Base}
use Rattle.graph_model.specs.Lists.{has}
use Rattle.session_machine.specs.Machine.{Phase, Ready, Again, Locking, Pinning, Planning, Waiting, Checking, Committing, Yielding, Releasing, Replying, Ended, ClientState, Shared, Choice, locking, give_back, event}
use Rattle.session_machine.specs.Invariant.{ClientLocks, SharedLocks}

-- What another client's event leaves.

-- the locks and the turn of every client but i are as they were
pub record LeavesLocks (i : ℕ) (old new : Shared) : Type 0 where
  pub locks : (j n : ℕ) → j ≢ i → 0 < j → eqb (get_or new.locks n 0) j ≡ eqb (get_or old.locks n 0) j
  pub turn : (j : ℕ) → j ≢ i → 0 < j → eqb new.turn j ≡ eqb old.turn j

leaves_same : (i : ℕ) (sh : Shared) → LeavesLocks i sh sh
leaves_same i sh = record { locks = λ j n k p. refl; turn = λ j k p. refl }

-- a lock of i or a free one becomes i's or free
leaves_set : (i n x : ℕ) (sh : Shared) → (x ≡ 0) ⊎ (x ≡ i) → (get_or sh.locks n 0 ≡ 0) ⊎ (get_or sh.locks n 0 ≡ i) → LeavesLocks i sh (record sh { locks = set sh.locks n x })
leaves_set i n x sh new old = record { locks = each; turn = λ j k p. refl }
  where
    not_ours : (j y : ℕ) → j ≢ i → 0 < j → (y ≡ 0) ⊎ (y ≡ i) → eqb y j ≡ false
    not_ours j y k p (inl e) = ne_eqb y j (λ q. omega arith)
    not_ours j y k p (inr e) = ne_eqb y j (λ q. k (sym q ∙ e))

    no_memory : (m : ℕ) (xs : List ℕ) → (get_or (set xs m x) m 0 ≡ x) ⊎ (get_or (set xs m x) m 0 ≡ 0)
    no_memory zero [] = inr refl
    no_memory (suc m) [] = inr refl
    no_memory zero (y ∷ ys) = inl refl
    no_memory (suc m) (y ∷ ys) = no_memory m ys

    now : (get_or (set sh.locks n x) n 0 ≡ 0) ⊎ (get_or (set sh.locks n x) n 0 ≡ i)
    now = elim (no_memory n sh.locks) [ inl e ↦ elim new [ inl q ↦ inl (e ∙ q) | inr q ↦ inr (e ∙ q) ] | inr e ↦ inl e ]

    each : (j m : ℕ) → j ≢ i → 0 < j → eqb (get_or (set sh.locks n x) m 0) j ≡ eqb (get_or sh.locks m 0) j
    each j m k p =
        elim (cases_eq m n) [
          | inl e ↦ subst (λ z. eqb (get_or (set sh.locks n x) z 0) j ≡ eqb (get_or sh.locks z 0) j) (sym e) (not_ours j _ k p now ∙ sym (not_ours j _ k p old))
          | inr f ↦ rw (get_or-set_other sh.locks n m x 0 f) refl
        ]

leaves_turn : (i x : ℕ) (sh : Shared) → (x ≡ 0) ⊎ (x ≡ i) → (sh.turn ≡ 0) ⊎ (sh.turn ≡ i) → LeavesLocks i sh (record sh { turn = x })
leaves_turn i x sh new old = record { locks = λ j n k p. refl; turn = λ j k p. not_ours j x k p new ∙ sym (not_ours j sh.turn k p old) }
  where
    not_ours : (j y : ℕ) → j ≢ i → 0 < j → (y ≡ 0) ⊎ (y ≡ i) → eqb y j ≡ false
    not_ours j y k p (inl e) = ne_eqb y j (λ q. omega arith)
    not_ours j y k p (inr e) = ne_eqb y j (λ q. k (sym q ∙ e))

-- and they are held by no other number than before, i or 0
module _ (d : Dataset) (b : Base) where
  pub leaves : (c : Choice) (i : ℕ) (sh : Shared) (s : ClientState) (p : Phase) → ClientLocks sh i s p → LeavesLocks i sh (event d b c i sh s p).0
  leaves c i sh s Ready o = leaves_same i sh
  leaves c i sh s (Again edit) o = leaves_same i sh
  leaves c i sh s (Locking edit n ns) o = go (eqb (get_or sh.locks n 0) 0) refl
    where
      go : (t : Bool) → eqb (get_or sh.locks n 0) 0 ≡ t
          → LeavesLocks i sh (cond {A = Shared × ClientState} t (record sh { locks = set sh.locks n i }, record s { held = n ∷ s.held; phase = locking edit ns }) (sh, s)).0
      go true e = leaves_set i n i sh (inr refl) (inl (eqb-true _ 0 e))
      go false e = leaves_same i sh
  leaves c i sh s (Pinning edit) o = leaves_same i sh
  leaves c i sh s (Planning edit) o = leaves_same i sh
  leaves c i sh s (Waiting edit changed shown) o = go (eqb sh.turn 0) refl
    where
      go : (t : Bool) → eqb sh.turn 0 ≡ t → LeavesLocks i sh (cond {A = Shared × ClientState} t (record sh { turn = i }, record s { phase = Checking edit changed shown }) (sh, s)).0
      go true e = leaves_turn i i sh (inr refl) (inl (eqb-true _ 0 e))
      go false e = leaves_same i sh
  leaves c i sh s (Checking edit changed shown) o = leaves_same i sh
  leaves c i sh s (Committing edit shown e) o = record { locks = λ j n k p. refl; turn = λ j k p. refl }
  leaves c i sh s (Yielding r) o = leaves_turn i 0 sh (inl refl) (inr (eqb-true _ i o.turn))
  leaves c i sh s (Releasing a) o = go s.held refl
    where
      go : (hs : List ℕ) → hs ≡ s.held → LeavesLocks i sh (give_back sh s a hs).0
      go [] q = leaves_same i sh
      go (n ∷ ns) q = leaves_set i n 0 sh (inl refl) (inr (eqb-true _ i (o.mine n ∙ (ap (λ xs. has xs n) (sym q) ∙ rw (eq-eqb n n refl) refl))))
  leaves c i sh s (Replying r) o = leaves_same i sh
  leaves c i sh s Ended o = leaves_same i sh

  pub others_kept : (i j : ℕ) (old new : Shared) (s : ClientState) (p : Phase) → j ≢ i → 0 < j → LeavesLocks i old new → ClientLocks old j s p → ClientLocks new j s p
  others_kept i j old new s p k pos l o =
      record { mine = λ n. l.locks j n k pos ∙ o.mine n; order = o.order; holds = o.holds; pins = o.pins; turn = l.turn j k pos ∙ o.turn }

  set_holders : (clients n x : ℕ) (locks : List ℕ) → x ≤ clients → ((m : ℕ) → get_or locks m 0 ≤ clients) → (m : ℕ) → get_or (set locks n x) m 0 ≤ clients
  set_holders clients n x [] l a m = omega arith
  set_holders clients zero x (y ∷ ys) l a zero = l
  set_holders clients zero x (y ∷ ys) l a (suc m) = a (suc m)
  set_holders clients (suc n) x (y ∷ ys) l a zero = a zero
  set_holders clients (suc n) x (y ∷ ys) l a (suc m) = set_holders clients n x ys l (λ k. a (suc k)) m

  pub shared_kept : (c : Choice) (clients i : ℕ) (sh : Shared) (s : ClientState) (p : Phase) → i ≤ clients → SharedLocks clients sh → SharedLocks clients (event d b c i sh s p).0
  shared_kept c clients i sh s Ready l o = o
  shared_kept c clients i sh s (Again edit) l o = o
  shared_kept c clients i sh s (Locking edit n ns) l o = go (eqb (get_or sh.locks n 0) 0)
    where
      go : (t : Bool) → SharedLocks clients (cond {A = Shared × ClientState} t (record sh { locks = set sh.locks n i }, record s { held = n ∷ s.held; phase = locking edit ns }) (sh, s)).0
      go true = record { locks = length-set sh.locks n i ∙ o.locks; holders = set_holders clients n i sh.locks l o.holders; turn = o.turn }
      go false = o
  shared_kept c clients i sh s (Pinning edit) l o = o
  shared_kept c clients i sh s (Planning edit) l o = o
  shared_kept c clients i sh s (Waiting edit changed shown) l o = go (eqb sh.turn 0)
    where
      go : (t : Bool) → SharedLocks clients (cond {A = Shared × ClientState} t (record sh { turn = i }, record s { phase = Checking edit changed shown }) (sh, s)).0
      go true = record { locks = o.locks; holders = o.holders; turn = l }
      go false = o
  shared_kept c clients i sh s (Checking edit changed shown) l o = o
  shared_kept c clients i sh s (Committing edit shown e) l o = record { locks = o.locks; holders = o.holders; turn = o.turn }
  shared_kept c clients i sh s (Yielding r) l o = record { locks = o.locks; holders = o.holders; turn = omega arith }
  shared_kept c clients i sh s (Releasing a) l o = go s.held
    where
      go : (hs : List ℕ) → SharedLocks clients (give_back sh s a hs).0
      go [] = o
      go (n ∷ ns) = record { locks = length-set sh.locks n 0 ∙ o.locks; holders = set_holders clients n 0 sh.locks (omega arith) o.holders; turn = o.turn }
  shared_kept c clients i sh s (Replying r) l o = o
  shared_kept c clients i sh s Ended l o = o
