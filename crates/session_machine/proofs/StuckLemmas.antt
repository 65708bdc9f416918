-- While some client hasn't ended, some client may go on: one that waits for a lock holds only lesser ones, and the turn's holder waits for nobody.
use Rattle.std.proofs.Common.{◌≡◌, ◌≢◌, ℕ, zero, suc, ◌+◌, ◌<◌, ◌≤◌, Bool, true, false, cond, not, ◌&&◌, eqb, List, [], ◌∷◌, length, get_or, refl, sym, ◌∙◌, subst, arith, Some, eq-eqb}
use Rattle.std.specs.Prelude.{slice_get}
use Rattle.std.proofs.lemmas.Bool.{false≢true, eqb-true, eqb-false}
use Rattle.graph_model.specs.Lists.{has}
use Rattle.graph_model.proofs.ListLemmas.{has_none}
use Rattle.op_model.proofs.LegalLemmas.{all_has}
use Rattle.session_machine.specs.Machine.{Phase, Ready, Again, Locking, Pinning, Planning, Waiting, Checking, Committing, Yielding, Releasing, Replying, Ended, ClientState, Shared, State, is_able, is_ended}
use Rattle.session_machine.specs.Invariant.{has_turn, ClientLocks, LocksAgree}
use Rattle.session_machine.specs.Laws.{SomeIsAble}

get_within : {X : Type 0} (xs : List X) (k : ℕ) → k < length xs → (x : X) × (slice_get xs k ≡ Some x)
get_within [] k l = absurd (omega arith)
get_within (x ∷ xs) zero l = (x, refl)
get_within (x ∷ xs) (suc k) l = get_within xs k (omega arith)

turn_able : (sh : Shared) (s : ClientState) (p : Phase) → has_turn p ≡ true → is_able sh s p ≡ true
turn_able sh s Ready h = absurd (false≢true h)
turn_able sh s (Again edit) h = refl
turn_able sh s (Locking edit n ns) h = absurd (false≢true h)
turn_able sh s (Pinning edit) h = refl
turn_able sh s (Planning edit) h = refl
turn_able sh s (Waiting edit changed shown) h = absurd (false≢true h)
turn_able sh s (Checking edit changed shown) h = refl
turn_able sh s (Committing edit shown e) h = refl
turn_able sh s (Yielding r) h = refl
turn_able sh s (Releasing a) h = refl
turn_able sh s (Replying r) h = refl
turn_able sh s Ended h = absurd (false≢true h)

past_end : (xs : List ℕ) (n : ℕ) → length xs ≤ n → ◌≡◌ {A = ℕ} (get_or xs n 0) 0
past_end [] n l = refl
past_end (x ∷ xs) zero l = absurd (omega arith)
past_end (x ∷ xs) (suc n) l = past_end xs n (omega arith)

module _ (w : State) (o : LocksAgree w) where
  able : (k : ℕ) (s : ClientState) (p : Phase) → slice_get w.clients k ≡ Some s → s.phase ≡ p → is_able w.shared s p ≡ true → SomeIsAble w
  able k s p e q a = (k, s, e, subst (λ x. is_able w.shared s x ≡ true) (sym q) a)

  -- the client that has this number
  numbered : (x : ℕ) → x ≤ length w.clients → 0 < x → (k : ℕ) × (s : ClientState) × (x ≡ suc k) × (slice_get w.clients k ≡ Some s)
  numbered zero l p = absurd (omega arith)
  numbered (suc k) l p = let g = get_within w.clients k (omega arith) in (k, g.0, refl, g.1)

  turn_held : eqb w.shared.turn 0 ≡ false → SomeIsAble w
  turn_held h =
      let n : w.shared.turn ≢ 0 = eqb-false _ 0 h in
      let g = numbered w.shared.turn o.shared.turn (pos w.shared.turn n) in
      able g.0 g.1 g.1.phase g.3 refl (turn_able w.shared g.1 g.1.phase (sym (o.clients g.0 g.1 g.3).turn ∙ eq-eqb w.shared.turn (suc g.0) g.2))
    where
      pos : (x : ℕ) → x ≢ 0 → 0 < x
      pos zero n = absurd (n refl)
      pos (suc x) n = omega arith

  -- some client may go on, as one that waits for the turn shows
  waits : (k : ℕ) (s : ClientState) (p : Phase) → slice_get w.clients k ≡ Some s → s.phase ≡ p → is_able w.shared s p ≡ eqb w.shared.turn 0 → SomeIsAble w
  waits k s p e q a = go (eqb w.shared.turn 0) refl
    where
      go : (t : Bool) → eqb w.shared.turn 0 ≡ t → SomeIsAble w
      go true h = able k s p e q (a ∙ h)
      go false h = turn_held h

  -- the client that holds a lock that isn't free
  holder : (n : ℕ) → eqb (get_or w.shared.locks n 0) 0 ≡ false → (k : ℕ) × (s : ClientState) × (slice_get w.clients k ≡ Some s) × (has s.held n ≡ true)
  holder n h =
      let m : get_or w.shared.locks n 0 ≢ 0 = eqb-false _ 0 h in
      let g = numbered (get_or w.shared.locks n 0) (o.shared.holders n) (pos (get_or w.shared.locks n 0) m) in
      (g.0, g.1, g.3, sym ((o.clients g.0 g.1 g.3).mine n) ∙ eq-eqb (get_or w.shared.locks n 0) (suc g.0) g.2)
    where
      pos : (x : ℕ) → x ≢ 0 → 0 < x
      pos zero n = absurd (n refl)
      pos (suc x) n = omega arith

  -- a client that holds this lock, or another one further on, may go on
  reach : (fuel k : ℕ) (s : ClientState) (n : ℕ) → slice_get w.clients k ≡ Some s → has s.held n ≡ true → 64 ≤ n + fuel → SomeIsAble w
  reach zero k s n e h l =
      let z : get_or w.shared.locks n 0 ≡ 0 = past_end w.shared.locks n (omega (arith, o.shared.locks)) in
      let t : get_or w.shared.locks n 0 ≡ suc k = eqb-true _ (suc k) ((o.clients k s e).mine n ∙ h) in
      absurd (omega arith)
  reach (suc fuel) k s n e h l = go s.phase refl (o.clients k s e) (λ j t m. reach fuel j t m)
    where
      none : s.held ≡ [] → SomeIsAble w
      none q = has_none n (subst (λ xs. has xs n ≡ true) q h)

      go : (p : Phase) → s.phase ≡ p → ClientLocks w.shared (suc k) s p → ((j : ℕ) (t : ClientState) (m : ℕ) → slice_get w.clients j ≡ Some t → has t.held m ≡ true → 64 ≤ m + fuel → SomeIsAble w) → SomeIsAble w
      go Ready q u ih = none u.holds
      go (Again edit) q u ih = none u.holds
      go (Locking edit m ns) q u ih = free (eqb (get_or w.shared.locks m 0) 0) refl
        where
          free : (t : Bool) → eqb (get_or w.shared.locks m 0) 0 ≡ t → SomeIsAble w
          free true f = able k s (Locking edit m ns) e q f
          free false f =
              let g = holder m f in
              let below : n < m = all_has (λ x. x < m) s.held n u.holds.0 h in
              ih g.0 g.1 m g.2 g.3 (omega arith)
      go (Pinning edit) q u ih = able k s (Pinning edit) e q refl
      go (Planning edit) q u ih = able k s (Planning edit) e q refl
      go (Waiting edit changed shown) q u ih = waits k s (Waiting edit changed shown) e q refl
      go (Checking edit changed shown) q u ih = able k s (Checking edit changed shown) e q refl
      go (Committing edit shown x) q u ih = able k s (Committing edit shown x) e q refl
      go (Yielding r) q u ih = able k s (Yielding r) e q refl
      go (Releasing a) q u ih = able k s (Releasing a) e q refl
      go (Replying r) q u ih = none u.holds
      go Ended q u ih = none u.holds

  pub some_able : (k : ℕ) (s : ClientState) → slice_get w.clients k ≡ Some s → is_ended s s.phase ≡ false → SomeIsAble w
  some_able k s e h = go s.phase refl h
    where
      line : (x : Bool) → (x && not s.faulty) ≡ false → cond x s.faulty true ≡ true
      line true f = not-false s.faulty f
        where
          not-false : (t : Bool) → not t ≡ false → t ≡ true
          not-false true f = refl
          not-false false f = sym f
      line false f = refl

      go : (p : Phase) → s.phase ≡ p → is_ended s p ≡ false → SomeIsAble w
      go Ready q f = able k s Ready e q (line (eqb (length s.lines) 0) f)
      go (Again edit) q f = able k s (Again edit) e q refl
      go (Locking edit m ns) q f = free (eqb (get_or w.shared.locks m 0) 0) refl
        where
          free : (t : Bool) → eqb (get_or w.shared.locks m 0) 0 ≡ t → SomeIsAble w
          free true f = able k s (Locking edit m ns) e q f
          free false f = let g = holder m f in reach 64 g.0 g.1 m g.2 g.3 (omega arith)
      go (Pinning edit) q f = able k s (Pinning edit) e q refl
      go (Planning edit) q f = able k s (Planning edit) e q refl
      go (Waiting edit changed shown) q f = waits k s (Waiting edit changed shown) e q refl
      go (Checking edit changed shown) q f = able k s (Checking edit changed shown) e q refl
      go (Committing edit shown x) q f = able k s (Committing edit shown x) e q refl
      go (Yielding r) q f = able k s (Yielding r) e q refl
      go (Releasing a) q f = able k s (Releasing a) e q refl
      go (Replying r) q f = able k s (Replying r) e q refl
      go Ended q f = absurd (false≢true (sym f))
