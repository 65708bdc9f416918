-- A step of a client that may not go on changes nothing.
use Rattle.std.proofs.Common.{◌≡◌, ℕ, zero, suc, Bool, true, false, cond, eqb, List, [], ◌∷◌, length, refl, sym, ◌∙◌, ap, Some, arith}
use Rattle.std.specs.Prelude.{slice_get, slice_set}
use Rattle.std.proofs.lemmas.Bool.{false≢true, cond-false, ne_eqb}
use Rattle.op_model.specs.declared.base.Dataset.{Dataset}
use Rattle.op_model.specs.declared.base.Base.{Base}
use Rattle.op_model.specs.Transcript.{Line}
use Rattle.session_machine.specs.Machine.{Phase, Ready, Again, Locking, Pinning, Planning, Waiting, Checking, Committing, Yielding, Releasing, Replying, Ended, ClientState, Shared, State, Choice, locking, take_line, event, step_client, step, is_able}

set_same : {X : Type 0} (xs : List X) (k : ℕ) (x : X) → slice_get xs k ≡ Some x → slice_set xs k x ≡ xs
set_same [] k x q = refl
set_same (y ∷ ys) zero x q = let e : y ≡ x = cc in ap (λ z. z ∷ ys) (sym e)
set_same (y ∷ ys) (suc k) x q = ap (λ zs. y ∷ zs) (set_same ys k x q)

module _ (d : Dataset) (b : Base) where
  take_stays : (c : Choice) (sh : Shared) (s : ClientState) (ls : List Line) → cond (eqb (length ls) 0) s.faulty true ≡ false → take_line d b c sh s ls ≡ s
  take_stays c sh s [] a = go s.faulty a
    where
      go : (t : Bool) → t ≡ false → cond t (record s { phase = Ended }) s ≡ s
      go true e = absurd (false≢true (sym e))
      go false e = refl
  take_stays c sh s (l ∷ ls) a = absurd (false≢true (sym a ∙ cond-false (eqb (suc (length ls)) 0) s.faulty true (ne_eqb (suc (length ls)) 0 (λ e. omega arith))))

  event_stays : (c : Choice) (i : ℕ) (sh : Shared) (s : ClientState) (p : Phase) → is_able sh s p ≡ false → event d b c i sh s p ≡ (sh, s)
  event_stays c i sh s Ready a = ap (λ t. (sh, t)) (take_stays c sh s s.lines a)
  event_stays c i sh s (Again edit) a = absurd (false≢true (sym a))
  event_stays c i sh s (Locking edit n ns) a = ap (λ t. cond t (record sh { locks = slice_set sh.locks n i }, record s { held = n ∷ s.held; phase = locking edit ns }) (sh, s)) a
  event_stays c i sh s (Pinning edit) a = absurd (false≢true (sym a))
  event_stays c i sh s (Planning edit) a = absurd (false≢true (sym a))
  event_stays c i sh s (Waiting edit changed shown) a = ap (λ t. cond t (record sh { turn = i }, record s { phase = Checking edit changed shown }) (sh, s)) a
  event_stays c i sh s (Checking edit changed shown) a = absurd (false≢true (sym a))
  event_stays c i sh s (Committing edit shown e) a = absurd (false≢true (sym a))
  event_stays c i sh s (Yielding r) a = absurd (false≢true (sym a))
  event_stays c i sh s (Releasing x) a = absurd (false≢true (sym a))
  event_stays c i sh s (Replying r) a = absurd (false≢true (sym a))
  event_stays c i sh s Ended a = refl

  pub stays : (c : Choice) (k : ℕ) (w : State) (s : ClientState) → slice_get w.clients k ≡ Some s → is_able w.shared s s.phase ≡ false → step d b c k w ≡ w
  stays c k w s q a =
      ap (step_client d b c k w) q
      ∙ (ap (λ m. record { shared = m.0; clients = slice_set w.clients k m.1 }) (event_stays c (suc k) w.shared s s.phase a)
      ∙ ap (λ ss. record { shared = w.shared; clients = ss }) (set_same w.clients k s q))
