-- A client that has ended, and whose replies were all written, has one for each of its lines.
use Rattle.std.proofs.Common.{◌≡◌, ℕ, suc, Bool, true, false, ◌&&◌, not, List, [], ◌∷◌, ◌++◌, length, reverse, Option, Some, refl, sym, ◌∙◌, ap, arith}
use Rattle.std.specs.Prelude.{slice_get, ◌==◌}
use Rattle.std.proofs.lemmas.Bool.{eqb-true, false≢true}
use Rattle.std.proofs.lemmas.List.{append-nil, length-reverse}
use Rattle.pcg_base.specs.States.{SinkState}
use Rattle.op_model.specs.declared.base.Dataset.{Dataset}
use Rattle.op_model.specs.declared.base.Base.{Base}
use Rattle.op_model.specs.declared.entry.Entry.{Entry}
use Rattle.op_model.specs.declared.reply.Reply.{Reply}
use Rattle.op_model.specs.Reversed.{ReversedTranscript}
use Rattle.op_model.specs.Transcript.{Line}
use Rattle.session_machine.specs.Machine.{Phase, Ready, Again, Locking, Pinning, Planning, Waiting, Checking, Committing, Yielding, Releasing, Replying, Ended, ClientState, State, is_ended}
use Rattle.session_machine.specs.Invariant.{LogAgrees, RepliedTo, RepliesFor}
use Rattle.core_steps.specs.Plays.{Played}
use Rattle.client_answers.specs.declared.answers.ClientAnswers.{ClientAnswers}
use Rattle.client_answers.specs.Written.{AllAnswered}

first_of : (s t : Bool) → (s && t) ≡ true → s ≡ true
first_of true t e = refl
first_of false t e = absurd (false≢true e)

-- no line is left
no_line : (lines : List Line) (faulty : Bool) → (length lines == 0 && not faulty) ≡ true → lines ≡ []
no_line [] faulty e = refl
no_line (l ∷ lines) faulty e = let n = eqb-true (length (l ∷ lines)) 0 (first_of (length (l ∷ lines) == 0) (not faulty) e) in absurd (omega (arith, n))

module _ (d : Dataset) (b : Base) where
  as_many : (log : List Entry) (i : ℕ) (asked : List Line) (replies : List Reply) (own : List Entry) (last : ℕ) → ReversedTranscript d b log i asked replies own last → length replies ≡ length asked
  as_many log i [] [] own last t = refl
  as_many log i [] (r ∷ replies) own last t = absurd t
  as_many log i (a ∷ asked) [] own last t = absurd t
  as_many log i (a ∷ asked) (r ∷ replies) own last t = ap suc (as_many log i asked replies t.1 t.0 t.3)

  -- a client that has ended has no line left, and each that it took has its reply
  abbrev Through : List Entry → ℕ → ClientState → Type 0
  Through log i s = (s.lines ≡ []) × RepliedTo d b log i s.asked s.replies s.own s.seen

  through : (log : List Entry) (i : ℕ) (s : ClientState) (p : Phase) → is_ended s p ≡ true → (p ≡ Ended → s.lines ≡ []) → RepliesFor d b log i s p → Through log i s
  through log i s Ready e n r = (no_line s.lines s.faulty e, r)
  through log i s Ended e n r = (n refl, r)
  through log i s (Again edit) e n r = absurd (false≢true e)
  through log i s (Locking edit m ms) e n r = absurd (false≢true e)
  through log i s (Pinning edit) e n r = absurd (false≢true e)
  through log i s (Planning edit) e n r = absurd (false≢true e)
  through log i s (Waiting edit changed shown) e n r = absurd (false≢true e)
  through log i s (Checking edit changed shown) e n r = absurd (false≢true e)
  through log i s (Committing edit shown x) e n r = absurd (false≢true e)
  through log i s (Yielding q) e n r = absurd (false≢true e)
  through log i s (Releasing a) e n r = absurd (false≢true e)
  through log i s (Replying q) e n r = absurd (false≢true e)

  all_replied : (log : List Entry) (i : ℕ) (s : ClientState) (all : List Line) → reverse s.asked ++ s.lines ≡ all → Through log i s → length s.replies ≡ length all
  all_replied log i s all e t =
      let whole : reverse s.asked ≡ all = sym (append-nil (reverse s.asked)) ∙ (ap (λ x. reverse s.asked ++ x) (sym t.0) ∙ e) in
      as_many log i s.asked s.replies s.own t.1.0 t.1.2 ∙ (sym (length-reverse s.asked) ∙ ap length whole)

  pub each_replied : {K : Type 0} (state : K → SinkState) (old new : List (ClientAnswers K)) (at : ℕ) (clients : List (List Line × Bool)) (v : State)
      → Played d b at clients v → LogAgrees d b v → AllAnswered state old new v.clients
      → (k : ℕ) (s : ClientState) (y : ClientAnswers K) (l : List Line × Bool) → slice_get v.clients k ≡ Some s → slice_get new k ≡ Some y → slice_get clients k ≡ Some l
      → y.failed ≡ false → length s.replies ≡ length l.0
  each_replied state old new at clients v p o a k s y l c n q f =
      let m = a k s c in
      let i : m.1 ≡ y = cc in
      let z = p.lines k s c in
      let j : z.0 ≡ l = cc in
      let t = through v.shared.log (suc k) s s.phase (p.ended k s c) (m.4.drained (ap (λ x. x.failed) i ∙ f)) (o.clients k s c).replied in
      all_replied v.shared.log (suc k) s l.0 (z.2 ∙ ap (λ x. x.0) j) t
