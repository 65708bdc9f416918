-- What runs of the core have written.
use Rattle.std.proofs.Common.{◌≡◌, ◌≢◌, ℕ, zero, suc, pred, Bool, true, false, cond, List, [], ◌∷◌, length, map, Option, Some, None, refl, sym, ◌∙◌, ap, subst, inl, inr, arith}
use Rattle.std.specs.Prelude.{slice_get, slice_set}
use Rattle.std.specs.List.{AllByRecursion}
use Rattle.std.proofs.lemmas.Bool.{false≢true}
use Rattle.std.proofs.lemmas.List.{length-set}
use Rattle.pcg_base.specs.States.{SinkState}
use Rattle.pcg_base.specs.Causes.{Rose}
use Rattle.pcg_base.specs.declared.clock.Ticks.{Ticks}
use Rattle.op_model.specs.declared.base.Dataset.{Dataset}
use Rattle.op_model.specs.declared.base.Base.{Base}
use Rattle.op_model.specs.declared.reply.Reply.{Reply}
use Rattle.op_model.specs.Transcript.{Line}
use Rattle.session_machine.specs.Machine.{Phase, Ready, Again, Locking, Pinning, Planning, Waiting, Checking, Committing, Yielding, Releasing, Replying, Ended, ClientState, Shared, State, Choice, event, is_able, new_client, step_client}
use Rattle.session_machine.proofs.StepLemmas.{get_set}
use Rattle.core_steps.specs.CoreSteps.{Puts}
use Rattle.core_steps.specs.Runs.{Finishes, Runs, Turns}
use Rattle.client_answers.specs.declared.answers.ClientAnswers.{ClientAnswers}
use Rattle.client_answers.specs.declared.answers.AllAnswers.{AllAnswers}
use Rattle.client_answers.specs.Answers.{AtClient, IsBroken, IsMissed, IsPut, IsWritten, fault_sum}
use Rattle.client_answers.specs.Written.{AllAnswered, Answered, IsFresh}
use Rattle.client_answers.proofs.EventReplies.{event_drained, event_same}
use Rattle.client_answers.proofs.Sinks.{fresh, kept, missed, put}

module _ {K : Type 0} where
  -- an item that was set
  set_here : (xs : List (ClientAnswers K)) (k : ℕ) (x y : ClientAnswers K) → slice_get xs k ≡ Some x → slice_get (slice_set xs k y) k ≡ Some y
  set_here [] k x y e = cc
  set_here (z ∷ xs) zero x y e = refl
  set_here (z ∷ xs) (suc k) x y e = set_here xs k x y e

  -- and another one
  set_there : (xs : List (ClientAnswers K)) (k j : ℕ) (y : ClientAnswers K) → j ≢ k → slice_get (slice_set xs k y) j ≡ slice_get xs j
  set_there [] k j y n = refl
  set_there (z ∷ xs) zero zero y n = absurd (n refl)
  set_there (z ∷ xs) zero (suc j) y n = refl
  set_there (z ∷ xs) (suc k) zero y n = refl
  set_there (z ∷ xs) (suc k) (suc j) y n = set_there xs k j y (λ e. n (ap suc e))

-- a client that has ended doesn't go on
unbroken : (sh : Shared) (s : ClientState) (t : Bool) → (t ≡ true → s.phase ≡ Ended) → is_able sh s s.phase ≡ true → t ≡ false
unbroken sh s false e a = refl
unbroken sh s true e a = absurd (false≢true (sym (ap (is_able sh s) (e refl)) ∙ a))

module _ {K : Type 0} (state : K → SinkState) (d : Dataset) (b : Base) (ticks : Ticks) (old : List (ClientAnswers K)) where
  -- what is answered of one client behind an event of it, and that the others' answers stayed
  pub record Evented (x : ClientAnswers K) (a a2 : AllAnswers K) (k : ℕ) (s : ClientState) : Type 0 where
    pub now : ClientAnswers K
    pub here : slice_get a2.list.items k ≡ Some now
    pub others : (j : ℕ) → j ≢ k → slice_get a2.list.items j ≡ slice_get a.list.items j
    pub count : length a2.list.items ≡ length a.list.items
    pub answered : Answered state x now s

  module _ (x y : ClientAnswers K) (rose : Type 0) (a a2 : AllAnswers K) (c : Choice) (n : ℕ) (sh : Shared) (s : ClientState) (at : slice_get a.list.items (pred n) ≡ Some y) (was : Answered state x y s) (f : y.failed ≡ false) where
    quiet : (p : Phase) → ((r : Reply) → p ≡ Replying r → ⊥) → a2 ≡ a → Evented x a a2 (pred n) (event d b c (suc (pred n)) sh s p).1
    quiet p other e =
        record {
          now = y;
          here = subst (λ m. slice_get m.list.items (pred n) ≡ Some y) (sym e) at;
          others = λ j m. ap (λ m. slice_get m.list.items j) e;
          count = ap (λ m. length m.list.items) e;
          answered = kept state x y s (event d b c (suc (pred n)) sh s p).1 was (event_same d b c (suc (pred n)) sh s p other) (event_drained d b c (suc (pred n)) sh s p other (was.drained f)) f;
        }

    replied : (r : Reply) (t : Bool) → Puts (IsPut state) (IsMissed state) rose a a2 n (Replying r) t
        → Evented x a a2 (pred n) (record s { replies = r ∷ s.replies; phase = cond t Ended Ready })
    replied r true w = go (slice_get a.list.items (pred n)) at w.0
      where
        go : (m : Option (ClientAnswers K)) → m ≡ Some y → AtClient (IsBroken state) a n r a2 m → Evented x a a2 (pred n) (record s { replies = r ∷ s.replies; phase = Ended })
        go None e w = cc
        go (Some q) e w =
            let i : q ≡ y = cc in
            record {
              now = w.0;
              here = ap (λ l. slice_get l (pred n)) w.2 ∙ set_here a.list.items (pred n) y w.0 at;
              others = λ j m. ap (λ l. slice_get l j) w.2 ∙ set_there a.list.items (pred n) j w.0 m;
              count = ap (λ l. length l) w.2 ∙ length-set a.list.items (pred n) w.0;
              answered = missed state x y w.0 s (record s { replies = r ∷ s.replies; phase = Ended }) r was f (subst (λ m. IsBroken state m r w.0) i w.1) refl refl;
            }
    replied r false w = go (slice_get a.list.items (pred n)) at w
      where
        go : (m : Option (ClientAnswers K)) → m ≡ Some y → AtClient (IsWritten state) a n r a2 m → Evented x a a2 (pred n) (record s { replies = r ∷ s.replies; phase = Ready })
        go None e w = cc
        go (Some q) e w =
            let i : q ≡ y = cc in
            record {
              now = w.0;
              here = ap (λ l. slice_get l (pred n)) w.2 ∙ set_here a.list.items (pred n) y w.0 at;
              others = λ j m. ap (λ l. slice_get l j) w.2 ∙ set_there a.list.items (pred n) j w.0 m;
              count = ap (λ l. length l) w.2 ∙ length-set a.list.items (pred n) w.0;
              answered = put state x y w.0 s (record s { replies = r ∷ s.replies; phase = Ready }) r was f (subst (λ m. IsWritten state m r w.0) i w.1) refl refl;
            }

    -- by the client's phase
    by_phase : (p : Phase) → Puts (IsPut state) (IsMissed state) rose a a2 n p c.write_fails → Evented x a a2 (pred n) (event d b c (suc (pred n)) sh s p).1
    by_phase (Replying r) w = replied r c.write_fails w
    by_phase Ready w = quiet Ready (λ r q. cc) w
    by_phase (Again edit) w = quiet (Again edit) (λ r q. cc) w
    by_phase (Locking edit m ms) w = quiet (Locking edit m ms) (λ r q. cc) w
    by_phase (Pinning edit) w = quiet (Pinning edit) (λ r q. cc) w
    by_phase (Planning edit) w = quiet (Planning edit) (λ r q. cc) w
    by_phase (Waiting edit changed shown) w = quiet (Waiting edit changed shown) (λ r q. cc) w
    by_phase (Checking edit changed shown) w = quiet (Checking edit changed shown) (λ r q. cc) w
    by_phase (Committing edit shown e) w = quiet (Committing edit shown e) (λ r q. cc) w
    by_phase (Yielding r) w = quiet (Yielding r) (λ r q. cc) w
    by_phase (Releasing m) w = quiet (Releasing m) (λ r q. cc) w
    by_phase Ended w = quiet Ended (λ r q. cc) w

  abbrev Count : AllAnswers K → ℕ
  Count a = fault_sum state a.list.items

  -- what is answered of all clients, and that there are as many answers as at first
  abbrev pub Answers : AllAnswers K → State → Type 0
  Answers a w = AllAnswered state old a.list.items w.clients × (length a.list.items ≡ length old)

  stays : (w v : State) (a a2 : AllAnswers K) → v ≡ w → a2 ≡ a → Answers a w → Answers a2 v
  stays w v a a2 e f h = subst (Answers a2) (sym e) (subst (λ x. Answers x w) (sym f) h)

  turn : (n : ℕ) (w v : State) (a a2 : AllAnswers K) → Answers a w
      → Turns Count (IsPut state) (IsMissed state) d b ticks n w a v a2 → Answers a2 v
  turn n w v a a2 h t =
      elim t.2 [
        | inl p ↦ subst (Answers a2) (sym (p.4 ∙ ap (step_client d b p.1 (pred n) w) t.1)) (stepped t.0 t.1 p.0 p.1 p.5)
        | inr p ↦ stays w v a a2 p.1 p.2 h
      ]
    where
      stepped : (s : ClientState) → slice_get w.clients (pred n) ≡ Some s → is_able w.shared s s.phase ≡ true → (c : Choice)
          → Puts (IsPut state) (IsMissed state) (Rose (Count a) (Count a2)) a a2 n s.phase c.write_fails
          → Answers a2 (step_client d b c (pred n) w (Some s))
      stepped s e able c p =
          let m = h.0 (pred n) s e in
          let one = by_phase m.0 m.1 (Rose (Count a) (Count a2)) a a2 c n w.shared s m.3 m.4 (unbroken w.shared s m.1.failed m.4.ended able) s.phase p in (
            λ j t q. elim (get_set d b w.clients (pred n) (event d b c (suc (pred n)) w.shared s s.phase).1 j t q) [
              | inl i ↦ subst (λ k. (x : ClientAnswers K) × (y : ClientAnswers K) × (slice_get old k ≡ Some x) × (slice_get a2.list.items k ≡ Some y) × Answered state x y t) (sym i.0)
                  (m.0, one.now, m.2, one.here, subst (Answered state m.0 one.now) (sym i.1) one.answered)
              | inr i ↦ (let o = h.0 j t i.1 in (o.0, o.1, o.2, one.others j i.0 ∙ o.3, o.4))
            ],
            one.count ∙ h.1,
          )

  pub runs : (ns : List ℕ) (w v : State) (a a2 : AllAnswers K) → Answers a w → Runs Count (IsPut state) (IsMissed state) d b ticks ns w a v a2 → Answers a2 v
  runs [] w v a a2 h r = stays w v a a2 r.0 r.1 h
  runs (n ∷ ns) w v a a2 h r = runs ns r.0 v r.1 a2 (turn n w r.0 a r.1 h r.2) r.3

  pub finishes : (ns : List ℕ) (w v : State) (a a2 : AllAnswers K) → Answers a w → Finishes Count (IsPut state) (IsMissed state) d b ticks ns w a v a2 → Answers a2 v
  finishes [] w v a a2 h r = stays w v a a2 r.0 r.1 h
  finishes (n ∷ ns) w v a a2 h r = finishes ns r.1 v r.2 a2 (turn n w r.1 a r.2 h r.3) r.4

module _ {K : Type 0} (state : K → SinkState) where
  -- before the first step
  pub started : (xs : List (ClientAnswers K)) (ls : List (List Line × Bool)) → length xs ≡ length (map new_client ls) → AllByRecursion IsFresh xs → AllAnswered state xs xs (map new_client ls)
  started xs [] e f k s q = cc
  started [] (l ∷ ls) e f k s q = absurd (omega (arith, e))
  started (x ∷ xs) (l ∷ ls) e f zero s q = let m : new_client l ≡ s = cc in (x, x, refl, refl, fresh state x s f.0 (sym (ap (λ t. t.replies) m)) (sym (ap (λ t. t.phase) m)))
  started (x ∷ xs) (l ∷ ls) e f (suc k) s q = started xs ls (omega (arith, e)) f.1 k s q
