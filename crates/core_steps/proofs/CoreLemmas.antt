-- Steps of the core: the other clients stay what they are.
use Rattle.std.proofs.Common.{◌≡◌, ◌≢◌, ℕ, zero, suc, ◌<◌, Bool, true, false, cond, eqb, List, [], ◌∷◌, length, get_or, refl, sym, ◌∙◌, ap, subst, inl, inr, ◌⊎◌, arith, Some, ◌^◌}
use Rattle.std.specs.Prelude.{slice_get, slice_set}
use Rattle.std.proofs.lemmas.Bool.{false≢true, eqb-true, ne_eqb}
use Rattle.std.proofs.lemmas.List.{length-set}
use Rattle.std.proofs.lemmas.Option.{slice_get_within}
use Rattle.op_model.specs.declared.base.Dataset.{Dataset}
use Rattle.op_model.specs.declared.base.Base.{Base}
use Rattle.op_model.specs.declared.entry.Entry.{Entry}
use Rattle.op_model.specs.declared.reply.Reply.{Reply}
use Rattle.op_model.specs.Transcript.{Line}
use Rattle.session_machine.specs.Machine as machine
use Rattle.session_machine.specs.Invariant.{ClientLocks, has_turn}
use Rattle.session_machine.proofs.StepLemmas.{step_locked}
use Rattle.session_machine.proofs.RunLemmas.{step_log}
use Rattle.op_model.proofs.RetiresLemmas.{retires}
use Rattle.session_machine.proofs.FinishLemmas.{able_falls}
use Rattle.client_events.specs.declared.phases.Phase.{Phase}
use Rattle.client_events.specs.declared.phases.Phase.TheVariants as phase
use Rattle.client_events.specs.declared.clients.Client.{Client}
use Rattle.client_events.specs.declared.clients.Table.{Table}
use Rattle.client_events.specs.Phases.{phase_of}
use Rattle.client_events.specs.Events.{Drafted}
use Rattle.client_events.specs.Steps.{Outs, TableIs, act_named, writes_rows}
use Rattle.core_steps.specs.Ways.{lock_named}
use Rattle.client_events.specs.Acts.{ClientIs}
use Rattle.core_steps.specs.Places.{CoreIs, IsGood}
use Rattle.core_steps.specs.Stepping.{Placed, StepAt}
use Rattle.core_steps.specs.declared.stepping.Step.{Step}
use Rattle.core_steps.specs.declared.stepping.Step.TheVariants as step
use Rattle.core_steps.specs.CoreSteps.{Puts, StepIs, lock_waited}
use Rattle.client_events.proofs.StepLemmas.{is_commit, no_draft}

-- Lists of which one place is written.

pub get_set : {X : Type 0} (xs : List X) (k : ℕ) (t : X) (j : ℕ) (s : X) → slice_get (slice_set xs k t) j ≡ Some s → ((j ≡ k) × (s ≡ t)) ⊎ ((j ≢ k) × (slice_get xs j ≡ Some s))
get_set [] k t j s q = cc
get_set (x ∷ xs) zero t zero s q = inl (refl, cc)
get_set (x ∷ xs) zero t (suc j) s q = inr ((λ e. omega arith), q)
get_set (x ∷ xs) (suc k) t zero s q = inr ((λ e. omega arith), q)
get_set (x ∷ xs) (suc k) t (suc j) s q =
    elim (get_set xs k t j s q) [ inl p ↦ inl (ap suc p.0, p.1) | inr p ↦ inr ((λ e. p.0 (omega arith)), p.1) ]

get_same : {X : Type 0} (xs : List X) (k : ℕ) (t : X) → k < length xs → slice_get (slice_set xs k t) k ≡ Some t
get_same [] k t l = absurd (omega arith)
get_same (x ∷ xs) zero t l = refl
get_same (x ∷ xs) (suc k) t l = get_same xs k t (omega arith)

get_other : {X : Type 0} (xs : List X) (k j : ℕ) (t : X) → j ≢ k → slice_get (slice_set xs k t) j ≡ slice_get xs j
get_other [] k j t n = refl
get_other (x ∷ xs) zero zero t n = absurd (n refl)
get_other (x ∷ xs) zero (suc j) t n = refl
get_other (x ∷ xs) (suc k) zero t n = refl
get_other (x ∷ xs) (suc k) (suc j) t n = get_other xs k j t (λ e. n (ap suc e))

-- Only a client that has the turn has a draft, changes the records or the log.

commit_turn : (p : machine.Phase) → is_commit p ≡ true → has_turn p ≡ true
commit_turn (machine.Committing edit shown e) h = refl
commit_turn machine.Ready h = absurd (false≢true h)
commit_turn (machine.Again edit) h = absurd (false≢true h)
commit_turn (machine.Locking edit n ns) h = absurd (false≢true h)
commit_turn (machine.Pinning edit) h = absurd (false≢true h)
commit_turn (machine.Planning edit) h = absurd (false≢true h)
commit_turn (machine.Waiting edit changed shown) h = absurd (false≢true h)
commit_turn (machine.Checking edit changed shown) h = absurd (false≢true h)
commit_turn (machine.Yielding r) h = absurd (false≢true h)
commit_turn (machine.Releasing a) h = absurd (false≢true h)
commit_turn (machine.Replying r) h = absurd (false≢true h)
commit_turn machine.Ended h = absurd (false≢true h)

writes_turn : (i line : ℕ) (p : Phase) → has_turn (phase_of i line p) ≡ false → writes_rows p ≡ false
writes_turn i line (phase.Checking plan) h = absurd (false≢true (sym h))
writes_turn i line (phase.Committing plan remade) h = absurd (false≢true (sym h))
writes_turn i line phase.Ready h = refl
writes_turn i line (phase.Again edit) h = refl
writes_turn i line (phase.Locking edit wanted next) h = refl
writes_turn i line (phase.Pinning edit) h = refl
writes_turn i line (phase.Planning edit) h = refl
writes_turn i line (phase.Waiting plan) h = refl
writes_turn i line (phase.Yielding r) h = refl
writes_turn i line (phase.Releasing a) h = refl
writes_turn i line (phase.Replying r) h = refl
writes_turn i line phase.Ended h = refl

module _ (d : Dataset) (b : Base) where
  log_turn : (c : machine.Choice) (i : ℕ) (sh : machine.Shared) (s : machine.ClientState) (p : machine.Phase) → has_turn p ≡ false → (machine.event d b c i sh s p).0.log ≡ sh.log
  log_turn c i sh s machine.Ready h = refl
  log_turn c i sh s (machine.Again edit) h = refl
  log_turn c i sh s (machine.Locking edit n ns) h = go (eqb (get_or sh.locks n 0) 0)
    where
      go : (t : Bool) → (cond {A = machine.Shared × machine.ClientState} t (record sh { locks = slice_set sh.locks n i }, record s { held = n ∷ s.held; phase = machine.locking edit ns }) (sh, s)).0.log ≡ sh.log
      go true = refl
      go false = refl
  log_turn c i sh s (machine.Pinning edit) h = refl
  log_turn c i sh s (machine.Planning edit) h = refl
  log_turn c i sh s (machine.Waiting edit changed shown) h = go (eqb sh.turn 0)
    where
      go : (t : Bool) → (cond {A = machine.Shared × machine.ClientState} t (record sh { turn = i }, record s { phase = machine.Checking edit changed shown }) (sh, s)).0.log ≡ sh.log
      go true = refl
      go false = refl
  log_turn c i sh s (machine.Checking edit changed shown) h = absurd (false≢true (sym h))
  log_turn c i sh s (machine.Committing edit shown e) h = absurd (false≢true (sym h))
  log_turn c i sh s (machine.Yielding r) h = absurd (false≢true (sym h))
  log_turn c i sh s (machine.Releasing a) h = go s.held
    where
      go : (hs : List ℕ) → (machine.give_back sh s a hs).0.log ≡ sh.log
      go [] = refl
      go (n ∷ ns) = refl
  log_turn c i sh s (machine.Replying r) h = refl
  log_turn c i sh s machine.Ended h = refl

  -- another client's draft lasts
  draft_lasts : {V : Type 0} (drafts : V → Dataset → Base → List Entry → Entry → Type 0) (rows rows2 : V) (c : machine.Choice) (i j : ℕ) (sh : machine.Shared) (s u : machine.ClientState) (me you : Client)
      → i ≢ j → ClientLocks sh i s s.phase → ClientLocks sh j u u.phase → s.phase ≡ phase_of i me.taken me.phase → u.phase ≡ phase_of j you.taken you.phase
      → (writes_rows me.phase ≡ false → rows2 ≡ rows) → Drafted (drafts rows) d b sh.log j you.taken you.phase
      → Drafted (drafts rows2) d b (machine.event d b c i sh s (phase_of i me.taken me.phase)).0.log j you.taken you.phase
  draft_lasts drafts rows rows2 c i j sh s u me you n mine yours p q same k = go (is_commit (phase_of j you.taken you.phase)) refl
    where
      turn : is_commit (phase_of j you.taken you.phase) ≡ true → has_turn (phase_of i me.taken me.phase) ≡ false
      turn e =
          let y : eqb sh.turn j ≡ true = yours.turn ∙ (ap has_turn q ∙ commit_turn _ e) in
          sym (ap has_turn p) ∙ (sym mine.turn ∙ ne_eqb sh.turn i (λ x. n (sym x ∙ eqb-true sh.turn j y)))

      go : (t : Bool) → is_commit (phase_of j you.taken you.phase) ≡ t → Drafted (drafts rows2) d b (machine.event d b c i sh s (phase_of i me.taken me.phase)).0.log j you.taken you.phase
      go false e = no_draft (drafts rows2) d b _ j you.taken you.phase e
      go true e =
          subst (λ l. Drafted (drafts rows2) d b l j you.taken you.phase) (sym (log_turn c i sh s (phase_of i me.taken me.phase) (turn e)))
          (subst (λ x. Drafted (drafts x) d b sh.log j you.taken you.phase) (sym (same (writes_turn i me.taken me.phase (turn e)))) k)

-- One client of a core.

module _ {V : Type 0} (asked : List ℕ → Line) (stands : V → Dataset → Base → List Entry → Type 0) (drafts : V → Dataset → Base → List Entry → Entry → Type 0) (d : Dataset) (b : Base) where
  pub placed : (rows : V) (t : Table) (clients : List Client) (w : machine.State) (k : ℕ) (me : Client) → IsGood d b w → (o : CoreIs asked (stands rows) (drafts rows) d b t clients w) → (q : slice_get clients k ≡ Some me)
      → Placed asked (stands rows) (drafts rows) d b w.shared (o.clients_are k me q).0 t me (suc k)
  placed rows t clients w k me g o q =
      let x = o.clients_are k me q in
      record {
        dataset = g.dataset;
        legal = g.log_agrees.legal;
        holds = g.locks_agree.clients k x.0 x.1;
        history = g.log_agrees.clients k x.0 x.1;
        table = o.table;
        locks = g.locks_agree.shared.locks;
        rows = o.rows;
        client = x.2;
      }

  -- the core after one client's event
  pub core_goes : (rows rows2 : V) (t u : Table) (clients : List Client) (w : machine.State) (k : ℕ) (me you : Client) (s : machine.ClientState) (c : machine.Choice)
      → IsGood d b w → CoreIs asked (stands rows) (drafts rows) d b t clients w → slice_get clients k ≡ Some me → (there : slice_get w.clients k ≡ Some s) → s.phase ≡ phase_of (suc k) me.taken me.phase
      → (writes_rows me.phase ≡ false → rows2 ≡ rows) → you.lines ≡ me.lines
      → (let m = machine.event d b c (suc k) w.shared s (phase_of (suc k) me.taken me.phase) in TableIs u m.0 × stands rows2 d b m.0.log × ClientIs asked (drafts rows2) d b m.0.log (suc k) you m.1)
      → CoreIs asked (stands rows2) (drafts rows2) d b u (slice_set clients k you) (machine.step d b c k w)
  core_goes rows rows2 t u clients w k me you s c g o q there p same lines x =
      subst (λ y. CoreIs asked (stands rows2) (drafts rows2) d b u (slice_set clients k you) (machine.step_client d b c k w y)) (sym there)
      (subst (λ z. CoreIs asked (stands rows2) (drafts rows2) d b u (slice_set clients k you) (record { shared = (machine.event d b c (suc k) w.shared s z).0; clients = slice_set w.clients k (machine.event d b c (suc k) w.shared s z).1 })) (sym p)
      (record {
        table = x.0;
        rows = x.1;
        count = length-set w.clients k m.1 ∙ (o.count ∙ sym (length-set clients k you));
        clients_are = each;
        small = λ j z h. elim (get_set clients k you j z h) [
          | inl e ↦ subst (λ y. length y.lines.items < 2 ^ 32) (sym e.1) (subst (λ y. length y.items < 2 ^ 32) (sym lines) (o.small k me q))
          | inr e ↦ o.small j z e.1
        ];
      }))
    where
      m : machine.Shared × machine.ClientState
      m = machine.event d b c (suc k) w.shared s (phase_of (suc k) me.taken me.phase)

      within : k < length w.clients
      within = slice_get_within w.clients k s there

      each : (j : ℕ) (z : Client) → slice_get (slice_set clients k you) j ≡ Some z
          → (v : machine.ClientState) × (slice_get (slice_set w.clients k m.1) j ≡ Some v) × ClientIs asked (drafts rows2) d b m.0.log (suc j) z v
      each j z h =
          elim (get_set clients k you j z h) [
            | inl e ↦ (
              m.1,
              subst (λ n. slice_get (slice_set w.clients k m.1) n ≡ Some m.1) (sym e.0) (get_same w.clients k m.1 within),
              subst (λ n. ClientIs asked (drafts rows2) d b m.0.log (suc n) z m.1) (sym e.0) (subst (λ y. ClientIs asked (drafts rows2) d b m.0.log (suc k) y m.1) (sym e.1) x.2),
            )
            | inr e ↦ let y = o.clients_are j z e.1 in (
              y.0,
              get_other w.clients k j m.1 e.0 ∙ y.1,
              record {
                rest = y.2.rest;
                phase = y.2.phase;
                draft = draft_lasts d b drafts rows rows2 c (suc k) (suc j) w.shared s y.0 me z (λ n. e.0 (omega arith)) (g.locks_agree.clients k s there) (g.locks_agree.clients j y.0 y.1) p y.2.phase same y.2.draft;
              },
            )
          ]

  -- a state that a run can reach stays one
  pub good_goes : (c : machine.Choice) (k : ℕ) (w : machine.State) (s : machine.ClientState) → IsGood d b w → slice_get w.clients k ≡ Some s → machine.is_able w.shared s s.phase ≡ true
      → machine.IsAllowedAt d b c w.shared (slice_get w.clients k) → IsGood d b (machine.step d b c k w)
  good_goes c k w s g q able a =
      record {
        dataset = g.dataset;
        base = g.base;
        locks_agree = step_locked d b c k w g.locks_agree;
        log_agrees = step_log d b g.dataset.layout (retires d b g.dataset g.base) c k w g.locks_agree a g.log_agrees;
        bounded = omega (arith, g.bounded, able_falls d b c k w s g.locks_agree g.log_agrees q able);
      }

-- what is put, by the machine's phase
pub puts_of : {W : Type 0} (puts misses : W → ℕ → Reply → W → Type 0) (rose : Type 0) (old new : W) (i line : ℕ) (p : Phase) (write_fails : Bool) → Outs puts misses rose old new i p write_fails → Puts puts misses rose old new i (phase_of i line p) write_fails
puts_of puts misses rose old new i line (phase.Replying r) true o = o
puts_of puts misses rose old new i line (phase.Replying r) false o = o
puts_of puts misses rose old new i line phase.Ready write_fails o = o
puts_of puts misses rose old new i line (phase.Again edit) write_fails o = o
puts_of puts misses rose old new i line (phase.Locking edit wanted next) write_fails o = o
puts_of puts misses rose old new i line (phase.Pinning edit) write_fails o = o
puts_of puts misses rose old new i line (phase.Planning edit) write_fails o = o
puts_of puts misses rose old new i line (phase.Waiting plan) write_fails o = o
puts_of puts misses rose old new i line (phase.Checking plan) write_fails o = o
puts_of puts misses rose old new i line (phase.Committing plan remade) write_fails o = o
puts_of puts misses rose old new i line (phase.Yielding r) write_fails o = o
puts_of puts misses rose old new i line (phase.Releasing a) write_fails o = o
puts_of puts misses rose old new i line phase.Ended write_fails o = o

-- the lock that a client waits for, by the machine's phase
named_waited : (i line : ℕ) (p : Phase) → lock_named p ≡ lock_waited (phase_of i line p)
named_waited i line (phase.Locking edit wanted next) = refl
named_waited i line phase.Ready = refl
named_waited i line (phase.Again edit) = refl
named_waited i line (phase.Pinning edit) = refl
named_waited i line (phase.Planning edit) = refl
named_waited i line (phase.Waiting plan) = refl
named_waited i line (phase.Checking plan) = refl
named_waited i line (phase.Committing plan remade) = refl
named_waited i line (phase.Yielding r) = refl
named_waited i line (phase.Releasing a) = refl
named_waited i line (phase.Replying r) = refl
named_waited i line phase.Ended = refl

set_same : {X : Type 0} (xs : List X) (k : ℕ) (x : X) → slice_get xs k ≡ Some x → slice_set xs k x ≡ xs
set_same [] k x q = refl
set_same (y ∷ ys) zero x q = let e : y ≡ x = cc in ap (λ z. z ∷ ys) (sym e)
set_same (y ∷ ys) (suc k) x q = ap (λ zs. y ∷ zs) (set_same ys k x q)

module _ {V W : Type 0} (asked : List ℕ → Line) (stands : V → Dataset → Base → List Entry → Type 0) (drafts : V → Dataset → Base → List Entry → Entry → Type 0)
    (puts misses : W → ℕ → Reply → W → Type 0) (rose : Type 0) (old new : W) (rows rows2 : V) (d : Dataset) (b : Base) (t u : Table) (clients : List Client) (w : machine.State) (k clock : ℕ) (me you : Client) where
  step_next : (r : Step) → IsGood d b w → (o : CoreIs asked (stands rows) (drafts rows) d b t clients w) → (q : slice_get clients k ≡ Some me) → (writes_rows me.phase ≡ false → rows2 ≡ rows) → you.lines ≡ me.lines
      → StepAt asked (stands rows2) (drafts rows2) puts misses rose old new rows rows2 d b w.shared (o.clients_are k me q).0 t u me you (suc k) clock r
      → StepIs asked stands drafts puts misses rose old new rows rows2 d b t u clients (slice_set clients k you) w (suc k) clock r
  step_next (step.Moved act) g o q same lines x =
      let client = o.clients_are k me q in
      let s : machine.ClientState = client.0 in
      let a = x.1 in
      let c : machine.Choice = a.0 in
      let allowed : machine.IsAllowedAt d b c w.shared (slice_get w.clients k) =
      subst (machine.IsAllowedAt d b c w.shared) (sym client.1) (subst (machine.IsAllowed d b c w.shared s) (sym client.2.phase) a.2) in (
        s,
        client.1,
        x.0,
        c,
        a.1,
        allowed,
        core_goes asked stands drafts d b rows rows2 t u clients w k me you s c g o q client.1 client.2.phase same lines a.3,
        good_goes asked stands drafts d b c k w s g client.1 x.0 allowed,
        able_falls d b c k w s g.locks_agree g.log_agrees client.1 x.0,
        subst (λ z. Puts puts misses rose old new (suc k) z c.write_fails) (sym client.2.phase) (puts_of puts misses rose old new (suc k) me.taken me.phase c.write_fails a.4),
        subst (λ z. act ≡ act_named z (machine.event d b c (suc k) w.shared s z).1.phase) (sym client.2.phase) a.5,
      )
  step_next (step.Blocked lock) g o q same lines x =
      let client = o.clients_are k me q in (client.0, client.1, x.0, x.1, x.3, x.4, ap (slice_set clients k) x.5 ∙ set_same clients k me q, x.6, x.2 ∙ (named_waited (suc k) me.taken me.phase ∙ ap lock_waited (sym client.2.phase)))
  step_next step.Ended g o q same lines x =
      let client = o.clients_are k me q in (client.0, client.1, x.0, x.1, x.2, x.3, ap (slice_set clients k) x.4 ∙ set_same clients k me q, x.5)

  pub step_is : (i : ℕ) (others : List Client) (r : Step) → suc k ≡ i → others ≡ slice_set clients k you → IsGood d b w → (o : CoreIs asked (stands rows) (drafts rows) d b t clients w) → (q : slice_get clients k ≡ Some me)
      → (writes_rows me.phase ≡ false → rows2 ≡ rows) → you.lines ≡ me.lines
      → StepAt asked (stands rows2) (drafts rows2) puts misses rose old new rows rows2 d b w.shared (o.clients_are k me q).0 t u me you i clock r
      → StepIs asked stands drafts puts misses rose old new rows rows2 d b t u clients others w i clock r
  step_is i others r e f g o q same lines x =
      subst (λ n. StepIs asked stands drafts puts misses rose old new rows rows2 d b t u clients others w n clock r) e
      (subst (λ ys. StepIs asked stands drafts puts misses rose old new rows rows2 d b t u clients ys w (suc k) clock r) (sym f)
      (step_next r g o q same lines
      (subst (λ n. StepAt asked (stands rows2) (drafts rows2) puts misses rose old new rows rows2 d b w.shared (o.clients_are k me q).0 t u me you n clock r) (sym e) x)))

pub get_there : {X : Type 0} (xs : List X) (n : ℕ) (z : X) → n < length xs → slice_get xs n ≡ Some (get_or xs n z)
get_there [] n z l = absurd (omega arith)
get_there (x ∷ xs) zero z l = refl
get_there (x ∷ xs) (suc n) z l = get_there xs n z (omega arith)

-- a client by its number
pub placed_at : {V : Type 0} (asked : List ℕ → Line) (stands : V → Dataset → Base → List Entry → Type 0) (drafts : V → Dataset → Base → List Entry → Entry → Type 0) (d : Dataset) (b : Base) (rows : V) (t : Table) (clients : List Client)
    (w : machine.State) (k i : ℕ) (me : Client) → suc k ≡ i → IsGood d b w → (o : CoreIs asked (stands rows) (drafts rows) d b t clients w) → (q : slice_get clients k ≡ Some me)
    → Placed asked (stands rows) (drafts rows) d b w.shared (o.clients_are k me q).0 t me i
placed_at asked stands drafts d b rows t clients w k i me e g o q =
    subst (Placed asked (stands rows) (drafts rows) d b w.shared (o.clients_are k me q).0 t me) e (placed asked stands drafts d b rows t clients w k me g o q)
