-- A play by allowed choices, step by step.
use Rattle.std.proofs.Common.{◌≡◌, ℕ, zero, suc, pred, ◌<◌, cond, nat_eq, List, [], ◌∷◌, length, refl, sym, ◌∙◌, ap, ap₂, subst, arith, Option, Some, None, eq-eqb, ne_eqb, le_refl}
use Rattle.std.specs.Prelude.{slice_get}
use Rattle.std.specs.Option.{option_map_or}
use Rattle.node_ids.specs.Ids.{IsLayout}
use Rattle.op_model.specs.declared.base.Dataset.{Dataset}
use Rattle.op_model.specs.declared.base.Base.{Base}
use Rattle.op_model.specs.declared.entry.Shown.{Shown}
use Rattle.op_model.specs.Valid.{IsBase}
use Rattle.session_machine.specs.Machine.{Choice, State, step, run, IsAllowedAt, IsRun}
use Rattle.session_machine.specs.Invariant.{LocksAgree, LogAgrees}
use Rattle.session_machine.specs.Play.{first_able, scheduled, finishing, play, work}
use Rattle.session_machine.proofs.StepLemmas.{step_locked, run_locked}
use Rattle.session_machine.proofs.RunLemmas.{Retires, step_log, run_log}
use Rattle.session_machine.proofs.FinishLemmas.{finish}
use Rattle.flow_laws.specs.Laws.{showing, IsAllowedPlay}
use Rattle.flow_laws.proofs.Showing.{choice_exists}

-- a flow for the choice with number n, and others below it
put : ℕ → Option Shown → (ℕ → Option Shown) → ℕ → Option Shown
put n x f i = cond (nat_eq i n) x (f i)

put_at : (n : ℕ) (x : Option Shown) (f : ℕ → Option Shown) → put n x f n ≡ x
unfolding put
put_at n x f = rw (eq-eqb n n refl) refl

put_below : (n : ℕ) (x : Option Shown) (f : ℕ → Option Shown) (i : ℕ) → i < n → put n x f i ≡ f i
unfolding put
put_below n x f i l = rw (ne_eqb i n (omega arith)) refl

with_flow : Choice → Option Shown → Choice
with_flow c x = record c { shown = x }

showing_at : (choose : ℕ → Choice) (n : ℕ) (x : Option Shown) (f : ℕ → Option Shown) → showing choose (put n x f) n ≡ with_flow (choose n) x
unfolding with_flow
showing_at choose n x f = ap (with_flow (choose n)) (put_at n x f)

showing_below : (choose : ℕ → Choice) (n : ℕ) (x : Option Shown) (f : ℕ → Option Shown) (i : ℕ) → i < n → showing choose (put n x f) i ≡ showing choose f i
unfolding with_flow
showing_below choose n x f i l = ap (with_flow (choose i)) (put_below n x f i l)

module _ (d : Dataset) (b : Base) where
  -- only the choices that are made count
  scheduled_same : (g h : ℕ → Choice) (ks : List ℕ) → ((i : ℕ) → i < length ks → g i ≡ h i) → scheduled d b g ks ≡ scheduled d b h ks
  scheduled_same g h [] e = refl
  scheduled_same g h (k ∷ ks) e = ap₂ (λ (c : Choice) (ms : List (Choice × ℕ)). (c, pred k) ∷ ms) (e (length ks) (omega arith)) (scheduled_same g h ks (λ i l. e i (omega arith)))

  finishing_same : (g h : ℕ → Choice) (n : ℕ) (w : State) → ((i : ℕ) → i < n → g i ≡ h i) → finishing d b g n w ≡ finishing d b h n w
  unfolding finishing
  finishing_same g h zero w e = refl
  finishing_same g h (suc n) w e = go (first_able w.shared w.clients) (λ v. finishing_same g h n v (λ i l. e i (omega arith)))
    where
      go : (o : Option ℕ) → ((v : State) → finishing d b g n v ≡ finishing d b h n v)
          → option_map_or (λ k. (g n, k) ∷ finishing d b g n (step d b (g n) k w)) o [] ≡ option_map_or (λ k. (h n, k) ∷ finishing d b h n (step d b (h n) k w)) o []
      go None ih = refl
      go (Some k) ih =
          ap (λ (ms : List (Choice × ℕ)). (g n, k) ∷ ms) (ih (step d b (g n) k w))
          ∙ ap (λ (c : Choice). (c, k) ∷ finishing d b h n (step d b c k w)) (e n (omega arith))

module _ (d : Dataset) (b : Base) (base : IsBase d b) (bits : IsLayout d.layout) (retires : Retires d b) where
  -- an allowed choice for client k, and the state behind its step
  pub record IsStep (w : State) (k : ℕ) (c : Choice) : Type 0 where
    pub allowed : IsAllowedAt d b c w.shared (slice_get w.clients k)
    pub locks : LocksAgree (step d b c k w)
    pub log : LogAgrees d b (step d b c k w)

  steps : (w : State) → LocksAgree w → LogAgrees d b w → (k : ℕ) (c : Choice) → (x : Option Shown) × IsStep w k (with_flow c x)
  unfolding with_flow
  steps w l o k c =
      let (x, a) = choice_exists d b base w o k c in
      (x, record { allowed = a; locks = step_locked d b (with_flow c x) k w l; log = step_log d b bits retires (with_flow c x) k w l a o })

  by_schedule : (choose : ℕ → Choice) (ks : List ℕ) (w : State) → LocksAgree w → LogAgrees d b w → (shown : ℕ → Option Shown) × IsRun d b (scheduled d b (showing choose shown) ks) w
  by_schedule choose [] w l o = (λ i. None, tt)
  by_schedule choose (k ∷ ks) w l o =
      let n = length ks in
      let (x, s) = steps w l o (pred k) (choose n) in
      let (f, r) = by_schedule choose ks (step d b (with_flow (choose n) x) (pred k) w) s.locks s.log in (
        put n x f,
        subst (λ (c : Choice). IsAllowedAt d b c w.shared (slice_get w.clients (pred k)) × IsRun d b (scheduled d b (showing choose (put n x f)) ks) (step d b c (pred k) w))
            (sym (showing_at choose n x f)) (
              s.allowed,
              subst (λ (ms : List (Choice × ℕ)). IsRun d b ms (step d b (with_flow (choose n) x) (pred k) w))
                  (sym (scheduled_same d b (showing choose (put n x f)) (showing choose f) ks (showing_below choose n x f))) r,
            ),
      )

  to_the_end : (choose : ℕ → Choice) (n : ℕ) (w : State) → LocksAgree w → LogAgrees d b w → (shown : ℕ → Option Shown) × IsRun d b (finishing d b (showing choose shown) n w) w
  unfolding finishing
  to_the_end choose zero w l o = (λ i. None, tt)
  to_the_end choose (suc n) w l o = go (first_able w.shared w.clients) (to_the_end choose n)
    where
      go : (m : Option ℕ) → ((v : State) → LocksAgree v → LogAgrees d b v → (shown : ℕ → Option Shown) × IsRun d b (finishing d b (showing choose shown) n v) v)
          → (shown : ℕ → Option Shown) × IsRun d b (option_map_or (λ k. (showing choose shown n, k) ∷ finishing d b (showing choose shown) n (step d b (showing choose shown n) k w)) m []) w
      go None ih = (λ i. None, tt)
      go (Some k) ih =
          let (x, s) = steps w l o k (choose n) in
          let v : State = step d b (with_flow (choose n) x) k w in
          let (f, r) = ih v s.locks s.log in (
            put n x f,
            subst (λ (c : Choice). IsAllowedAt d b c w.shared (slice_get w.clients k) × IsRun d b (finishing d b (showing choose (put n x f)) n (step d b c k w)) (step d b c k w))
                (sym (showing_at choose n x f)) (
                  s.allowed,
                  subst (λ (ms : List (Choice × ℕ)). IsRun d b ms v)
                      (sym (finishing_same d b (showing choose (put n x f)) (showing choose f) n v (showing_below choose n x f))) r,
                ),
          )

  pub plays : (w : State) → LocksAgree w → LogAgrees d b w → (schedule : List ℕ) (choose later : ℕ → Choice)
      → (shown : ℕ → Option Shown) × (more : ℕ → Option Shown) × IsAllowedPlay d b (showing choose shown) (showing later more) schedule w
  unfolding play
  plays w l o schedule choose later =
      let (f, r) = by_schedule choose schedule w l o in
      let events : List (Choice × ℕ) = scheduled d b (showing choose f) schedule in
      let v : State = run d b events w in
      let lv = run_locked d b events w l in
      let ov = run_log d b bits retires events w l r o in
      let (g, q) = to_the_end later (work v) v lv ov in
      (f, g, record { before = r; behind = q; ended = finish d b bits retires (showing later g) (work v) v (le_refl (work v)) lv ov q })
