-- Each entry but the first is of a client.
use Rattle.std.proofs.Common.{◌≡◌, ℕ, suc, ◌≤◌, List, [], ◌∷◌, length, Bool, Option, Some, None, refl, sym, ◌∙◌, subst, inl, inr, arith}
use Rattle.std.specs.Prelude.{slice_get}
use Rattle.std.proofs.lemmas.List.{length-map, length-set}
use Rattle.std.proofs.lemmas.Option.{slice_get_within}
use Rattle.node_ids.specs.Ids.{IsLayout}
use Rattle.op_model.specs.declared.base.Dataset.{Dataset}
use Rattle.op_model.specs.declared.base.Base.{Base}
use Rattle.op_model.specs.declared.entry.Entry.{Entry}
use Rattle.op_model.specs.Legal.{Legal}
use Rattle.op_model.specs.Operations.{first_entry}
use Rattle.op_model.specs.Transcript.{Line}
use Rattle.op_model.proofs.RetiresLemmas.{retires}
use Rattle.session_machine.specs.Machine.{ClientState, Shared, State, Choice, IsRun, event, new_client, run, start, step, step_client}
use Rattle.session_machine.specs.Invariant.{LocksAgree, LogAgrees}
use Rattle.session_machine.proofs.OtherLemmas.{Adds, adds}
use Rattle.session_machine.proofs.RunLemmas.{Retires, run_log, step_log}
use Rattle.session_machine.proofs.StepLemmas.{step_locked}
use Rattle.histories.specs.Histories.{EntriesOwned}
use Rattle.core_steps.specs.Places.{IsGood}
use Rattle.core_steps.specs.Runs.{Leads}

module _ (d : Dataset) (b : Base) where
  owned_more : (n : ℕ) (e : Entry) (log : List Entry) → Legal d b log → 1 ≤ e.client → e.client ≤ n → EntriesOwned n log → EntriesOwned n (e ∷ log)
  owned_more n e [] legal low high h = absurd legal
  owned_more n e (f ∷ log) legal low high h = (low, high, h)

  owned_adds : (n i : ℕ) (old : Shared) (log : List Entry) → Legal d b old.log → 1 ≤ i → i ≤ n → EntriesOwned n old.log → Adds d b i old log → EntriesOwned n log
  owned_adds n i old log legal low high h (inl q) = subst (EntriesOwned n) (sym q) h
  owned_adds n i old log legal low high h (inr a) =
      subst (EntriesOwned n) (sym a.1) (owned_more n a.0 old.log legal (subst (λ m. 1 ≤ m) (sym a.3) low) (subst (λ m. m ≤ n) (sym a.3) high) h)

  -- of so many clients each entry is of one
  abbrev Owns : ℕ → State → Type 0
  Owns n w = (length w.clients ≡ n) × EntriesOwned n w.shared.log

  step_owned : (n : ℕ) (c : Choice) (k : ℕ) (w : State) → LocksAgree w → LogAgrees d b w → Owns n w → Owns n (step d b c k w)
  step_owned n c k w l o h = go (slice_get w.clients k) refl
    where
      go : (m : Option ClientState) → slice_get w.clients k ≡ m → Owns n (step_client d b c k w m)
      go None e = h
      go (Some s) e =
          let within = slice_get_within w.clients k s e in (
            length-set w.clients k (event d b c (suc k) w.shared s s.phase).1 ∙ h.0,
            owned_adds n (suc k) w.shared (event d b c (suc k) w.shared s s.phase).0.log o.legal (omega arith) (omega (arith, within, h.0)) h.1
                (adds d b c (suc k) w.shared s s.phase (l.clients k s e) (o.clients k s e).plan),
          )

  run_owned : IsLayout d.layout → Retires d b → (n : ℕ) (events : List (Choice × ℕ)) (w : State) → LocksAgree w → IsRun d b events w → LogAgrees d b w → Owns n w → Owns n (run d b events w)
  run_owned bits retires n [] w l a o h = h
  run_owned bits retires n (m ∷ ms) w l a o h =
      run_owned bits retires n ms (step d b m.0 m.1 w) (step_locked d b m.0 m.1 w l) a.1 (step_log d b bits retires m.0 m.1 w l a.0 o) (step_owned n m.0 m.1 w l o h)

  start_owned : (at : ℕ) (clients : List (List Line × Bool)) → Owns (length clients) (start d b at clients)
  unfolding first_entry
  start_owned at clients = (length-map clients new_client, refl)

  -- what clients have seen, planned and replied, wherever events lead
  pub led_log : (w v : State) → IsGood d b w → Leads d b w v → LogAgrees d b v
  led_log w v g x = subst (LogAgrees d b) x.2 (run_log d b g.dataset.layout (retires d b g.dataset g.base) x.0 w g.locks_agree x.1 g.log_agrees)

  pub led_owned : (at : ℕ) (clients : List (List Line × Bool)) (v : State) → IsGood d b (start d b at clients) → Leads d b (start d b at clients) v → EntriesOwned (length clients) v.shared.log
  led_owned at clients v g x =
      let h = run_owned g.dataset.layout (retires d b g.dataset g.base) (length clients) x.0 (start d b at clients) g.locks_agree x.1 g.log_agrees (start_owned at clients) in
      subst (λ (w : State). EntriesOwned (length clients) w.shared.log) x.2 h.1
