-- Each step keeps locks, pins and the turn, and they are right at the start.
use Rattle.std.proofs.Common.{◌≡◌, ◌≢◌, ℕ, zero, suc, ◌<◌, Bool, List, [], ◌∷◌, map, length, get_or, replicate, refl, sym, ap, subst, inl, inr, ◌⊎◌, arith, Option, Some, None}
use Rattle.std.specs.Prelude.{slice_get, slice_set}
use Rattle.std.proofs.lemmas.Bool.{ne_eqb}
use Rattle.std.proofs.lemmas.List.{length-set}
use Rattle.std.proofs.lemmas.Option.{slice_get_within}
use Rattle.op_model.specs.declared.base.Dataset.{Dataset}
use Rattle.op_model.specs.declared.base.Base.{Base}
use Rattle.op_model.specs.Transcript.{Line}
use Rattle.session_machine.specs.Machine.{ClientState, Shared, State, Choice, event, step_client, step, run, new_client, start}
use Rattle.session_machine.specs.Invariant.{ClientLocks, SharedLocks, LocksAgree}
use Rattle.session_machine.proofs.LockLemmas.{own_kept}
use Rattle.session_machine.proofs.SharedLemmas.{leaves, others_kept, shared_kept}

module _ (d : Dataset) (b : Base) where
  -- Clients in a list.

  pub get_set : (clients : List ClientState) (k : ℕ) (t : ClientState) (j : ℕ) (s : ClientState) → slice_get (slice_set clients k t) j ≡ Some s → ((j ≡ k) × (s ≡ t)) ⊎ ((j ≢ k) × (slice_get clients j ≡ Some s))
  get_set [] k t j s q = cc
  get_set (x ∷ xs) zero t zero s q = inl (refl, cc)
  get_set (x ∷ xs) zero t (suc j) s q = inr ((λ e. omega arith), q)
  get_set (x ∷ xs) (suc k) t zero s q = inr ((λ e. omega arith), q)
  get_set (x ∷ xs) (suc k) t (suc j) s q =
      elim (get_set xs k t j s q) [ inl p ↦ inl (ap suc p.0, p.1) | inr p ↦ inr ((λ e. p.0 (omega arith)), p.1) ]

  -- what one client's event makes of what each client has: its own by its event, the others' as they were
  pub step_clients : (P : ℕ → Shared → ClientState → Type 0) (c : Choice) (k : ℕ) (w : State) (s : ClientState) → slice_get w.clients k ≡ Some s
      → P k (event d b c (suc k) w.shared s s.phase).0 (event d b c (suc k) w.shared s s.phase).1
      → ((j : ℕ) (t : ClientState) → j ≢ k → slice_get w.clients j ≡ Some t → P j (event d b c (suc k) w.shared s s.phase).0 t)
      → (j : ℕ) (t : ClientState) → slice_get (slice_set w.clients k (event d b c (suc k) w.shared s s.phase).1) j ≡ Some t → P j (event d b c (suc k) w.shared s s.phase).0 t
  step_clients P c k w s e mine others j t q =
      let m : Shared × ClientState = event d b c (suc k) w.shared s s.phase in
      elim (get_set w.clients k m.1 j t q) [
        | inl p ↦ subst (λ n. P n m.0 t) (sym p.0) (subst (P k m.0) (sym p.1) mine)
        | inr p ↦ others j t p.0 p.1
      ]

  pub step_locked : (c : Choice) (k : ℕ) (w : State) → LocksAgree w → LocksAgree (step d b c k w)
  step_locked c k w o = go (slice_get w.clients k) refl
    where
      go : (m : Option ClientState) → slice_get w.clients k ≡ m → LocksAgree (step_client d b c k w m)
      go None e = o
      go (Some s) e =
          let l : k < length w.clients = slice_get_within w.clients k s e in
          let mine = o.clients k s e in
          record {
            shared = subst (λ n. SharedLocks n (event d b c (suc k) w.shared s s.phase).0) (sym (length-set w.clients k (event d b c (suc k) w.shared s s.phase).1)) (shared_kept d b c (length w.clients) (suc k) w.shared s s.phase (omega arith) o.shared);
            clients = step_clients (λ j sh t. ClientLocks sh (suc j) t t.phase) c k w s e
                (own_kept d b c (suc k) w.shared s s.phase refl (omega arith) o.shared.locks mine)
                (λ j t n q. others_kept d b (suc k) (suc j) w.shared (event d b c (suc k) w.shared s s.phase).0 t t.phase (λ x. n (omega arith)) (omega arith) (leaves d b c (suc k) w.shared s s.phase mine) (o.clients j t q));
          }

  pub run_locked : (events : List (Choice × ℕ)) (w : State) → LocksAgree w → LocksAgree (run d b events w)
  run_locked [] w o = o
  run_locked (m ∷ ms) w o = run_locked ms (step d b m.0 m.1 w) (step_locked m.0 m.1 w o)

  -- At the start.

  pub get_map : (clients : List (List Line × Bool)) (k : ℕ) (s : ClientState) → slice_get (map new_client clients) k ≡ Some s → (l : List Line × Bool) × (s ≡ new_client l)
  get_map [] k s q = cc
  get_map (l ∷ ls) zero s q = (l, cc)
  get_map (l ∷ ls) (suc k) s q = get_map ls k s q

  free_locks : (n m : ℕ) → ◌≡◌ {A = ℕ} (get_or (replicate m 0) n 0) 0
  free_locks zero zero = refl
  free_locks (suc n) zero = refl
  free_locks zero (suc m) = refl
  free_locks (suc n) (suc m) = free_locks n m

  pub start_locked : (at : ℕ) (clients : List (List Line × Bool)) → LocksAgree (start d b at clients)
  start_locked at clients =
      record {
        shared = record { locks = refl; holders = λ n. omega (arith, free_locks n 64); turn = omega arith };
        clients = λ k s q.
            let l = get_map clients k s q in
            subst (λ t. ClientLocks (start d b at clients).shared (suc k) t t.phase) (sym l.1)
            (record { mine = λ n. rw (free_locks n 64) (ne_eqb 0 (suc k) (λ e. omega arith)); order = tt; holds = refl; pins = refl; turn = ne_eqb 0 (suc k) (λ e. omega arith) });
      }
