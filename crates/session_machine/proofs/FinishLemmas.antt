-- A run in which the least client that may go on steps again and again ends with all clients ended.
use Rattle.std.proofs.Common.{◌≡◌, ℕ, zero, suc, ◌<◌, ◌≤◌, Bool, true, false, cond, List, [], ◌∷◌, refl, sym, ◌∙◌, subst, arith, Option, Some, None}
use Rattle.std.specs.Prelude.{slice_get}
use Rattle.std.specs.Option.{option_map_or, option_map}
use Rattle.std.proofs.lemmas.Bool.{false≢true}
use Rattle.node_ids.specs.Ids.{IsLayout}
use Rattle.op_model.specs.declared.base.Dataset.{Dataset}
use Rattle.op_model.specs.declared.base.Base.{Base}
use Rattle.session_machine.specs.Machine.{ClientState, Shared, State, Choice, step, run, is_able, is_ended, IsRun}
use Rattle.session_machine.specs.Invariant.{LocksAgree, LogAgrees}
use Rattle.session_machine.specs.Play.{first_able, work, finishing, AllEnded}
use Rattle.session_machine.specs.Laws.{SomeIsAble}
use Rattle.session_machine.proofs.StepLemmas.{step_locked}
use Rattle.session_machine.proofs.StuckLemmas.{some_able}
use Rattle.session_machine.proofs.RunLemmas.{Retires, step_log}
use Rattle.session_machine.proofs.WorkLemmas.{work_falls}

pub none_first : (sh : Shared) (ss : List ClientState) → first_able sh ss ≡ None → (k : ℕ) (s : ClientState) → slice_get ss k ≡ Some s → is_able sh s s.phase ≡ false
unfolding first_able
none_first sh [] e k s q = cc
none_first sh (x ∷ xs) e k s q = go (is_able sh x x.phase) refl e k q (λ o j p. none_first sh xs o j s p)
  where
    rest : (o : Option ℕ) → option_map suc o ≡ None → o ≡ None
    rest None r = refl
    rest (Some n) r = cc

    go : (t : Bool) → is_able sh x x.phase ≡ t → cond t (Some 0) (option_map suc (first_able sh xs)) ≡ None → (k : ℕ) → slice_get (x ∷ xs) k ≡ Some s
        → (first_able sh xs ≡ None → (j : ℕ) → slice_get xs j ≡ Some s → is_able sh s s.phase ≡ false) → is_able sh s s.phase ≡ false
    go true a r k q ih = cc
    go false a r zero q ih = let h : x ≡ s = cc in subst (λ y. is_able sh y y.phase ≡ false) h a
    go false a r (suc k) q ih = ih (rest (first_able sh xs) r) k q

pub some_first : (sh : Shared) (ss : List ClientState) (k : ℕ) → first_able sh ss ≡ Some k → (s : ClientState) × (slice_get ss k ≡ Some s) × (is_able sh s s.phase ≡ true)
unfolding first_able
some_first sh [] k e = cc
some_first sh (x ∷ xs) k e = go (is_able sh x x.phase) refl e (some_first sh xs)
  where
    go : (t : Bool) → is_able sh x x.phase ≡ t → cond t (Some 0) (option_map suc (first_able sh xs)) ≡ Some k
        → ((j : ℕ) → first_able sh xs ≡ Some j → (s : ClientState) × (slice_get xs j ≡ Some s) × (is_able sh s s.phase ≡ true)) → (s : ClientState) × (slice_get (x ∷ xs) k ≡ Some s) × (is_able sh s s.phase ≡ true)
    go true a r ih = let h : 0 ≡ k = cc in subst (λ j. (s : ClientState) × (slice_get (x ∷ xs) j ≡ Some s) × (is_able sh s s.phase ≡ true)) h (x, refl, a)
    go false a r ih = rest (first_able sh xs) refl r
      where
        rest : (o : Option ℕ) → first_able sh xs ≡ o → option_map suc o ≡ Some k → (s : ClientState) × (slice_get (x ∷ xs) k ≡ Some s) × (is_able sh s s.phase ≡ true)
        rest None f g = cc
        rest (Some j) f g = let h : suc j ≡ k = cc in subst (λ i. (s : ClientState) × (slice_get (x ∷ xs) i ≡ Some s) × (is_able sh s s.phase ≡ true)) h (ih j f)

module _ (d : Dataset) (b : Base) where
  pub able_falls : (c : Choice) (k : ℕ) (w : State) (s : ClientState) → LocksAgree w → LogAgrees d b w → slice_get w.clients k ≡ Some s → is_able w.shared s s.phase ≡ true → work (step d b c k w) < work w
  able_falls c k w s l o q a = let t = o.clients k s q in work_falls d b c k w s q a (l.clients k s q) t.plan t.seen.1

  pub all_ended : (w : State) → LocksAgree w → (SomeIsAble w → ⊥) → AllEnded w
  all_ended w l none k s q = go (is_ended s s.phase) refl
    where
      go : (t : Bool) → is_ended s s.phase ≡ t → is_ended s s.phase ≡ true
      go true e = e
      go false e = absurd (none (some_able w l k s q e))

  pub finish : IsLayout d.layout → Retires d b → (choose : ℕ → Choice) (n : ℕ) (w : State) → work w ≤ n → LocksAgree w → LogAgrees d b w
      → IsRun d b (finishing d b choose n w) w → AllEnded (run d b (finishing d b choose n w) w)
  unfolding finishing
  finish bits retires choose zero w m l o a =
      all_ended w l (λ x. let f = able_falls (choose zero) x.0 w x.1 l o x.2 x.3 in absurd (omega arith))
  finish bits retires choose (suc n) w m l o a = go (first_able w.shared w.clients) refl a (λ v. finish bits retires choose n v)
    where
      go : (f : Option ℕ) → first_able w.shared w.clients ≡ f
          → IsRun d b (option_map_or (λ k. (choose n, k) ∷ finishing d b choose n (step d b (choose n) k w)) f []) w
          → ((v : State) → work v ≤ n → LocksAgree v → LogAgrees d b v → IsRun d b (finishing d b choose n v) v → AllEnded (run d b (finishing d b choose n v) v))
          → AllEnded (run d b (option_map_or (λ k. (choose n, k) ∷ finishing d b choose n (step d b (choose n) k w)) f []) w)
      go None e a ih = all_ended w l (λ x. false≢true (sym (none_first w.shared w.clients e x.0 x.1 x.2) ∙ x.3))
      go (Some k) e a ih =
          let s = some_first w.shared w.clients k e in
          let f : work (step d b (choose n) k w) < work w = able_falls (choose n) k w s.0 l o s.1 s.2 in
          ih (step d b (choose n) k w) (omega arith) (step_locked d b (choose n) k w l) (step_log d b bits retires (choose n) k w l a.0 o) a.1
