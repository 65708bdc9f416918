-- The entries of a legal log up to a time are a legal log.
use Rattle.std.proofs.Common.{◌≡◌, ℕ, ◌+◌, ◌<◌, ◌≤◌, Bool, true, false, cond, leb, List, [], ◌∷◌, ◌++◌, refl, sym, ◌∙◌, ap, subst, arith}
use Rattle.std.proofs.lemmas.Bool.{leb-true, leb-false, le-leb}
use Rattle.op_model.specs.declared.base.Dataset.{Dataset}
use Rattle.op_model.specs.declared.base.Base.{Base}
use Rattle.op_model.specs.declared.entry.Entry.{Entry}
use Rattle.op_model.specs.Refusals.{first_at, last_at, prefix_at}
use Rattle.op_model.specs.Legal.{Legal}
use Rattle.op_model.proofs.HistoryLemmas.{legal_prefix}

module _ (d : Dataset) (b : Base) where
  -- the entries up to a time that isn't before the newest entry are all
  all_to : (t : ℕ) (log : List Entry) → Legal d b log → last_at log ≤ t → prefix_at log t ≡ log
  unfolding prefix_at last_at
  all_to t [] legal h = refl
  all_to t (e ∷ []) legal h = ap (λ x. cond x (e ∷ []) []) (le-leb e.at t h)
  all_to t (e ∷ f ∷ log) legal h =
      let later : f.at < e.at = legal.0.3 in
      let rest : prefix_at (f ∷ log) t ≡ f ∷ log = all_to t (f ∷ log) legal.1 (omega arith) in
      ap (λ x. cond x (e ∷ prefix_at (f ∷ log) t) (prefix_at (f ∷ log) t)) (le-leb e.at t h) ∙ ap (λ xs. e ∷ xs) rest

  -- at a later time there are newer ones besides
  pub newer_to : (s t : ℕ) (log : List Entry) → Legal d b log → s ≤ t → (newer : List Entry) × (prefix_at log t ≡ newer ++ prefix_at log s)
  unfolding prefix_at last_at
  newer_to s t [] legal h = absurd legal
  newer_to s t (e ∷ []) legal h = go (leb e.at s) refl (leb e.at t) refl
    where
      go : (x : Bool) → leb e.at s ≡ x → (y : Bool) → leb e.at t ≡ y → (newer : List Entry) × (cond y (e ∷ []) [] ≡ newer ++ cond x (e ∷ []) [])
      go true p true q = ([], refl)
      go true p false q = absurd (let l : e.at ≤ s = leb-true e.at s p in let m : t < e.at = leb-false e.at t q in omega arith)
      go false p true q = (e ∷ [], refl)
      go false p false q = ([], refl)
  newer_to s t (e ∷ f ∷ log) legal h = go (leb e.at s) refl (leb e.at t) refl (newer_to s t (f ∷ log) legal.1 h)
    where
      go : (x : Bool) → leb e.at s ≡ x → (y : Bool) → leb e.at t ≡ y → (newer : List Entry) × (prefix_at (f ∷ log) t ≡ newer ++ prefix_at (f ∷ log) s)
          → (newer : List Entry) × (cond y (e ∷ prefix_at (f ∷ log) t) (prefix_at (f ∷ log) t) ≡ newer ++ cond x (e ∷ prefix_at (f ∷ log) s) (prefix_at (f ∷ log) s))
      go true p true q ih =
          let l : e.at ≤ s = leb-true e.at s p in
          let later : f.at < e.at = legal.0.3 in
          ([], ap (λ xs. e ∷ xs) (all_to t (f ∷ log) legal.1 (omega arith) ∙ sym (all_to s (f ∷ log) legal.1 (omega arith))))
      go true p false q ih = absurd (let l : e.at ≤ s = leb-true e.at s p in let m : t < e.at = leb-false e.at t q in omega arith)
      go false p true q ih = (e ∷ ih.0, ap (λ xs. e ∷ xs) ih.1)
      go false p false q ih = ih

  -- and some are up to a time that isn't before the first entry
  pub some_to : (t : ℕ) (log : List Entry) → Legal d b log → first_at log ≤ t → (e : Entry) × (older : List Entry) × (prefix_at log t ≡ e ∷ older)
  unfolding prefix_at first_at
  some_to t [] legal h = absurd legal
  some_to t (e ∷ []) legal h = (e, [], ap (λ x. cond x (e ∷ []) []) (le-leb e.at t h))
  some_to t (e ∷ f ∷ log) legal h = go (leb e.at t) (some_to t (f ∷ log) legal.1 h)
    where
      go : (x : Bool) → (g : Entry) × (older : List Entry) × (prefix_at (f ∷ log) t ≡ g ∷ older) → (g : Entry) × (older : List Entry) × (cond x (e ∷ prefix_at (f ∷ log) t) (prefix_at (f ∷ log) t) ≡ g ∷ older)
      go true r = (e, prefix_at (f ∷ log) t, refl)
      go false r = r

  pub legal_to : (t : ℕ) (log : List Entry) → Legal d b log → first_at log ≤ t → Legal d b (prefix_at log t)
  legal_to t log legal h =
      let p = some_to t log legal h in
      let n = newer_to t (last_at log + t) log legal (omega arith) in
      let whole : log ≡ n.0 ++ p.0 ∷ p.1 = sym (all_to (last_at log + t) log legal (omega arith)) ∙ (n.1 ∙ ap (λ xs. n.0 ++ xs) p.2) in
      subst (Legal d b) (sym p.2) (legal_prefix d b n.0 p.0 p.1 (subst (Legal d b) whole legal))
