-- An entry of a legal log gives its changed pairs one state.
use Rattle.std.proofs.Common.{◌≡◌, ℕ, Bool, true, false, cond, not, eqb, List, [], ◌∷◌, map, refl, sym, ap, subst, Option, Some, None}
use Rattle.std.specs.List.{find, AllByRecursion}
use Rattle.std.specs.Option.{option_map_or}
use Rattle.op_model.specs.declared.base.Dataset.{Dataset}
use Rattle.op_model.specs.declared.base.Base.{Base}
use Rattle.op_model.specs.declared.base.Pair.{Pair}
use Rattle.op_model.specs.declared.request.Edit.{Edit}
use Rattle.op_model.specs.declared.request.Edit.TheVariants.{Merge, Split, Undo, Redo}
use Rattle.op_model.specs.declared.entry.Changed.{Changed}
use Rattle.op_model.specs.declared.entry.Entry.{Entry}
use Rattle.op_model.specs.Edges.{named}
use Rattle.op_model.specs.Cuts.{part, least_cut}
use Rattle.op_model.specs.Operations.{entry_at, changed_by, opposite, change, entry_of, next_entry, first_entry}
use Rattle.op_model.specs.Legal.{Legal}
use Rattle.unite_laws.specs.Uniting.{HaveState}

-- the changed pairs have one state
abbrev OneState : List Changed → Type 0
OneState cs = (on : Bool) × HaveState on cs

all_find : (P : Entry → Type 0) (t : Entry → Bool) (xs : List Entry) (x : Entry) → AllByRecursion P xs → find t xs ≡ Some x → P x
all_find P t [] x a e = cc
all_find P t (y ∷ ys) x a e = go (t y) e (all_find P t ys x a.1)
  where
    go : (b : Bool) → cond b (Some y) (find t ys) ≡ Some x → (find t ys ≡ Some x → P x) → P x
    go true q ih = let k : y ≡ x = cc in subst P k a.0
    go false q ih = ih q

given_state : (on : Bool) (ps : List Pair) → HaveState on (map (λ p. record { pair = p; active = on }) ps)
given_state on [] = tt
given_state on (p ∷ ps) = (refl, given_state on ps)

opposite_state : (on : Bool) (cs : List Changed) → HaveState on cs → HaveState (not on) (map opposite cs)
unfolding opposite
opposite_state on [] h = tt
opposite_state on (c ∷ cs) h = (ap not h.0, opposite_state on cs h.1)

by_state : (log : List Entry) (n : ℕ) → AllByRecursion (λ e. OneState e.changed) log → OneState (changed_by log n)
unfolding changed_by entry_at
by_state log n a = go (find (λ e. eqb e.number n) log) refl
  where
    go : (o : Option Entry) → find (λ e. eqb e.number n) log ≡ o → OneState (option_map_or (λ e. e.changed) o [])
    go None q = (true, tt)
    go (Some y) q = all_find (λ e. OneState e.changed) (λ e. eqb e.number n) log y a q

module _ (d : Dataset) (b : Base) where
  change_state : (log : List Entry) (edit : Edit) → AllByRecursion (λ e. OneState e.changed) log → OneState (change d b log edit)
  unfolding change
  change_state log (Merge pairs) a = (true, given_state true (named pairs))
  change_state log (Split s t) a = (false, given_state false (least_cut (part d b log s) s t))
  change_state log (Undo n) a = let p = by_state log n a in (not p.0, opposite_state p.0 (changed_by log n) p.1)
  change_state log (Redo n) a = by_state log n a

  pub legal_state : (log : List Entry) → Legal d b log → AllByRecursion (λ e. OneState e.changed) log
  unfolding first_entry next_entry entry_of
  legal_state [] legal = absurd legal
  legal_state (e ∷ []) legal =
      let q : e.changed ≡ [] = ap (λ x. x.changed) legal.0 in
      let k : OneState e.changed = subst OneState (sym q) (true, tt) in
      (k, tt)
  legal_state (e ∷ f ∷ log) legal =
      let ih = legal_state (f ∷ log) legal.1 in
      let q : e.changed ≡ change d b (f ∷ log) legal.0.0 = ap (λ x. x.changed) legal.0.2 in
      let k : OneState e.changed = subst OneState (sym q) (change_state (f ∷ log) legal.0.0 ih) in
      (k, ih)

  -- the first pair that an edit changes tells the state of all
  pub edit_state : (log : List Entry) (edit : Edit) (c : Changed) (more : List Changed) → Legal d b log → change d b log edit ≡ c ∷ more → HaveState c.active (change d b log edit)
  edit_state log edit c more legal q =
      let s = change_state log edit (legal_state log legal) in
      let h : HaveState s.0 (c ∷ more) = subst (HaveState s.0) q s.1 in
      subst (λ on. HaveState on (change d b log edit)) (sym h.0) s.1

  -- the first changed pair tells the state of all
  pub first_state : (e : Entry) (log : List Entry) (c : Changed) (more : List Changed) → Legal d b (e ∷ log) → e.changed ≡ c ∷ more → HaveState c.active e.changed
  first_state e log c more legal q =
      let s = (legal_state (e ∷ log) legal).0 in
      let h : HaveState s.0 (c ∷ more) = subst (HaveState s.0) q s.1 in
      subst (λ on. HaveState on e.changed) (sym h.0) s.1
