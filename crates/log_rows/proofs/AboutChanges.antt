-- The entries about an operation, which all changed the operation's pairs, and the last of them.
use Rattle.std.proofs.Common.{◌≡◌, ℕ, zero, suc, ◌<◌, ◌≤◌, Bool, true, false, cond, ◌||◌, eqb, List, [], ◌∷◌, ◌++◌, length, map, Option, Some, None, refl, sym, ◌∙◌, ap, subst, inl, inr, ◌⊎◌, arith, append_assoc}
use Rattle.std.specs.List.{find, slice_get}
use Rattle.std.specs.Option.{option_map_or}
use Rattle.std.proofs.lemmas.Bool.{eqb-true, false≢true, or_cases}
use Rattle.op_model.specs.declared.base.Dataset.{Dataset}
use Rattle.op_model.specs.declared.base.Base.{Base}
use Rattle.op_model.specs.declared.request.Edit.{Edit}
use Rattle.op_model.specs.declared.request.Edit.TheVariants.{Merge, Split, Undo, Redo}
use Rattle.op_model.specs.declared.entry.Asked.TheVariants as asked
use Rattle.op_model.specs.declared.entry.Changed.{Changed}
use Rattle.op_model.specs.declared.entry.Entry.{Entry}
use Rattle.op_model.specs.declared.request.Request.TheVariants as request
use Rattle.node_ids.specs.Ids.{IsLayout}
use Rattle.op_model.specs.Operations.{undoes, redoes, entry_at, last_about, changed_by, opposite, first_entry}
use Rattle.op_model.specs.Refusals.{refuse_early, refuse_edit, refused}
use Rattle.op_model.specs.Legal.{Legal}
use Rattle.op_model.proofs.AboutLemmas.{follows_asked, undone, redone, undo_some, redo_some, number_below}
use Rattle.op_model.proofs.HistoryLemmas.{legal_prefix}
use Rattle.op_model.proofs.LegalLemmas.{first_none}
use Rattle.record_rows.proofs.EntryRecords.{number_told}
use Rattle.log_rows.proofs.EntryParts.{found_again, number_found}
use Rattle.log_rows.proofs.Seeks.{found_split}
use Rattle.log_rows.proofs.WalkBack.{about_there}

-- whether the entry is the operation, or undoes or redoes it
abbrev pub about : ℕ → Entry → Bool
about op e = eqb e.number op || undoes e.asked op || redoes e.asked op

-- the entry that is found passes the test, and stands in the log
pub found_passes : (test : Entry → Bool) (log : List Entry) (f : Entry) → find test log ≡ Some f → (test f ≡ true) × (newer : List Entry) × (older : List Entry) × (log ≡ newer ++ f ∷ older)
found_passes test [] f h = cc
found_passes test (e ∷ log) f h = go (test e) refl h (found_passes test log f)
  where
    go : (t : Bool) → test e ≡ t → cond t (Some e) (find test log) ≡ Some f → (find test log ≡ Some f → (test f ≡ true) × (newer : List Entry) × (older : List Entry) × (log ≡ newer ++ f ∷ older))
        → (test f ≡ true) × (newer : List Entry) × (older : List Entry) × (e ∷ log ≡ newer ++ f ∷ older)
    go true t q ih = let k : e ≡ f = cc in (ap test (sym k) ∙ t, [], log, ap (λ x. x ∷ log) k)
    go false t q ih = let r = ih q in (r.0, e ∷ r.1, r.2, ap (λ xs. e ∷ xs) r.3)

-- an edit that undoes an operation is the undo of it
undo_is : (edit : Edit) (n : ℕ) → undoes (asked.Edit edit) n ≡ true → edit ≡ Undo n
unfolding undoes
undo_is (Merge pairs) n h = absurd (false≢true h)
undo_is (Split s t) n h = absurd (false≢true h)
undo_is (Undo k) n h = ap Undo (eqb-true k n h)
undo_is (Redo k) n h = absurd (false≢true h)

redo_is : (edit : Edit) (n : ℕ) → redoes (asked.Edit edit) n ≡ true → edit ≡ Redo n
unfolding redoes
redo_is (Merge pairs) n h = absurd (false≢true h)
redo_is (Split s t) n h = absurd (false≢true h)
redo_is (Undo k) n h = absurd (false≢true h)
redo_is (Redo k) n h = ap Redo (eqb-true k n h)

-- the same pairs, with the same states or with the others
abbrev pub Turns : List Changed → List Changed → Type 0
Turns xs ys = (xs ≡ ys) ⊎ (xs ≡ map opposite ys)

-- the pair of each place is the same
pub turned_pair : (xs ys : List Changed) (i : ℕ) (c : Changed) → Turns xs ys → slice_get ys i ≡ Some c → (x : Changed) × (slice_get xs i ≡ Some x) × (x.pair ≡ c.pair)
unfolding opposite
turned_pair xs ys i c (inl q) h = (c, ap (λ zs. slice_get zs i) q ∙ h, refl)
turned_pair xs ys i c (inr q) h = (opposite c, ap (λ zs. slice_get zs i) q ∙ mapped ys i c h, kept c)
  where
    mapped : (ys : List Changed) (i : ℕ) (c : Changed) → slice_get ys i ≡ Some c → slice_get (map opposite ys) i ≡ Some (opposite c)
    mapped [] i c h = cc
    mapped (y ∷ ys) zero c h = let s : y ≡ c = cc in ap (λ z. Some (opposite z)) s
    mapped (y ∷ ys) (suc i) c h = mapped ys i c h

    kept : (c : Changed) → (opposite c).pair ≡ c.pair
    kept c = refl

module _ (d : Dataset) (b : Base) (bits : IsLayout d.layout) where
  allowed_early : (log : List Entry) (edit : Edit) → refused d b log (request.Edit edit) ≡ None → refuse_early d b log edit ≡ None
  unfolding refused refuse_edit
  allowed_early log edit h = (first_none _ _ h).0

  -- an entry of the log before is one of the log
  there : (log newer : List Entry) (g : Entry) (older : List Entry) (op : ℕ) (y : Entry) → Legal d b log → log ≡ newer ++ g ∷ older → entry_at older op ≡ Some y → entry_at log op ≡ Some y
  there log newer g older op y legal w h =
      let s = found_split older op y h in
      let whole : log ≡ (newer ++ g ∷ s.0) ++ y ∷ s.1 = w ∙ (ap (λ l. newer ++ g ∷ l) s.2 ∙ sym (append_assoc newer (g ∷ s.0) (y ∷ s.1))) in
      let again : entry_at log y.number ≡ Some y = subst (λ l. entry_at l y.number ≡ Some y) (sym whole) (found_again d b (newer ++ g ∷ s.0) y s.1 (subst (Legal d b) whole legal)) in
      ap (entry_at log) (sym (number_found older op y h)) ∙ again

  changed_there : (log : List Entry) (op : ℕ) → 0 < length (changed_by log op) → (y : Entry) × (entry_at log op ≡ Some y) × (changed_by log op ≡ y.changed) × (0 < length y.changed)
  unfolding changed_by
  changed_there log op l = go (entry_at log op) refl l
    where
      go : (o : Option Entry) → entry_at log op ≡ o → 0 < length (option_map_or (λ e. e.changed) o []) → (y : Entry) × (entry_at log op ≡ Some y) × (option_map_or (λ e. e.changed) (entry_at log op) [] ≡ y.changed) × (0 < length y.changed)
      go None q m = absurd (omega arith)
      go (Some y) q m = (y, q, ap (λ o. option_map_or (λ e. e.changed) o []) q, m)

  -- an entry about an operation is the operation, or changed its pairs, of which there are some
  pub about_changed : (log : List Entry) (op : ℕ) (x g : Entry) → Legal d b log → entry_at log op ≡ Some x → entry_at log g.number ≡ Some g → about op g ≡ true
      → (g.number ≡ op) ⊎ (Turns g.changed x.changed × (0 < length x.changed))
  unfolding undoes redoes first_entry
  about_changed log op x g legal at found t =
      let s = found_split log g.number g found in
      go s.1 s.0 s.2 (legal_prefix d b s.0 g s.1 (subst (Legal d b) s.2 legal)) (or_cases (eqb g.number op || undoes g.asked op) (redoes g.asked op) t)
    where
      is_x : (older newer : List Entry) → log ≡ newer ++ g ∷ older → (y : Entry) → entry_at older op ≡ Some y → y ≡ x
      is_x older newer w y h = let r : entry_at log op ≡ Some y = there log newer g older op y legal w h in let z : Some y ≡ Some x = sym r ∙ at in cc

      undo : (older newer : List Entry) → log ≡ newer ++ g ∷ older → Legal d b (g ∷ older) → undoes g.asked op ≡ true → Turns g.changed x.changed × (0 < length x.changed)
      undo [] newer w l u = absurd (false≢true (sym (ap (λ y. undoes y.asked op) l.0) ∙ u))
      undo (f ∷ older) newer w l u =
          let edit : Edit = l.0.0 in
          let e : edit ≡ Undo op = undo_is edit op (subst (λ a. undoes a op ≡ true) (follows_asked d b g f older l) u) in
          let early : refuse_early d b (f ∷ older) (Undo op) ≡ None = subst (λ k. refuse_early d b (f ∷ older) k ≡ None) e (allowed_early (f ∷ older) edit l.0.1) in
          let c = changed_there (f ∷ older) op (undo_some d b bits (f ∷ older) op l.1 early) in
          let k : c.0 ≡ x = is_x (f ∷ older) newer w c.0 c.1 in
          (inr (undone d b g f older l op u ∙ (ap (map opposite) c.2 ∙ ap (λ (y : Entry). map opposite y.changed) k)), subst (λ (y : Entry). 0 < length y.changed) k c.3)

      redo : (older newer : List Entry) → log ≡ newer ++ g ∷ older → Legal d b (g ∷ older) → redoes g.asked op ≡ true → Turns g.changed x.changed × (0 < length x.changed)
      redo [] newer w l u = absurd (false≢true (sym (ap (λ y. redoes y.asked op) l.0) ∙ u))
      redo (f ∷ older) newer w l u =
          let edit : Edit = l.0.0 in
          let e : edit ≡ Redo op = redo_is edit op (subst (λ a. redoes a op ≡ true) (follows_asked d b g f older l) u) in
          let early : refuse_early d b (f ∷ older) (Redo op) ≡ None = subst (λ k. refuse_early d b (f ∷ older) k ≡ None) e (allowed_early (f ∷ older) edit l.0.1) in
          let c = changed_there (f ∷ older) op (redo_some d b bits (f ∷ older) op l.1 early) in
          let k : c.0 ≡ x = is_x (f ∷ older) newer w c.0 c.1 in
          (inl (redone d b g f older l op u ∙ (c.2 ∙ ap (λ (y : Entry). y.changed) k)), subst (λ (y : Entry). 0 < length y.changed) k c.3)

      go : (older newer : List Entry) → log ≡ newer ++ g ∷ older → Legal d b (g ∷ older) → ((eqb g.number op || undoes g.asked op) ≡ true) ⊎ (redoes g.asked op ≡ true) → (g.number ≡ op) ⊎ (Turns g.changed x.changed × (0 < length x.changed))
      go older newer w l (inr r) = inr (redo older newer w l r)
      go older newer w l (inl r) = elim (or_cases (eqb g.number op) (undoes g.asked op) r) [ inl n ↦ inl (eqb-true g.number op n) | inr u ↦ inr (undo older newer w l u) ]

module _ (d : Dataset) (b : Base) (log : List Entry) (legal : Legal d b log) where
  -- what is found first of a log is of the greatest number
  pub first_greatest : (test : Entry → Bool) (l : List Entry) (y f : Entry) → Legal d b l → find test l ≡ Some y → entry_at l f.number ≡ Some f → test f ≡ true → f.number ≤ y.number
  unfolding entry_at
  first_greatest test [] y f lg h k t = absurd lg
  first_greatest test (e ∷ []) y f lg h k t = go (test e) h (eqb e.number f.number) k
    where
      go : (s : Bool) → cond s (Some e) None ≡ Some y → (u : Bool) → cond u (Some e) None ≡ Some f → f.number ≤ y.number
      go false q u r = cc
      go true q false r = cc
      go true q true r = let m : e ≡ y = cc in let n : e ≡ f = cc in let z : f.number ≡ y.number = ap (λ (x : Entry). x.number) (sym n ∙ m) in omega arith
  first_greatest test (e ∷ g ∷ l) y f lg h k t = go (test e) refl h (eqb e.number f.number) k (first_greatest test (g ∷ l) y f lg.1)
    where
      number : e.number ≡ length (g ∷ l)
      number = number_told d b e (g ∷ l) lg

      go : (s : Bool) → test e ≡ s → cond s (Some e) (find test (g ∷ l)) ≡ Some y → (u : Bool) → cond u (Some e) (find (λ x. eqb x.number f.number) (g ∷ l)) ≡ Some f
          → (find test (g ∷ l) ≡ Some y → entry_at (g ∷ l) f.number ≡ Some f → test f ≡ true → f.number ≤ y.number) → f.number ≤ y.number
      go true p q true r ih = let m : e ≡ y = cc in let n : e ≡ f = cc in let z : f.number ≡ y.number = ap (λ (x : Entry). x.number) (sym n ∙ m) in omega arith
      go true p q false r ih =
          let m : e ≡ y = cc in
          let z : e.number ≡ y.number = ap (λ (x : Entry). x.number) m in
          let low = number_below d b (g ∷ l) f.number f lg.1 r in
          let n = number in
          omega (arith, z, low, n)
      go false p q true r ih = let n : e ≡ f = cc in absurd (false≢true (sym p ∙ (ap test n ∙ t)))
      go false p q false r ih = ih q r t

  -- the entry about the operation that no other one is behind is the last one
  pub last_is : (op found : ℕ) (x f : Entry) → entry_at log op ≡ Some x → entry_at log found ≡ Some f → about op f ≡ true
      → ((g : Entry) → entry_at log g.number ≡ Some g → about op g ≡ true → g.number ≤ found) → (e : Entry) × (last_about log op ≡ Some e) × (found ≡ e.number)
  unfolding last_about
  last_is op found x f at here t none =
      let y = about_there log op x at in
      let p = found_passes (about op) log y.0 y.1 in
      let again : entry_at log y.0.number ≡ Some y.0 = subst (λ l. entry_at l y.0.number ≡ Some y.0) (sym p.3) (found_again d b p.1 y.0 p.2 (subst (Legal d b) p.3 legal)) in
      let n : f.number ≡ found = number_found log found f here in
      let low : y.0.number ≤ found = none y.0 again p.0 in
      let high : f.number ≤ y.0.number = first_greatest (about op) log y.0 f legal y.1 (subst (λ k. entry_at log k ≡ Some f) (sym n) here) t in
      (y.0, y.1, omega (arith, n, low, high))
