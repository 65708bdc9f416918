-- The walk along the changes of an edge that finds its state at a prefix.
use Rattle.std.proofs.Common.{◌≡◌, ℕ, zero, suc, ◌+◌, ◌<◌, ◌≤◌, Bool, true, false, cond, ◌&&◌, ltb, List, [], ◌∷◌, drop, Option, Some, None, refl, sym, ◌∙◌, ap, subst, lt-ltb, arith}
use Rattle.std.specs.List.{slice_get, filter_map, cons_option, last_or}
use Rattle.std.proofs.lemmas.Bool.{le-ltb}
use Rattle.std.proofs.lemmas.Option.{same_Some}
use Rattle.op_model.specs.declared.base.Pair.{Pair}
use Rattle.op_model.specs.declared.entry.Changed.{Changed}
use Rattle.op_model.specs.Edges.{same_pair}
use Rattle.op_model.proofs.EdgeLemmas.{same_pair_self}
use Rattle.record_rows.specs.Rows.{Row, ChangeRow}
use Rattle.record_rows.specs.Chains.{change_of}
use Rattle.record_rows.specs.Readings.{first_place, next_place}
use Rattle.record_rows.proofs.WalkLemmas.{LeadsTo, from_spot, first_leads, next_leads, gather_first, gather_step}
use Rattle.edge_rows.proofs.EdgeMeaning.{state_below}

-- what is no change of the pair gives it no state
pub no_change : (q : Pair) (prefix : ℕ) (row : Row) → change_of q row ≡ false → state_below q prefix row ≡ None
unfolding change_of state_below
no_change q prefix (ChangeRow entry c) h = rw h refl
no_change q prefix row h = refl

get_drop : (p j : ℕ) (rows : List Row) → slice_get (drop p rows) j ≡ slice_get rows (p + j)
get_drop zero j rows = let e : 0 + j ≡ j = omega arith in ap (slice_get rows) (sym e)
get_drop (suc p) j [] = refl
get_drop (suc p) j (x ∷ rows) = let e : suc p + j ≡ suc (p + j) = omega arith in get_drop p j rows ∙ ap (slice_get (x ∷ rows)) (sym e)

-- nothing is picked where no record is
pub none_picked : {X : Type 0} (pick : Row → Option X) (rows : List Row) → ((j : ℕ) (row : Row) → slice_get rows j ≡ Some row → pick row ≡ None) → filter_map pick rows ≡ []
none_picked pick [] f = refl
none_picked pick (x ∷ rows) f = let n : pick x ≡ None = f 0 x refl in rw n (none_picked pick rows (λ j row h. f (suc j) row h))

module _ (rows : List Row) (q : Pair) (prefix : ℕ) (answer : Bool) where
  -- where the walk stands, and that the last change left below the prefix, or else the state so far, gives the answer
  abbrev pub Told : Bool → Option ℕ → Type 0
  Told active at = LeadsTo (change_of q) rows at × (last_or (Some active) (filter_map (state_below q prefix) (from_spot rows at)) ≡ Some answer)

  pub told_first : (row : Row) (active : Bool) (at : Option ℕ) → slice_get rows 0 ≡ Some row → change_of q row ≡ false → at ≡ first_place (change_of q) rows
      → last_or (Some active) (filter_map (state_below q prefix) rows) ≡ Some answer → Told active at
  told_first row active at h t e w =
      subst (Told active) (sym e) (
        first_leads (change_of q) rows row h t,
        ap (last_or (Some active)) (sym (gather_first (change_of q) (state_below q prefix) (no_change q prefix) rows row h t)) ∙ w,
      )

  -- what is left at a change is the state that it gives, and what is left behind it
  step : (active : Bool) (at : Option ℕ) (p entry : ℕ) (c : Changed) → at ≡ Some p → Told active at → slice_get rows p ≡ Some (ChangeRow entry c) → c.pair ≡ q
      → last_or (Some active) (cons_option (cond (ltb entry prefix) (Some c.active) None) (filter_map (state_below q prefix) (from_spot rows (next_place (change_of q) rows p)))) ≡ Some answer
  unfolding state_below
  step active at p entry c e w h r =
      let same : same_pair c.pair q ≡ true = ap (λ x. same_pair x q) r ∙ same_pair_self q in
      let rest : List Bool = filter_map (state_below q prefix) (from_spot rows (next_place (change_of q) rows p)) in
      ap (λ t. last_or (Some active) (cons_option (cond (t && ltb entry prefix) (Some c.active) None) rest)) (sym same)
      ∙ (ap (last_or (Some active)) (sym (ap (λ o. filter_map (state_below q prefix) (from_spot rows o)) e ∙ gather_step (change_of q) (state_below q prefix) (no_change q prefix) rows p (ChangeRow entry c) h)) ∙ w.1)

  pub told_below : (active : Bool) (at : Option ℕ) (p entry : ℕ) (c : Changed) (next : Option ℕ) → at ≡ Some p → Told active at → slice_get rows p ≡ Some (ChangeRow entry c) → c.pair ≡ q → entry < prefix
      → next ≡ next_place (change_of q) rows p → Told c.active next
  told_below active at p entry c next e w h r l n =
      let rest : List Bool = filter_map (state_below q prefix) (from_spot rows (next_place (change_of q) rows p)) in
      subst (Told c.active) (sym n) (
        next_leads (change_of q) rows p,
        ap (λ t. last_or (Some active) (cons_option (cond t (Some c.active) None) rest)) (sym (lt-ltb entry prefix l)) ∙ step active at p entry c e w h r,
      )

  -- the first change that is too new: no later one counts
  pub told_stop : (active : Bool) (at : Option ℕ) (p entry : ℕ) → at ≡ Some p → Told active at → prefix ≤ entry → ((j n : ℕ) (x : Changed) → p ≤ j → slice_get rows j ≡ Some (ChangeRow n x) → entry ≤ n) → active ≡ answer
  unfolding state_below from_spot
  told_stop active at p entry e w l order =
      let here : Told active (Some p) = subst (Told active) e w in
      let none : filter_map (state_below q prefix) (drop p rows) ≡ [] = none_picked (state_below q prefix) (drop p rows) (λ j row h. late row (p + j) (omega arith) (sym (get_drop p j rows) ∙ h)) in
      same_Some active answer (ap (last_or (Some active)) (sym none) ∙ here.1)
    where
      late : (row : Row) (j : ℕ) → p ≤ j → slice_get rows j ≡ Some row → state_below q prefix row ≡ None
      late (ChangeRow n x) j m h = let k : entry ≤ n = order j n x m h in let f : ltb n prefix ≡ false = le-ltb n prefix (omega arith) in rw f (neither (same_pair x.pair q))
        where
          neither : (t : Bool) → cond (t && false) (Some x.active) None ≡ None
          neither true = refl
          neither false = refl
      late row j m h = refl

  pub told_end : (active : Bool) (at : Option ℕ) → ((p : ℕ) → at ≡ Some p → ⊥) → Told active at → active ≡ answer
  unfolding from_spot
  told_end active None n w = same_Some active answer w.1
  told_end active (Some p) n w = absurd (n p refl)
