-- The first record of a chain that passes a narrower test, found on a walk along the chain.
use Rattle.std.proofs.Common.{◌≡◌, ℕ, zero, suc, ◌+◌, ◌≤◌, Bool, true, false, cond, List, [], ◌∷◌, drop, Option, Some, None, refl, sym, ◌∙◌, ap, subst, arith}
use Rattle.std.specs.List.{slice_get}
use Rattle.record_rows.specs.Rows.{Row}
use Rattle.record_rows.specs.Words.{place_from}
use Rattle.record_rows.specs.Readings.{place_of, first_place, next_place}
use Rattle.record_rows.proofs.WalkLemmas.{LeadsTo, from_here, place_of-some, first_leads, next_leads}

module _ (wide narrow : Row → Bool) (none : (row : Row) → wide row ≡ false → narrow row ≡ false) (all : List Row) where
  -- where the first record stands that passes the narrow test, from a place on
  unfoldable pub place_left : Option ℕ → Option ℕ
  place_left None = None
  place_left (Some p) = place_of (place_from narrow p (drop p all))

  narrowed : (place : ℕ) (rows : List Row) → 1 ≤ place → drop place all ≡ rows → place_of (place_from narrow place rows) ≡ place_left (place_of (place_from wide place rows))
  unfolding place_from place_of place_left
  narrowed place [] l h = refl
  narrowed place (row ∷ rows) l h = go (wide row) refl (narrowed (place + 1) rows (omega arith) (behind all place row rows h))
    where
      behind : (rs : List Row) (p : ℕ) (r : Row) (more : List Row) → drop p rs ≡ r ∷ more → drop (p + 1) rs ≡ more
      behind [] zero r more h = cc
      behind [] (suc p) r more h = cc
      behind (x ∷ rs) zero r more h = cc
      behind (x ∷ rs) (suc p) r more h = let e : suc p + 1 ≡ suc (p + 1) = omega arith in rw e (behind rs p r more h)

      go : (t : Bool) → wide row ≡ t → place_of (place_from narrow (place + 1) rows) ≡ place_left (place_of (place_from wide (place + 1) rows))
          → place_of (place_from narrow place (row ∷ rows)) ≡ place_left (place_of (cond t place (place_from wide (place + 1) rows)))
      go true e ih = sym (ap place_left (place_of-some place l) ∙ ap (λ rs. place_of (place_from narrow place rs)) h)
      go false e ih = let n : narrow row ≡ false = none row e in rw n ih

  pub narrow_first : (header : Row) → slice_get all 0 ≡ Some header → wide header ≡ false → place_left (first_place wide all) ≡ first_place narrow all
  unfolding first_place place_from
  narrow_first header h t =
      sym (ap place_of (skip narrow (none header t)) ∙ (narrowed 1 (drop 1 all) (omega arith) refl ∙ ap (λ n. place_left (place_of n)) (sym (skip wide t))))
    where
      skip : (test : Row → Bool) → test header ≡ false → place_from test 0 all ≡ place_from test 1 (drop 1 all)
      skip test n = ap (place_from test 0) (from_here all 0 header h) ∙ rw n refl

  -- what is left at a record is the record, if it passes the narrow test, or else what is left from the next one on
  narrow_step : (p : ℕ) (row : Row) → 1 ≤ p → slice_get all p ≡ Some row → place_left (Some p) ≡ cond (narrow row) (Some p) (place_left (next_place wide all p))
  unfolding next_place place_from place_left
  narrow_step p row l h = ap (λ rs. place_of (place_from narrow p rs)) (from_here all p row h) ∙ go (narrow row) (narrowed (p + 1) (drop (p + 1) all) (omega arith) refl)
    where
      go : (t : Bool) → place_of (place_from narrow (p + 1) (drop (p + 1) all)) ≡ place_left (place_of (place_from wide (p + 1) (drop (p + 1) all)))
          → place_of (cond t p (place_from narrow (p + 1) (drop (p + 1) all))) ≡ cond t (Some p) (place_left (place_of (place_from wide (p + 1) (drop (p + 1) all))))
      go true ih = place_of-some p l
      go false ih = ih

  -- where the walk stands, and that the first record left that passes the narrow test is the first of all
  abbrev pub Sought : Option ℕ → Type 0
  Sought at = LeadsTo wide all at × (place_left at ≡ first_place narrow all)

  pub sought_first : (header : Row) (at : Option ℕ) → slice_get all 0 ≡ Some header → wide header ≡ false → at ≡ first_place wide all → Sought at
  sought_first header at h t e = subst Sought (sym e) (first_leads wide all header h t, narrow_first header h t)

  here : (p : ℕ) (row : Row) → Sought (Some p) → slice_get all p ≡ Some row → cond (narrow row) (Some p) (place_left (next_place wide all p)) ≡ first_place narrow all
  here p row w h = sym (narrow_step p row w.0.0 h) ∙ w.1

  -- the record that passes the narrow test is the first one
  pub sought_here : (at : Option ℕ) (p : ℕ) (row : Row) → at ≡ Some p → Sought at → slice_get all p ≡ Some row → narrow row ≡ true → Some p ≡ first_place narrow all
  sought_here at p row e w h t = ap (λ s. cond s (Some p) (place_left (next_place wide all p))) (sym t) ∙ here p row (subst Sought e w) h

  pub sought_next : (at : Option ℕ) (p : ℕ) (row : Row) (next : Option ℕ) → at ≡ Some p → Sought at → slice_get all p ≡ Some row → narrow row ≡ false → next ≡ next_place wide all p → Sought next
  sought_next at p row next e w h t n =
      subst Sought (sym n) (next_leads wide all p, ap (λ s. cond s (Some p) (place_left (next_place wide all p))) (sym t) ∙ here p row (subst Sought e w) h)

  pub sought_end : (at : Option ℕ) → ((p : ℕ) → at ≡ Some p → ⊥) → Sought at → None ≡ first_place narrow all
  unfolding place_left
  sought_end None n w = w.1
  sought_end (Some p) n w = absurd (n p refl)

-- where no record passes the test, no place is found
pub no_place : (test : Row → Bool) (rows : List Row) (found : Option ℕ) → LeadsTo test rows found → ((p : ℕ) (row : Row) → slice_get rows p ≡ Some row → test row ≡ true → ⊥) → None ≡ found
no_place test rows None w n = refl
no_place test rows (Some p) (l, row, h, t) n = absurd (n p row h t)
