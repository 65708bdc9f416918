-- Walks along a chain: that they end, and what the last record of a chain is.
use Rattle.std.proofs.Common.{◌≡◌, ℕ, zero, suc, ◌+◌, ◌-◌, ◌/◌, ◌<◌, ◌≤◌, Bool, true, false, cond, List, [], ◌∷◌, ◌++◌, length, drop, Option, Some, None, refl, sym, ◌∙◌, ap, subst, inl, inr, arith}
use Rattle.std.proofs.lemmas.Bool.{false≢true}
use Rattle.std.proofs.lemmas.Option.{slice_get_within}
use Rattle.parent_rows.specs.Steps.{MayStart}
use Rattle.std.specs.List.{slice_get, last_or}
use Rattle.op_model.specs.declared.base.Dataset.{Dataset}
use Rattle.op_model.specs.declared.base.Base.{Base}
use Rattle.op_model.specs.declared.entry.Entry.{Entry}
use Rattle.record_rows.specs.Rows.{Row, HeaderRow}
use Rattle.record_rows.specs.Words.{place_from}
use Rattle.record_rows.specs.LogRows.{rows_of, chunks}
use Rattle.record_rows.specs.Readings.{ParentImage, Holds, place_of, members, last_place, first_place, next_place}
use Rattle.record_rows.proofs.ImageFacts.{within, header}
use Rattle.record_rows.proofs.WalkLemmas.{from_here, drop_step, place_of-some, LeadsTo, Behind, steps_left, places_from, first_leads, next_leads, next_behind, places_first, places_step}

-- what is told by words that are as they were
pub image_kept : {A : Type 0} (words : A → List ℕ) (d : Dataset) (b : Base) (log : List Entry) {v w : A} → v ≡ w → ParentImage d b log (words w) → ParentImage d b log (words v)
image_kept words d b log e i = subst (λ x. ParentImage d b log (words x)) (sym e) i

fewer : (n p : ℕ) (next : Option ℕ) → p < n → Behind p next → steps_left n next < steps_left n (Some p)
unfolding steps_left
fewer n p None l h = omega arith
fewer n p (Some q) l h = let m : p < q = h in omega arith

-- from the next record of a chain on, fewer steps are left
pub walk_falls : (d : Dataset) (b : Base) (log : List Entry) (words : List ℕ) → ParentImage d b log words → (p : ℕ) (row : Row) → Holds d b log p row → (test : Row → Bool)
    → {at next : Option ℕ} → at ≡ Some p → next ≡ next_place test (rows_of d b log) p → steps_left (length words / 8) next < steps_left (length words / 8) at
walk_falls d b log words i p row h test {at = at} {next = next} f e =
    let w = within d b log words i p row h in
    subst (λ o. steps_left (length words / 8) next < steps_left (length words / 8) o) (sym f)
    (subst (λ o. steps_left (length words / 8) o < steps_left (length words / 8) (Some p)) (sym e) (fewer (length words / 8) p (next_place test (rows_of d b log) p) (omega arith) (next_behind test (rows_of d b log) p)))

-- and so they are from one that lies behind the record there
pub leap_falls : (d : Dataset) (b : Base) (log : List Entry) (words : List ℕ) → ParentImage d b log words → (p q : ℕ) (row : Row) → p ≤ q → Holds d b log q row → (test : Row → Bool)
    → {at next : Option ℕ} → at ≡ Some p → next ≡ next_place test (rows_of d b log) q → steps_left (length words / 8) next < steps_left (length words / 8) at
unfolding steps_left
leap_falls d b log words i p q row l h test {at = at} {next = next} f e =
    let n = walk_falls d b log words i q row h test refl e in
    subst (λ o. steps_left (length words / 8) next < steps_left (length words / 8) o) (sym f) (lower (length words / 8) next n)
  where
    lower : (n : ℕ) (o : Option ℕ) → steps_left n o < steps_left n (Some q) → steps_left n o < steps_left n (Some p)
    lower n o h = omega arith

-- a walk that has this as the last record of the chain before it reaches the one there
abbrev pub AtLast : (Row → Bool) → List Row → Option ℕ → Option ℕ → Type 0
AtLast test rows at found = LeadsTo test rows at × (last_or found (places_from test rows at) ≡ last_place test rows)

-- no header is of the chain
abbrev pub NoHeader : (Row → Bool) → Type 0
NoHeader test = (d : Dataset) (m n : ℕ) → test (HeaderRow d m n) ≡ false

pub last_first : (d : Dataset) (b : Base) (log : List Entry) (words : List ℕ) → ParentImage d b log words → (test : Row → Bool) → NoHeader test → {at : Option ℕ} → at ≡ first_place test (rows_of d b log) → AtLast test (rows_of d b log) at None
unfolding last_place
last_first d b log words i test none e =
    let rows = rows_of d b log in
    let h = header d b log words i in
    let t = none d (length b.supervoxels) (length (chunks d b)) in
    subst (λ o. AtLast test rows o None) (sym e) (first_leads test rows _ h t, sym (ap (last_or None) (places_first test rows _ h t)))

module _ (test : Row → Bool) (rows : List Row) where
  pub last_step : (p : ℕ) (found : Option ℕ) {at next : Option ℕ} → at ≡ Some p → next ≡ next_place test rows p → AtLast test rows at found → AtLast test rows next (Some p)
  last_step p found {at = at} e f a =
      let h : AtLast test rows (Some p) found = subst (λ o. AtLast test rows o found) e a in
      subst (λ o. AtLast test rows o (Some p)) (sym f) (next_leads test rows p, sym (ap (last_or found) (places_step test rows p h.0.1 h.0.2 h.0.3)) ∙ h.1)

  pub last_end : (at found : Option ℕ) → ((p : ℕ) → at ≡ Some p → ⊥) → AtLast test rows at found → found ≡ last_place test rows
  unfolding places_from
  last_end None found n a = a.1
  last_end (Some p) found n a = absurd (n p refl)

  parted_members : (k p : ℕ) → p + k ≤ length rows → (before : List ℕ) × (members test p (drop p rows) ≡ before ++ members test (p + k) (drop (p + k) rows))
  unfolding members
  parted_members zero p l = ([], (let e : p ≡ p + 0 = omega arith in ap (λ n. members test n (drop n rows)) e))
  parted_members (suc k) p l = go (parted_members k (p + 1) (omega arith)) (row_at rows p (omega arith))
    where
      row_at : (rs : List Row) (j : ℕ) → j < length rs → (row : Row) × (slice_get rs j ≡ Some row)
      row_at [] j m = absurd (omega arith)
      row_at (r ∷ rs) zero m = (r, refl)
      row_at (r ∷ rs) (suc j) m = row_at rs j (omega arith)

      go : ((before : List ℕ) × (members test (p + 1) (drop (p + 1) rows) ≡ before ++ members test (p + 1 + k) (drop (p + 1 + k) rows))) → ((row : Row) × (slice_get rows p ≡ Some row))
          → (before : List ℕ) × (members test p (drop p rows) ≡ before ++ members test (p + suc k) (drop (p + suc k) rows))
      go ih r = split (test r.0) refl
        where
          there : p + 1 + k ≡ p + suc k
          there = omega arith

          rest : members test (p + 1) (drop (p + 1) rows) ≡ ih.0 ++ members test (p + suc k) (drop (p + suc k) rows)
          rest = ih.1 ∙ ap (λ n. ih.0 ++ members test n (drop n rows)) there

          here : members test p (drop p rows) ≡ cond (test r.0) (p ∷ members test (p + 1) (drop (p + 1) rows)) (members test (p + 1) (drop (p + 1) rows))
          here = ap (members test p) (from_here rows p r.0 r.1)

          split : (t : Bool) → test r.0 ≡ t → (before : List ℕ) × (members test p (drop p rows) ≡ before ++ members test (p + suc k) (drop (p + suc k) rows))
          split true e = (p ∷ ih.0, here ∙ ((rw e refl) ∙ ap (λ ns. p ∷ ns) rest))
          split false e = (ih.0, here ∙ ((rw e refl) ∙ rest))

  last_or_append : (o : Option ℕ) (xs ys : List ℕ) → last_or o (xs ++ ys) ≡ last_or (last_or o xs) ys
  last_or_append o [] ys = refl
  last_or_append o (x ∷ xs) ys = last_or_append (Some x) xs ys

  -- a walk may leap to any later record of the chain
  pub last_leap : (p q : ℕ) (found : Option ℕ) (row : Row) {at next : Option ℕ} → at ≡ Some p → p ≤ q → slice_get rows q ≡ Some row → test row ≡ true → next ≡ next_place test rows q → AtLast test rows at found → AtLast test rows next (Some q)
  unfolding places_from
  last_leap p q found row {at = at} e l h t f a =
      let here : AtLast test rows (Some p) found = subst (λ o. AtLast test rows o found) e a in
      let low : 1 ≤ p = here.0.0 in
      let w : q < length rows = slice_get_within rows q row h in
      let k : ℕ = q - p in
      let to : p + k ≡ q = omega arith in
      let part = parted_members k p (omega arith) in
      let step = places_step test rows q row h t in
      let all : members test p (drop p rows) ≡ part.0 ++ (q ∷ places_from test rows (next_place test rows q)) = part.1 ∙ (ap (λ n. part.0 ++ members test n (drop n rows)) to ∙ ap (λ ns. part.0 ++ ns) step) in
      let last = sym (last_or_append found part.0 (q ∷ places_from test rows (next_place test rows q))) ∙ (sym (ap (last_or found) all) ∙ here.1) in
      subst (λ o. AtLast test rows o (Some q)) (sym f) (next_leads test rows q, last)

  -- the last record is the last one from any that passes on
  pub last_from : (p : ℕ) (row : Row) → slice_get rows p ≡ Some row → test row ≡ true → last_or None (places_from test rows (Some p)) ≡ last_place test rows
  unfolding places_from last_place members
  last_from p row h t =
      let w : p < length rows = slice_get_within rows p row h in
      let part = parted_members p 0 (omega arith) in
      let here : members test p (drop p rows) ≡ p ∷ members test (p + 1) (drop (p + 1) rows) = ap (members test p) (from_here rows p row h) ∙ rw t refl in
      let rest = members test (p + 1) (drop (p + 1) rows) in
      let to : 0 + p ≡ p = omega arith in
      let all : members test 0 rows ≡ part.0 ++ (p ∷ rest) = part.1 ∙ (ap (λ n. part.0 ++ members test n (drop n rows)) to ∙ ap (λ ns. part.0 ++ ns) here) in
      ap (last_or None) here ∙ sym (ap (last_or None) all ∙ last_or_append None part.0 (p ∷ rest))

  pub last_start : (p : ℕ) (row : Row) → 1 ≤ p → slice_get rows p ≡ Some row → test row ≡ true → {at : Option ℕ} → at ≡ Some p → AtLast test rows at None
  last_start p row l h t e = subst (λ o. AtLast test rows o None) (sym e) ((l, row, h, t), last_from p row h t)

-- a test of which the chain has all records that pass it
module _ (chain test : Row → Bool) (sub : (row : Row) → chain row ≡ false → test row ≡ false) (all : List Row) where
  placed : (place : ℕ) (rows : List Row) → 1 ≤ place → drop place all ≡ rows → members test place rows ≡ places_from test all (place_of (place_from chain place rows))
  unfolding place_from places_from place_of members
  placed place [] l h = refl
  placed place (row ∷ rows) l h =
      let step : (slice_get all place ≡ Some row) × (drop (place + 1) all ≡ rows) = drop_step all place row rows h in
      go (chain row) refl (placed (place + 1) rows (omega arith) step.1)
    where
      go : (t : Bool) → chain row ≡ t → members test (place + 1) rows ≡ places_from test all (place_of (place_from chain (place + 1) rows))
          → cond (test row) (place ∷ members test (place + 1) rows) (members test (place + 1) rows) ≡ places_from test all (place_of (cond t place (place_from chain (place + 1) rows)))
      go true e ih = sym (ap (places_from test all) (place_of-some place l) ∙ ap (members test place) h)
      go false e ih = let n : test row ≡ false = sub row e in rw n ih

  placed_first : (top : Row) → slice_get all 0 ≡ Some top → chain top ≡ false → members test 0 all ≡ places_from test all (first_place chain all)
  unfolding first_place members place_from
  placed_first top h t =
      let n : test top ≡ false = sub top t in
      ap (members test 0) (from_here all 0 top h)
      ∙ ((rw n refl) ∙ (placed 1 (drop 1 all) (omega arith) refl ∙ sym (ap (λ rs. places_from test all (place_of (place_from chain 0 rs))) (from_here all 0 top h) ∙ rw t refl)))

  -- a walk along the chain that has this as the last record that passes the test
  abbrev pub Narrowed : Option ℕ → Option ℕ → Type 0
  Narrowed at found = LeadsTo chain all at × (last_or found (places_from test all at) ≡ last_place test all)

  pub narrow_step : (p : ℕ) (row : Row) (found : Option ℕ) → slice_get all p ≡ Some row → test row ≡ true → {at next : Option ℕ} → at ≡ Some p → next ≡ next_place chain all p → Narrowed at found → Narrowed next (Some p)
  unfolding places_from next_place members
  narrow_step p row found h t {at = at} e f a =
      let here : Narrowed (Some p) found = subst (λ o. Narrowed o found) e a in
      let rest : members test (p + 1) (drop (p + 1) all) ≡ places_from test all (next_place chain all p) = placed (p + 1) (drop (p + 1) all) (omega arith) refl in
      let step : members test p (drop p all) ≡ p ∷ places_from test all (next_place chain all p) = ap (members test p) (from_here all p row h) ∙ ((rw t refl) ∙ ap (λ ns. p ∷ ns) rest) in
      subst (λ o. Narrowed o (Some p)) (sym f) (next_leads chain all p, sym (ap (last_or found) step) ∙ here.1)

abbrev pub NarrowLast : (Row → Bool) → (Row → Bool) → List Row → Option ℕ → Option ℕ → Type 0
NarrowLast chain test rows at found = LeadsTo chain rows at × (last_or found (places_from test rows at) ≡ last_place test rows)

pub narrow_end : (chain test : Row → Bool) (rows : List Row) (at found : Option ℕ) → ((p : ℕ) → at ≡ Some p → ⊥) → NarrowLast chain test rows at found → found ≡ last_place test rows
unfolding places_from
narrow_end chain test rows None found n a = a.1
narrow_end chain test rows (Some p) found n a = absurd (n p refl)

no_members : (test : Row → Bool) (place : ℕ) (rows : List Row) → ((j : ℕ) (row : Row) → slice_get rows j ≡ Some row → test row ≡ false) → members test place rows ≡ []
unfolding members
no_members test place [] f = refl
no_members test place (r ∷ rows) f = let n : test r ≡ false = f 0 r refl in rw n (no_members test (place + 1) rows (λ j row h. f (suc j) row h))

get_drop : (p j : ℕ) (rows : List Row) → slice_get (drop p rows) j ≡ slice_get rows (p + j)
get_drop zero j rows = let e : 0 + j ≡ j = omega arith in ap (slice_get rows) (sym e)
get_drop (suc p) j [] = refl
get_drop (suc p) j (x ∷ rows) = let e : suc p + j ≡ suc (p + j) = omega arith in get_drop p j rows ∙ ap (slice_get (x ∷ rows)) (sym e)

-- a walk may end where no record from there on passes the test
pub narrow_stop : (chain test : Row → Bool) (rows : List Row) (p : ℕ) (found : Option ℕ) → ((q : ℕ) (row : Row) → p ≤ q → slice_get rows q ≡ Some row → test row ≡ false) → {at : Option ℕ} → at ≡ Some p → NarrowLast chain test rows at found → found ≡ last_place test rows
unfolding places_from
narrow_stop chain test rows p found f {at = at} e a =
    let here : NarrowLast chain test rows (Some p) found = subst (λ o. NarrowLast chain test rows o found) e a in
    let none : members test p (drop p rows) ≡ [] = no_members test p (drop p rows) (λ j row h. f (p + j) row (omega arith) (sym (get_drop p j rows) ∙ h)) in
    ap (last_or found) (sym none) ∙ here.1

-- a walk may start at the chain's first record, or at any that passes the test
pub narrow_start : (d : Dataset) (b : Base) (log : List Entry) (words : List ℕ) → ParentImage d b log words → (chain test : Row → Bool) → ((row : Row) → chain row ≡ false → test row ≡ false) → NoHeader chain
    → ((row : Row) → test row ≡ true → chain row ≡ true) → {at : Option ℕ} → MayStart chain test (rows_of d b log) at → NarrowLast chain test (rows_of d b log) at None
unfolding last_place
narrow_start d b log words i chain test sub never is {at = at} s = elim s [
  | inl e ↦ subst (λ o. NarrowLast chain test rows o None) (sym e) (first_leads chain rows _ top t, sym (ap (last_or None) (placed_first chain test sub rows _ top t)))
  | inr h ↦ subst (λ o. NarrowLast chain test rows o None) (sym h.1) ((behind h.0 h.2 h.3 (is h.2 h.4), h.2, h.3, is h.2 h.4), last_from test rows h.0 h.2 h.3 h.4)
]
  where
    rows : List Row
    rows = rows_of d b log

    top : slice_get (rows_of d b log) 0 ≡ Some (HeaderRow d (length b.supervoxels) (length (chunks d b)))
    top = header d b log words i

    t : chain (HeaderRow d (length b.supervoxels) (length (chunks d b))) ≡ false
    t = never d (length b.supervoxels) (length (chunks d b))

    behind : (p : ℕ) (row : Row) → slice_get (rows_of d b log) p ≡ Some row → chain row ≡ true → 1 ≤ p
    behind zero row h u =
        let same : Some (HeaderRow d (length b.supervoxels) (length (chunks d b))) ≡ Some row = sym top ∙ h in
        let z : HeaderRow d (length b.supervoxels) (length (chunks d b)) ≡ row = cc in
        absurd (false≢true (sym t ∙ (ap chain z ∙ u)))
    behind (suc p) row h u = omega arith
