-- Walks along the links of a child.
use Rattle.std.proofs.Common.{◌≡◌, ℕ, suc, ◌+◌, ◌*◌, ◌<◌, ◌≤◌, Bool, true, false, cond, ◌&&◌, eqb, ltb, List, [], ◌∷◌, length, map, drop, get_or, Option, Some, None, refl, sym, ◌∙◌, ap, subst, inl, inr, arith, eq-eqb, eq-or-lt_of_le}
use Rattle.std.specs.List.{slice_get, filter_map, cons_option, last_or, list_any}
use Rattle.std.proofs.lemmas.Bool.{false≢true, true≢false, cond-false, ne_eqb, eqb-true, lt-ltb, le-ltb, and_parts, and_from}
use Rattle.op_model.specs.declared.base.Dataset.{Dataset}
use Rattle.op_model.specs.declared.base.Base.{Base}
use Rattle.op_model.specs.declared.entry.Entry.{Entry}
use Rattle.record_rows.specs.LogRows.{rows_of}
use Rattle.record_rows.specs.Rows.{Row, Link, LinkRow}
use Rattle.record_rows.specs.Chains.{version_of, is_node}
use Rattle.record_rows.specs.Words.{place_from}
use Rattle.record_rows.specs.Versions.{version_below, parent_place}
use Rattle.record_rows.specs.Readings.{ParentImage, Holds, place_of, first_place, next_place, members, last_place}
use Rattle.record_rows.proofs.WalkLemmas.{LeadsTo, drop_step}
use Rattle.record_rows.proofs.ImageFacts.{header}
use Rattle.record_rows.proofs.NodePlaces.{found_from}
use Rattle.record_rows.proofs.RowFacts.{all_at, parent_known}
use Rattle.record_rows.proofs.EntryPlaces.{Names, whole_of, named_below, in_order}
use Rattle.parent_rows.proofs.ChainWalks.{NoHeader, NarrowLast, narrow_start, narrow_step, narrow_end, narrow_stop}
use Rattle.parent_rows.proofs.Told.{small, link_child, link_entry}
use Rattle.parent_rows.proofs.RowKinds.{kind_link}
use Rattle.parent_rows.specs.Steps.{IsLinkOf, MayStart, is_version}

link_row : (id : ℕ) (row : Row) → version_of id row ≡ true → (l : Link) × (row ≡ LinkRow l) × (l.child ≡ id)
unfolding version_of
link_row id (LinkRow l) t = (l, refl, eqb-true l.child id t)
link_row id row t = absurd (false≢true t)

-- a chain of a child's links leads to links of it
pub version_link : (rows : List Row) (id p : ℕ) {at : Option ℕ} → at ≡ Some p → LeadsTo (version_of id) rows at → (l : Link) × (slice_get rows p ≡ Some (LinkRow l)) × (l.child ≡ id)
version_link rows id p e a =
    let h : LeadsTo (version_of id) rows (Some p) = subst (LeadsTo (version_of id) rows) e a in
    let r = link_row id h.1 h.3 in (r.0, h.2 ∙ ap (λ x. Some x) r.1, r.2)

pub version_header : (id : ℕ) → NoHeader (version_of id)
unfolding version_of
version_header id d m n = refl

-- a link of another child is no link of this one below an entry
pub other_version : (id below : ℕ) (row : Row) → version_of id row ≡ false → is_version id below row ≡ false
unfolding version_of is_version
other_version id below (LinkRow l) t = rw t refl
other_version id below row t = refl

-- and one below an entry is one of the child
pub version_is : (id below : ℕ) (row : Row) → is_version id below row ≡ true → version_of id row ≡ true
unfolding version_of is_version
version_is id below (LinkRow l) t = (and_parts (eqb l.child id) (ltb l.entry below) t).0
version_is id below row t = absurd (false≢true t)

pub version_low : (id below : ℕ) (l : Link) → l.child ≡ id → l.entry < below → is_version id below (LinkRow l) ≡ true
unfolding is_version
version_low id below l e h = and_from (eqb l.child id) (ltb l.entry below) (eq-eqb l.child id e) (lt-ltb l.entry below h)

version_high : (id below : ℕ) (l : Link) → below ≤ l.entry → is_version id below (LinkRow l) ≡ false
unfolding is_version
version_high id below l h = rw (le-ltb l.entry below h) (neither (eqb l.child id))
  where
    neither : (t : Bool) → (t && false) ≡ false
    neither true = refl
    neither false = refl

-- a walk along a child's links that has found this as the newest one below an entry
abbrev pub AtNewest : List Row → ℕ → ℕ → Option ℕ → Option ℕ → Type 0
AtNewest rows id below at found = NarrowLast (version_of id) (is_version id below) rows at found

module _ (d : Dataset) (b : Base) (log : List Entry) (words : List ℕ) (i : ParentImage d b log words) where
  abbrev rows : List Row
  rows = rows_of d b log

  pub newest_start : (id below : ℕ) {at : Option ℕ} → MayStart (version_of id) (is_version id below) rows at → AtNewest rows id below at None
  newest_start id below s = narrow_start d b log words i (version_of id) (is_version id below) (other_version id below) (version_header id) (version_is id below) s

  pub newest_step : (id below p : ℕ) (l : Link) (found : Option ℕ) → Holds d b log p (LinkRow l) → l.child ≡ id → {entry : ℕ} → entry ≡ get_or words (8 * p + 3) 0 → entry < below
      → {at next : Option ℕ} → at ≡ Some p → next ≡ next_place (version_of l.child) rows p → AtNewest rows id below at found → AtNewest rows id below next (Some p)
  newest_step id below p l found h e {entry = entry} k m f n a =
      let low : l.entry < below = (let z : entry ≡ l.entry = k ∙ (link_entry d b log words i p l h).1 in omega arith) in
      narrow_step (version_of id) (is_version id below) (other_version id below) rows p (LinkRow l) found h (version_low id below l e low) f (n ∙ ap (λ x. next_place (version_of x) rows p) e) a

  -- the first link that is too new: no later one counts
  pub newest_stop : (id below p : ℕ) (l : Link) (found : Option ℕ) → Holds d b log p (LinkRow l) → {entry : ℕ} → entry ≡ get_or words (8 * p + 3) 0 → below ≤ entry
      → {at : Option ℕ} → at ≡ Some p → AtNewest rows id below at found → found ≡ last_place (is_version id below) rows
  unfolding is_version
  newest_stop id below p l found h {entry = entry} k m f a =
      narrow_stop (version_of id) (is_version id below) rows p found late f a
    where
      high : below ≤ l.entry
      high = let z : entry ≡ l.entry = k ∙ (link_entry d b log words i p l h).1 in omega arith

      late : (q : ℕ) (row : Row) → p ≤ q → slice_get rows q ≡ Some row → is_version id below row ≡ false
      late q row l2 g = go row g
        where
          go : (r : Row) → slice_get rows q ≡ Some r → is_version id below r ≡ false
          go (LinkRow m2) k2 =
              elim (eq-or-lt_of_le l2) [
                | inl same ↦ (let z : Some (LinkRow l) ≡ Some (LinkRow m2) = sym h ∙ (ap (slice_get rows) same ∙ k2) in let y : l ≡ m2 = cc in version_high id below m2 (subst (λ x. below ≤ x.entry) y high))
                | inr less ↦ (let o : l.entry ≤ m2.entry = (in_order d b log (whole_of d b log i.legal) p q (LinkRow l) (LinkRow m2) less h k2).0 in version_high id below m2 (omega (arith, o, high)))
              ]
          go r k2 = refl

  pub newest_end : (id below : ℕ) (at found : Option ℕ) → ((p : ℕ) → at ≡ Some p → ⊥) → AtNewest rows id below at found → found ≡ last_place (is_version id below) rows
  newest_end id below at found n a = narrow_end (version_of id) (is_version id below) rows at found n a

  -- a record whose words are those of such a link is one
  pub link_told : (id below p : ℕ) (row : Row) → Holds d b log p row → IsLinkOf words p id below → is_version id below row ≡ true
  link_told id below p row h t =
      let l = kind_link d b log words i p row h t.0 in
      let same : Some row ≡ Some (LinkRow l.0) = sym h ∙ l.1 in
      let is : row ≡ LinkRow l.0 = cc in
      let low : l.0.entry < below = (let z = (link_entry d b log words i p l.0 l.1).1 in let y = t.2 in omega arith) in
      ap (is_version id below) is ∙ version_low id below l.0 (sym (link_child d b log words i p l.0 l.1).1 ∙ t.1) low

  same_members : (s t : Row → Bool) (place : ℕ) (rs : List Row) → ((p : ℕ) (row : Row) → slice_get rs p ≡ Some row → s row ≡ t row) → members s place rs ≡ members t place rs
  unfolding members
  same_members s t place [] f = refl
  same_members s t place (r ∷ rs) f =
      let e : s r ≡ t r = f 0 r refl in
      let ih = same_members s t (place + 1) rs (λ p row h. f (suc p) row h) in
      rw e (ap (λ ns. cond (t r) (place ∷ ns) ns) ih)

  -- all links of a child are by entries of 32 bits
  pub all_versions : (id : ℕ) → last_place (is_version id 4294967296) rows ≡ last_place (version_of id) rows
  unfolding last_place is_version version_of
  all_versions id = ap (last_or None) (same_members (is_version id 4294967296) (version_of id) 0 rows same)
    where
      same : (p : ℕ) (row : Row) → slice_get rows p ≡ Some row → is_version id 4294967296 row ≡ version_of id row
      same p row h = go row h
        where
          both : (t : Bool) → (t && true) ≡ t
          both true = refl
          both false = refl

          go : (r : Row) → slice_get rows p ≡ Some r → is_version id 4294967296 r ≡ version_of id r
          go (LinkRow l) k =
              let n : l.entry < length log = all_at (Names (λ x. x < length log)) rows (named_below d b log (whole_of d b log i.legal)) p (LinkRow l) k in
              let s = small d b log words i l.entry n in
              rw (lt-ltb l.entry 4294967296 s) (both (eqb l.child id))
          go r k = refl

-- the newest link below an entry, and the place of the parent that it gives
abbrev Gives : List Row → Option ℕ → Option ℕ → Type 0
Gives all None None = Unit {0}
Gives all (Some p) (Some x) = (l : Link) × (slice_get all p ≡ Some (LinkRow l)) × (x ≡ place_from (is_node l.parent) 0 all)
Gives all o q = ⊥

module _ (all : List Row) (id prefix : ℕ) where
  abbrev place : Link → ℕ
  place l = place_from (is_node l.parent) 0 all

  gives : (start : ℕ) (rs : List Row) → drop start all ≡ rs → (p x : Option ℕ) → Gives all p x → Gives all (last_or p (members (is_version id prefix) start rs)) (last_or x (map place (filter_map (version_below id prefix) rs)))
  unfolding members is_version version_below
  gives start [] h p x a = a
  gives start (row ∷ rs) h p x a =
      let s = drop_step all start row rs h in
      go row s.0 (λ q y k. gives (start + 1) rs s.1 q y k)
    where
      rest : List ℕ
      rest = members (is_version id prefix) (start + 1) rs

      more : List Link
      more = filter_map (version_below id prefix) rs

      go : (r : Row) → slice_get all start ≡ Some r → ((q y : Option ℕ) → Gives all q y → Gives all (last_or q rest) (last_or y (map place more)))
          → Gives all (last_or p (cond (is_version id prefix r) (start ∷ rest) rest)) (last_or x (map place (cons_option (version_below id prefix r) more)))
      go (LinkRow l) g ih = split (eqb l.child id && ltb l.entry prefix)
        where
          split : (t : Bool) → Gives all (last_or p (cond t (start ∷ rest) rest)) (last_or x (map place (cons_option (cond t (Some l) None) more)))
          split true = ih (Some start) (Some (place l)) (l, g, refl)
          split false = ih p x a
      go r g ih = ih p x a

  given : Gives all (last_place (is_version id prefix) all) (parent_place all id prefix)
  unfolding last_place parent_place
  given = gives 0 all refl None None tt

  gives_some : (p : ℕ) (x : Option ℕ) → Gives all (Some p) x → (l : Link) × (slice_get all p ≡ Some (LinkRow l)) × (x ≡ Some (place_from (is_node l.parent) 0 all))
  gives_some p None a = absurd a
  gives_some p (Some x) a = (a.0, a.1, ap Some a.2)

  gives_none : (x : Option ℕ) → Gives all None x → None ≡ x
  gives_none None a = refl
  gives_none (Some x) a = absurd a

  -- without such a link there is no parent
  pub no_parent : {found : Option ℕ} → found ≡ last_place (is_version id prefix) all → ((p : ℕ) → found ≡ Some p → ⊥) → None ≡ parent_place all id prefix
  no_parent {found = None} e n = gives_none (parent_place all id prefix) (subst (λ o. Gives all o (parent_place all id prefix)) (sym e) given)
  no_parent {found = Some p} e n = absurd (n p refl)

  -- the newest one's parent
  pub link_parent : {found : Option ℕ} (p : ℕ) → found ≡ last_place (is_version id prefix) all → found ≡ Some p → (l : Link) × (slice_get all p ≡ Some (LinkRow l)) × (parent_place all id prefix ≡ Some (place_from (is_node l.parent) 0 all))
  link_parent p e f = gives_some p (parent_place all id prefix) (subst (λ o. Gives all o (parent_place all id prefix)) (sym e ∙ f) given)

-- a record that passes stands at the place that a search for it gives
place_known : (test : Row → Bool) (rows : List Row) (header : Row) → slice_get rows 0 ≡ Some header → test header ≡ false → list_any test rows ≡ true → first_place test rows ≡ Some (place_from test 0 rows)
unfolding first_place place_of
place_known test rows header h t k =
    let f = found_from test rows 0 rows refl k in
    let n : place_from test 0 rows ≡ 0 → ⊥ = λ z. (let same : Some f.0 ≡ Some header = sym f.1 ∙ (ap (slice_get rows) z ∙ h) in
    let q : f.0 ≡ header = cc in
    true≢false (sym f.2 ∙ (ap test q ∙ t))) in
    cond-false (eqb (place_from test 0 rows) 0) None (Some (place_from test 0 rows)) (ne_eqb (place_from test 0 rows) 0 n)

-- a link's pointer leads to its parent
pub parent_stands : (d : Dataset) (b : Base) (log : List Entry) (words : List ℕ) → ParentImage d b log words → (p : ℕ) (l : Link) → Holds d b log p (LinkRow l) → first_place (is_node l.parent) (rows_of d b log) ≡ Some (place_from (is_node l.parent) 0 (rows_of d b log))
unfolding is_node
parent_stands d b log words i p l h = place_known (is_node l.parent) (rows_of d b log) _ (header d b log words i) refl (parent_known d b log p l h)
