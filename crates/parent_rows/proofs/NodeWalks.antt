-- What the chains of a node come to: the entry that retired it, and its children.
use Rattle.std.proofs.Common.{◌≡◌, ℕ, ◌<◌, ◌≤◌, true, false, List, [], ◌∷◌, ◌++◌, Option, Some, None, refl, sym, ◌∙◌, ap, subst, eq-eqb, append-nil, append_assoc}
use Rattle.std.specs.List.{slice_get, filter_map, cons_option}
use Rattle.std.proofs.lemmas.Bool.{false≢true, eqb-true, lt-ltb, le-ltb}
use Rattle.op_model.specs.declared.base.Dataset.{Dataset}
use Rattle.op_model.specs.declared.base.Base.{Base}
use Rattle.op_model.specs.declared.entry.Entry.{Entry}
use Rattle.record_rows.specs.Rows.{Row, LinkRow, EntryRow, Node, Link}
use Rattle.record_rows.specs.Chains.{child_of, retires}
use Rattle.record_rows.specs.LogRows.{rows_of}
use Rattle.record_rows.specs.Readings.{ParentImage, Holds, first_place, next_place}
use Rattle.record_rows.specs.Walks.{child_to, children_in, retired_by, if_below, ended_below}
use Rattle.record_rows.proofs.ImageFacts.{header}
use Rattle.record_rows.proofs.WalkLemmas.{LeadsTo, from_spot, first_leads, next_leads, gather_first, gather_step}

-- what doesn't retire a node gives no number
not_retired : (n : Node) (row : Row) → retires n row ≡ false → retired_by n row ≡ None
unfolding retired_by
not_retired n (EntryRow e) t = rw t refl
not_retired n row t = refl

retiring_entry : (n : Node) (row : Row) → retires n row ≡ true → (e : Entry) × (row ≡ EntryRow e) × (retired_by n row ≡ Some e.number)
unfolding retires retired_by
retiring_entry n (EntryRow e) t = (e, refl, rw t refl)
retiring_entry n row t = absurd (false≢true t)

module _ (d : Dataset) (b : Base) (log : List Entry) (words : List ℕ) (i : ParentImage d b log words) where
  abbrev rows : List Row
  rows = rows_of d b log

  retired_first : (n : Node) → filter_map (retired_by n) rows ≡ filter_map (retired_by n) (from_spot rows (first_place (retires n) rows))
  unfolding retires
  retired_first n = gather_first (retires n) (retired_by n) (not_retired n) rows _ (header d b log words i) refl

  -- no entry retired the node
  pub never_ended : (n : Node) (prefix : ℕ) {found : Option ℕ} → found ≡ first_place (retires n) rows → ((p : ℕ) → found ≡ Some p → ⊥) → None ≡ ended_below rows n prefix
  unfolding ended_below if_below from_spot
  never_ended n prefix {found = found} e f =
      let none : filter_map (retired_by n) rows ≡ [] = retired_first n ∙ ap (λ o. filter_map (retired_by n) (from_spot rows o)) (sym e ∙ is_none found f) in
      sym (ap (λ ns. if_below prefix (slice_get ns 0)) none)
    where
      is_none : (o : Option ℕ) → ((p : ℕ) → o ≡ Some p → ⊥) → o ≡ None
      is_none None g = refl
      is_none (Some p) g = absurd (g p refl)

  -- the first entry that did
  pub ended_first : (n : Node) (prefix p : ℕ) {found : Option ℕ} → found ≡ first_place (retires n) rows → found ≡ Some p → (e : Entry) × (Holds d b log p (EntryRow e)) × (ended_below rows n prefix ≡ if_below prefix (Some e.number))
  unfolding ended_below retires
  ended_first n prefix p e f =
      let at : first_place (retires n) rows ≡ Some p = sym e ∙ f in
      let lead : LeadsTo (retires n) rows (Some p) = subst (LeadsTo (retires n) rows) at (first_leads (retires n) rows _ (header d b log words i) refl) in
      let entry = retiring_entry n lead.1 lead.3 in
      let all : filter_map (retired_by n) rows ≡ cons_option (retired_by n lead.1) (filter_map (retired_by n) (from_spot rows (next_place (retires n) rows p))) =
      retired_first n ∙ (ap (λ o. filter_map (retired_by n) (from_spot rows o)) at ∙ gather_step (retires n) (retired_by n) (not_retired n) rows p lead.1 lead.2) in (
        entry.0,
        lead.2 ∙ ap (λ r. Some r) entry.1,
        ap (λ ns. if_below prefix (slice_get ns 0)) all ∙ ap (λ o. if_below prefix (slice_get (cons_option o (filter_map (retired_by n) (from_spot rows (next_place (retires n) rows p)))) 0)) entry.2,
      )

pub below_prefix : (prefix k : ℕ) → k < prefix → if_below prefix (Some k) ≡ Some k
unfolding if_below
below_prefix prefix k h = rw (lt-ltb k prefix h) refl

pub above_prefix : (prefix k : ℕ) → prefix ≤ k → if_below prefix (Some k) ≡ None
unfolding if_below
above_prefix prefix k h = rw (le-ltb k prefix h) refl

child_row : (id : ℕ) (row : Row) → child_of id row ≡ true → (l : Link) × (row ≡ LinkRow l) × (l.parent ≡ id) × (child_to id row ≡ Some l.child)
unfolding child_of child_to
child_row id (LinkRow l) t = (l, refl, eqb-true l.parent id t, rw t refl)
child_row id row t = absurd (false≢true t)

-- a link to another parent gives no child
other_child : (id : ℕ) (row : Row) → child_of id row ≡ false → child_to id row ≡ None
unfolding child_of child_to
other_child id (LinkRow l) t = rw t refl
other_child id row t = refl

-- a walk that has found these children before it reaches the link there
abbrev pub AtChild : List Row → ℕ → Option ℕ → List ℕ → Type 0
AtChild rows id at found = LeadsTo (child_of id) rows at × (found ++ filter_map (child_to id) (from_spot rows at) ≡ children_in rows id)

pub child_link : (rows : List Row) (id p : ℕ) {at : Option ℕ} → at ≡ Some p → LeadsTo (child_of id) rows at → (l : Link) × (slice_get rows p ≡ Some (LinkRow l)) × (l.parent ≡ id)
child_link rows id p e a =
    let h : LeadsTo (child_of id) rows (Some p) = subst (LeadsTo (child_of id) rows) e a in
    let r = child_row id h.1 h.3 in (r.0, h.2 ∙ ap (λ x. Some x) r.1, r.2)

pub child_first : (d : Dataset) (b : Base) (log : List Entry) (words : List ℕ) → ParentImage d b log words → (id : ℕ) {at : Option ℕ} → at ≡ first_place (child_of id) (rows_of d b log) → AtChild (rows_of d b log) id at []
unfolding children_in child_of
child_first d b log words i id e =
    let rows = rows_of d b log in
    let h = header d b log words i in
    subst (λ o. AtChild rows id o []) (sym e) (
      first_leads (child_of id) rows _ h refl,
      sym (gather_first (child_of id) (child_to id) (other_child id) rows _ h refl),
    )

module _ (rows : List Row) (id : ℕ) where
  pub child_step : (p : ℕ) (l : Link) (before : List ℕ) → slice_get rows p ≡ Some (LinkRow l) → l.parent ≡ id
      → {at next : Option ℕ} {found : List ℕ} → at ≡ Some p → next ≡ next_place (child_of l.parent) rows p → (x : ℕ) → x ≡ l.child → found ≡ before ++ x ∷ [] → AtChild rows id at before → AtChild rows id next found
  unfolding child_to
  child_step p l before h e {at = at} {next = next} {found = found} f n x c k a =
      let rest = filter_map (child_to id) (from_spot rows (next_place (child_of id) rows p)) in
      let here : AtChild rows id (Some p) before = subst (λ o. AtChild rows id o before) f a in
      let there : next ≡ next_place (child_of id) rows p = n ∙ ap (λ x. next_place (child_of x) rows p) e in
      let pick : child_to id (LinkRow l) ≡ Some l.child = rw (eq-eqb l.parent id e) refl in
      let step : filter_map (child_to id) (from_spot rows (Some p)) ≡ l.child ∷ rest = gather_step (child_of id) (child_to id) (other_child id) rows p (LinkRow l) h ∙ ap (λ o. cons_option o rest) pick in
      subst (λ o. AtChild rows id o found) (sym there) (
        next_leads (child_of id) rows p,
        ap (λ ns. ns ++ rest) (k ∙ ap (λ y. before ++ y ∷ []) c) ∙ (append_assoc before (l.child ∷ []) rest ∙ (sym (ap (λ ns. before ++ ns) step) ∙ here.1)),
      )

  pub child_end : (at : Option ℕ) (found : List ℕ) → ((p : ℕ) → at ≡ Some p → ⊥) → AtChild rows id at found → found ≡ children_in rows id
  unfolding from_spot
  child_end None found n a = sym (append-nil found) ∙ a.1
  child_end (Some p) found n a = absurd (n p refl)
