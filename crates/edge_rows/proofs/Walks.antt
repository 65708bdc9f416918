-- Walks along the edges of a supervoxel and the changes of an edge: where they stand, that they end, and what they find.
use Rattle.std.proofs.Common.{◌≡◌, ℕ, ◌+◌, ◌*◌, ◌<◌, ◌≤◌, Bool, true, false, ◌&&◌, eqb, List, Option, Some, None, refl, sym, ◌∙◌, ap, subst, arith}
use Rattle.std.specs.List.{slice_get, last_or}
use Rattle.std.proofs.lemmas.Bool.{false≢true, eqb-true, or_parts}
use Rattle.op_model.specs.declared.base.Dataset.{Dataset}
use Rattle.op_model.specs.declared.base.Base.{Base}
use Rattle.op_model.specs.declared.base.Pair.{Pair}
use Rattle.op_model.specs.declared.base.Edge.{Edge}
use Rattle.op_model.specs.declared.entry.Changed.{Changed}
use Rattle.op_model.specs.declared.entry.Entry.{Entry}
use Rattle.op_model.specs.Lists.{has}
use Rattle.op_model.specs.Edges.{same_pair}
use Rattle.record_rows.specs.Rows.{Row, HeaderRow, SupervoxelRow, EdgeRow, ChangeRow}
use Rattle.record_rows.specs.Chains.{edge_at, is_edge, change_of}
use Rattle.record_rows.specs.LogRows.{rows_of}
use Rattle.record_rows.specs.Readings.{Image, HoldsSupervoxel, HoldsEdge, HoldsChange, first_place, next_place, last_place}
use Rattle.record_rows.specs.Walks.{is_supervoxel}
use Rattle.record_rows.specs.Sorted.{FoundAmong, supervoxel_count}
use Rattle.record_rows.proofs.WalkLemmas.{LeadsTo, Behind, steps_left, places_from, first_leads, next_leads, places_first, places_step}
use Rattle.record_rows.proofs.ImageFacts.{parent_image, header}
use Rattle.record_rows.proofs.BaseRows.{supervoxel_found, supervoxel_spot}
use Rattle.edge_rows.proofs.EdgeLists.{same_eq}
use Rattle.edge_rows.proofs.EdgeMeaning.{edge_facts}
use Rattle.edge_rows.proofs.Narrow.{no_place}

fall_from : (n p : ℕ) (next : Option ℕ) → 8 * p + 8 ≤ n → Behind p next → steps_left n next < steps_left n (Some p)
unfolding steps_left
fall_from n p None h b = omega arith
fall_from n p (Some q) h b = let l : p < q = b in omega arith

-- a walk that goes on among so many words has fewer steps left
pub fall : (n p : ℕ) (at next : Option ℕ) → at ≡ Some p → 8 * p + 8 ≤ n → Behind p next → steps_left n next < steps_left n at
fall n p at next e h b = subst (λ o. steps_left n next < steps_left n o) (sym e) (fall_from n p next h b)

-- where a walk stands, and what its last record is if the last one met was this
abbrev pub Walked : (Row → Bool) → List Row → Option ℕ → Option ℕ → Type 0
Walked test rows found at = LeadsTo test rows at × (last_or found (places_from test rows at) ≡ last_place test rows)

pub walked_first : (test : Row → Bool) (rows : List Row) (row : Row) (at : Option ℕ) → slice_get rows 0 ≡ Some row → test row ≡ false → at ≡ first_place test rows → Walked test rows None at
unfolding last_place
walked_first test rows row at h t q =
    subst (Walked test rows None) (sym q) (first_leads test rows row h t, ap (last_or None) (sym (places_first test rows row h t)))

pub walked_next : (test : Row → Bool) (rows : List Row) (found at : Option ℕ) (p : ℕ) (next : Option ℕ) → at ≡ Some p → Walked test rows found at → next ≡ next_place test rows p → Walked test rows (Some p) next
walked_next test rows found at p next q w e =
    let here : Walked test rows found (Some p) = subst (Walked test rows found) q w in
    let (l, row, h, t) = here.0 in
    subst (Walked test rows (Some p)) (sym e) (next_leads test rows p, sym (ap (last_or found) (places_step test rows p row h t)) ∙ here.1)

pub walked_end : (test : Row → Bool) (rows : List Row) (found at : Option ℕ) → ((p : ℕ) → at ≡ Some p → ⊥) → Walked test rows found at → found ≡ last_place test rows
unfolding places_from
walked_end test rows found None n w = w.1
walked_end test rows found (Some p) n w = absurd (n p refl)

-- the header is no change and no edge
pub headed_change : (q : Pair) (d : Dataset) (m n : ℕ) → change_of q (HeaderRow d m n) ≡ false
unfolding change_of
headed_change q d m n = refl

pub headed_edge : (v : ℕ) (d : Dataset) (m n : ℕ) → edge_at v (HeaderRow d m n) ≡ false
unfolding edge_at
headed_edge v d m n = refl

-- where a walk along changes of a pair leads, one stands
pub change_here : (d : Dataset) (b : Base) (log : List Entry) (q : Pair) (at : Option ℕ) (p : ℕ) → at ≡ Some p → LeadsTo (change_of q) (rows_of d b log) at → (entry : ℕ) × (c : Changed) × HoldsChange d b log p entry c × (c.pair ≡ q)
unfolding change_of
change_here d b log q at p e m = let (l, row, h, t) = subst (LeadsTo (change_of q) (rows_of d b log)) e m in go row h t
  where
    go : (row : Row) → slice_get (rows_of d b log) p ≡ Some row → change_of q row ≡ true → (entry : ℕ) × (c : Changed) × HoldsChange d b log p entry c × (c.pair ≡ q)
    go (ChangeRow entry c) h t = (entry, c, h, same_eq c.pair q t)
    go row h t = absurd (false≢true t)

-- where a walk along edges of a supervoxel leads, one stands
pub edge_here : (d : Dataset) (b : Base) (log : List Entry) (v : ℕ) (at : Option ℕ) (p : ℕ) → at ≡ Some p → LeadsTo (edge_at v) (rows_of d b log) at → (made : ℕ) × (e : Edge) × HoldsEdge d b log p made e × (edge_at v (EdgeRow made e) ≡ true)
unfolding edge_at
edge_here d b log v at p e m = let (l, row, h, t) = subst (LeadsTo (edge_at v) (rows_of d b log)) e m in go row h t
  where
    go : (row : Row) → slice_get (rows_of d b log) p ≡ Some row → edge_at v row ≡ true → (made : ℕ) × (x : Edge) × HoldsEdge d b log p made x × (edge_at v (EdgeRow made x) ≡ true)
    go (EdgeRow made x) h t = (made, x, h, t)
    go row h t = absurd (false≢true t)

-- a record that is no edge of the lesser end is not the edge of the pair
pub edge_apart : (q : Pair) (row : Row) → edge_at q.a row ≡ false → is_edge q row ≡ false
unfolding edge_at is_edge same_pair
edge_apart q (EdgeRow made e) h = let o = or_parts (eqb e.pair.a q.a) (eqb e.pair.b q.a) h in rw o.0 refl
edge_apart q row h = refl

-- nor is one that is no edge of the greater end
pub edge_apart_other : (q : Pair) (row : Row) → edge_at q.b row ≡ false → is_edge q row ≡ false
unfolding edge_at is_edge same_pair
edge_apart_other q (EdgeRow made e) h = let o = or_parts (eqb e.pair.a q.b) (eqb e.pair.b q.b) h in rw o.1 (neither (eqb e.pair.a q.a))
  where
    neither : (t : Bool) → (t && false) ≡ false
    neither true = refl
    neither false = refl
edge_apart_other q row h = refl

-- the record of a pair's edge is an edge of that pair
pub edge_row : (q : Pair) (row : Row) → is_edge q row ≡ true → (made : ℕ) × (e : Edge) × (row ≡ EdgeRow made e) × (e.pair ≡ q)
unfolding is_edge
edge_row q (EdgeRow made e) h = (made, e, refl, same_eq e.pair q h)
edge_row q row h = absurd (false≢true h)

-- where the supervoxel of an id is found, it stands
supervoxel_here : (d : Dataset) (b : Base) (log : List Entry) (v p : ℕ) → LeadsTo (is_supervoxel v) (rows_of d b log) (Some p) → HoldsSupervoxel d b log p v
unfolding is_supervoxel
supervoxel_here d b log v p (l, row, h, t) = go row h t
  where
    go : (row : Row) → slice_get (rows_of d b log) p ≡ Some row → is_supervoxel v row ≡ true → HoldsSupervoxel d b log p v
    go (SupervoxelRow x) h t = subst (λ y. slice_get (rows_of d b log) p ≡ Some (SupervoxelRow y)) (eqb-true x v t) h
    go row h t = absurd (false≢true t)

headed_supervoxel : (v : ℕ) (d : Dataset) (m n : ℕ) → is_supervoxel v (HeaderRow d m n) ≡ false
unfolding is_supervoxel
headed_supervoxel v d m n = refl

headed_pair : (q : Pair) (d : Dataset) (m n : ℕ) → is_edge q (HeaderRow d m n) ≡ false
unfolding is_edge
headed_pair q d m n = refl

-- no edge joins a pair that has none
no_edge : (d : Dataset) (b : Base) (log : List Entry) (words : List ℕ) → Image d b log words → (q : Pair) → ((p made : ℕ) (e : Edge) → HoldsEdge d b log p made e → e.pair ≡ q → ⊥) → None ≡ first_place (is_edge q) (rows_of d b log)
no_edge d b log words i q f =
    no_place (is_edge q) (rows_of d b log) (first_place (is_edge q) (rows_of d b log))
    (first_leads (is_edge q) (rows_of d b log) (HeaderRow d _ _) (header d b log words (parent_image d b log words i)) (headed_pair q d _ _))
    (λ p row h t. (let (made, e, r, s) = edge_row q row t in f p made e (h ∙ ap (λ x. Some x) r) s))

-- a supervoxel that isn't found is none of the base
not_found : (d : Dataset) (b : Base) (log : List Entry) (words : List ℕ) → Image d b log words → (v : ℕ) → has b.supervoxels v ≡ true → FoundAmong words 1 (supervoxel_count words) v None → ⊥
not_found d b log words i v k f =
    let z = supervoxel_spot d b log words (parent_image d b log words i) v k None f in
    let none : None ≡ Some z.0 = z.1 in cc

-- a pair of which an end is no supervoxel has no edge
pub unknown_end : (d : Dataset) (b : Base) (log : List Entry) (words : List ℕ) → Image d b log words → (q : Pair) → FoundAmong words 1 (supervoxel_count words) q.a None → None ≡ first_place (is_edge q) (rows_of d b log)
unknown_end d b log words i q f =
    no_edge d b log words i q (λ p made e h s. not_found d b log words i q.a (subst (λ x. has b.supervoxels x.a ≡ true) s (edge_facts d b log i.dataset i.base i.legal p made e h).2.0) f)

pub unknown_other : (d : Dataset) (b : Base) (log : List Entry) (words : List ℕ) → Image d b log words → (q : Pair) → FoundAmong words 1 (supervoxel_count words) q.b None → None ≡ first_place (is_edge q) (rows_of d b log)
unknown_other d b log words i q f =
    no_edge d b log words i q (λ p made e h s. not_found d b log words i q.b (subst (λ x. has b.supervoxels x.b ≡ true) s (edge_facts d b log i.dataset i.base i.legal p made e h).2.1) f)

pub is_edge_told : (q : Pair) (made : ℕ) (e : Edge) (t : Bool) → same_pair e.pair q ≡ t → is_edge q (EdgeRow made e) ≡ t
unfolding is_edge
is_edge_told q made e t h = h

-- where the search among the supervoxels leads, that one stands
pub found_here : (d : Dataset) (b : Base) (log : List Entry) (words : List ℕ) → Image d b log words → (v p : ℕ) → FoundAmong words 1 (supervoxel_count words) v (Some p) → HoldsSupervoxel d b log p v
found_here d b log words i v p f =
    supervoxel_here d b log v p
    (subst (LeadsTo (is_supervoxel v) (rows_of d b log)) (sym (supervoxel_found d b log words (parent_image d b log words i) v (Some p) f))
    (first_leads (is_supervoxel v) (rows_of d b log) (HeaderRow d _ _) (header d b log words (parent_image d b log words i)) (headed_supervoxel v d _ _)))
