-- The pair of each change of a log is one of the log's edges.
use Rattle.std.proofs.Common.{◌≡◌, ℕ, Bool, true, false, cond, not, ◌&&◌, eqb, eq-eqb, List, [], ◌∷◌, map, refl, sym, ◌∙◌, inl, inr, ◌⊎◌}
use Rattle.std.specs.List.{AllByRecursion, filter, list_any}
use Rattle.std.proofs.lemmas.Bool.{false≢true, eqb-true, and_parts, or_left, or_right, or_cases}
use Rattle.op_model.specs.declared.base.Dataset.{Dataset}
use Rattle.op_model.specs.declared.base.Base.{Base}
use Rattle.op_model.specs.declared.base.Pair.{Pair}
use Rattle.op_model.specs.declared.base.Edge.{Edge}
use Rattle.op_model.specs.declared.base.Weight.TheVariants.{Affinity}
use Rattle.op_model.specs.declared.entry.Changed.{Changed}
use Rattle.op_model.specs.declared.entry.Entry.{Entry}
use Rattle.op_model.specs.Edges.{same_pair, put_edge, pair_before, put_changed, edges_after}
use Rattle.op_model.specs.Labels.{edges}
use Rattle.op_model.proofs.EdgeLemmas.{same_pair_self}
use Rattle.record_rows.specs.Rows.{Row, ChangeRow, NodeRow, LinkRow, EdgeRow, ItemRow, EntryRow}
use Rattle.record_rows.specs.Chains.{change_of}
use Rattle.record_rows.specs.LogRows.{chunks, entry_rows, marks, new_edges, new_links, new_nodes, rows_of, unknown}
use Rattle.record_rows.proofs.DifferLemmas.{all_append, all_each, all_map, all_more, all_filter}
use Rattle.record_rows.proofs.RowFacts.{all_base}

-- an edge of the list has this pair
abbrev pub Knows : List Edge → Pair → Type 0
Knows fs p = list_any (λ f. same_pair f.pair p) fs ≡ true

through : (x y z : Pair) → same_pair x y ≡ true → same_pair y z ≡ true → same_pair x z ≡ true
unfolding same_pair
through x y z a c =
    let p = and_parts (eqb x.a y.a) (eqb x.b y.b) a in
    let q = and_parts (eqb y.a z.a) (eqb y.b z.b) c in
    and_both (eqb x.a z.a) (eqb x.b z.b) (eq-eqb x.a z.a (eqb-true x.a y.a p.0 ∙ eqb-true y.a z.a q.0)) (eq-eqb x.b z.b (eqb-true x.b y.b p.1 ∙ eqb-true y.b z.b q.1))
  where
    and_both : (s t : Bool) → s ≡ true → t ≡ true → (s && t) ≡ true
    and_both true t a c = c
    and_both false t a c = a

put_self : (e : Edge) (fs : List Edge) → Knows (put_edge e fs) e.pair
unfolding put_edge
put_self e [] = or_left (same_pair e.pair e.pair) false (same_pair_self e.pair)
put_self e (f ∷ fs) = go (same_pair f.pair e.pair) refl (pair_before e.pair f.pair) (put_self e fs)
  where
    go : (s : Bool) → same_pair f.pair e.pair ≡ s → (t : Bool) → Knows (put_edge e fs) e.pair → Knows (cond s (record f { active = e.active } ∷ fs) (cond t (e ∷ f ∷ fs) (f ∷ put_edge e fs))) e.pair
    go true s t ih = or_left (same_pair f.pair e.pair) _ s
    go false s true ih = or_left (same_pair e.pair e.pair) _ (same_pair_self e.pair)
    go false s false ih = or_right (same_pair f.pair e.pair) _ ih

put_more : (e : Edge) (fs : List Edge) (p : Pair) → Knows fs p → Knows (put_edge e fs) p
unfolding put_edge
put_more e [] p k = absurd (false≢true k)
put_more e (f ∷ fs) p k = go (same_pair f.pair e.pair) (pair_before e.pair f.pair) (or_cases (same_pair f.pair p) (list_any (λ g. same_pair g.pair p) fs) k) (put_more e fs p)
  where
    go : (s t : Bool) → (same_pair f.pair p ≡ true) ⊎ Knows fs p → (Knows fs p → Knows (put_edge e fs) p) → Knows (cond s (record f { active = e.active } ∷ fs) (cond t (e ∷ f ∷ fs) (f ∷ put_edge e fs))) p
    go true t (inl q) ih = or_left (same_pair f.pair p) _ q
    go true t (inr q) ih = or_right (same_pair f.pair p) _ q
    go false true (inl q) ih = or_right (same_pair e.pair p) _ (or_left (same_pair f.pair p) _ q)
    go false true (inr q) ih = or_right (same_pair e.pair p) _ (or_right (same_pair f.pair p) _ q)
    go false false (inl q) ih = or_left (same_pair f.pair p) _ q
    go false false (inr q) ih = or_right (same_pair f.pair p) _ (ih q)

pub changed_more : (affinity : ℕ) (cs : List Changed) (fs : List Edge) (p : Pair) → Knows fs p → Knows (put_changed affinity cs fs) p
unfolding put_changed
changed_more affinity [] fs p k = k
changed_more affinity (c ∷ cs) fs p k = changed_more affinity cs _ p (put_more (record { pair = c.pair; weight = Affinity affinity; active = c.active }) fs p k)

pub changed_self : (affinity : ℕ) (cs : List Changed) (fs : List Edge) → AllByRecursion (λ c. Knows (put_changed affinity cs fs) c.pair) cs
unfolding put_changed
changed_self affinity [] fs = tt
changed_self affinity (c ∷ cs) fs =
    let e : Edge = record { pair = c.pair; weight = Affinity affinity; active = c.active } in
    (changed_more affinity cs (put_edge e fs) c.pair (put_self e fs), changed_self affinity cs (put_edge e fs))

-- the pair of a change is one of these edges
abbrev Tells : List Edge → Row → Type 0
Tells fs (ChangeRow k c) = Knows fs c.pair
Tells fs row = Unit {0}

tells_more : (affinity : ℕ) (cs : List Changed) (fs : List Edge) (row : Row) → Tells fs row → Tells (put_changed affinity cs fs) row
tells_more affinity cs fs (ChangeRow k c) h = changed_more affinity cs fs c.pair h
tells_more affinity cs fs row h = tt

unchanged_row : (fs : List Edge) (p : Pair) → list_any (λ f. same_pair f.pair p) fs ≡ false → (row : Row) → Tells fs row → change_of p row ≡ false
unfolding change_of
unchanged_row fs p u (ChangeRow k c) h = go (same_pair c.pair p) refl
  where
    moved : (gs : List Edge) → same_pair c.pair p ≡ true → Knows gs c.pair → Knows gs p
    moved [] s k = k
    moved (g ∷ gs) s k = elim (or_cases (same_pair g.pair c.pair) (list_any (λ f. same_pair f.pair c.pair) gs) k) [
      | inl q ↦ or_left (same_pair g.pair p) _ (through g.pair c.pair p q s)
      | inr q ↦ or_right (same_pair g.pair p) _ (moved gs s q)
    ]

    go : (t : Bool) → same_pair c.pair p ≡ t → t ≡ false
    go true s = absurd (false≢true (sym u ∙ moved fs s h))
    go false s = refl
unchanged_row fs p u row h = refl

none_of_all : (P : Row → Type 0) (test : Row → Bool) → ((row : Row) → P row → test row ≡ false) → (rows : List Row) → AllByRecursion P rows → list_any test rows ≡ false
none_of_all P test f [] a = refl
none_of_all P test f (r ∷ rows) a = rw (f r a.0, none_of_all P test f rows a.1) refl

module _ (d : Dataset) (b : Base) where
  entry_tells : (e : Entry) (log : List Entry) → AllByRecursion (Tells (edges d b (e ∷ log))) (entry_rows d b log e)
  unfolding entry_rows edges edges_after
  entry_tells e log =
      let fs : List Edge = edges d b (e ∷ log) in
      all_append (Tells fs) (map (EdgeRow e.number) (new_edges d b log e)) _ (all_map (EdgeRow e.number) (Tells fs) (new_edges d b log e) (all_each (λ x. Unit {0}) (new_edges d b log e) (λ x. tt)))
      (all_append (Tells fs) (map NodeRow (new_nodes d b (e ∷ log) e.number)) _ (all_map NodeRow (Tells fs) (new_nodes d b (e ∷ log) e.number) (all_each (λ x. Unit {0}) (new_nodes d b (e ∷ log) e.number) (λ x. tt)))
      (all_append (Tells fs) (map LinkRow (new_links d b (e ∷ log) e.number)) _ (all_map LinkRow (Tells fs) (new_links d b (e ∷ log) e.number) (all_each (λ x. Unit {0}) (new_links d b (e ∷ log) e.number) (λ x. tt)))
      (all_append (Tells fs) (map ItemRow (marks e.number e.asked)) _ (all_map ItemRow (Tells fs) (marks e.number e.asked) (all_each (λ x. Unit {0}) (marks e.number e.asked) (λ x. tt)))
      (all_append (Tells fs) (map (ChangeRow e.number) e.changed) (EntryRow e ∷ []) (all_map (ChangeRow e.number) (Tells fs) e.changed (changed_self d.merge_affinity e.changed (edges d b log))) (tt, tt)))))

  rows_tell : (log : List Entry) → AllByRecursion (Tells (edges d b log)) (rows_of d b log)
  unfolding rows_of edges edges_after
  rows_tell [] = all_base d b (Tells (edges d b [])) tt (all_each (λ v. Unit {0}) b.supervoxels (λ v. tt)) (all_each (λ c. Unit {0}) (chunks d b) (λ c. tt))
  rows_tell (e ∷ log) =
      all_append (Tells (edges d b (e ∷ log))) (rows_of d b log) (entry_rows d b log e)
      (all_more (Tells (edges d b log)) (Tells (edges d b (e ∷ log))) (rows_of d b log) (tells_more d.merge_affinity e.changed (edges d b log)) (rows_tell log)) (entry_tells e log)

  -- a pair that is no edge of the log has no change there
  pub unchanged : (log : List Entry) (p : Pair) → list_any (λ f. same_pair f.pair p) (edges d b log) ≡ false → list_any (change_of p) (rows_of d b log) ≡ false
  unchanged log p u = none_of_all (Tells (edges d b log)) (change_of p) (unchanged_row (edges d b log) p u) (rows_of d b log) (rows_tell log)

  pub edges_unchanged : (f : Entry) (log : List Entry) (e : Entry) → AllByRecursion (λ (x : Edge). list_any (change_of x.pair) (rows_of d b (f ∷ log)) ≡ false) (new_edges d b (f ∷ log) e)
  unfolding new_edges unknown
  edges_unchanged f log e =
      let test : Changed → Bool = λ c. not (list_any (λ g. same_pair g.pair c.pair) (edges d b (f ∷ log))) in
      all_map (λ c. record { pair = c.pair; weight = Affinity d.merge_affinity; active = false }) (λ (x : Edge). list_any (change_of x.pair) (rows_of d b (f ∷ log)) ≡ false) (filter test e.changed)
      (all_more (λ c. Unit {0} × (test c ≡ true)) (λ (c : Changed). list_any (change_of c.pair) (rows_of d b (f ∷ log)) ≡ false) (filter test e.changed)
      (λ c q. unchanged (f ∷ log) c.pair (not_true (list_any (λ g. same_pair g.pair c.pair) (edges d b (f ∷ log))) q.1))
      (all_filter test (λ c. Unit {0}) e.changed (all_each (λ c. Unit {0}) e.changed (λ c. tt))))
    where
      not_true : (t : Bool) → not t ≡ true → t ≡ false
      not_true true h = absurd (false≢true h)
      not_true false h = refl
