-- The edges that an entry makes known, by the places of their ends.
use Rattle.std.proofs.Common.{◌≡◌, ℕ, suc, ◌+◌, ◌*◌, ◌<◌, ◌≤◌, Bool, true, false, cond, not, List, [], ◌∷◌, ◌++◌, length, map, take, get_or, refl, sym, ◌∙◌, ap, subst, inl, inr, arith, append-nil}
use Rattle.std.specs.List.{All, AllByRecursion, filter, flat_map, list_any}
use Rattle.std.proofs.lemmas.Bool.{false≢true}
use Rattle.std.proofs.lemmas.Grind.{flat_map-append}
use Rattle.std.proofs.lemmas.List.{map-append, take_more}
use Rattle.std.proofs.lemmas.List.Elements.{All-from_recursion, filter-append}
use Rattle.op_model.specs.declared.base.Dataset.{Dataset}
use Rattle.op_model.specs.declared.base.Base.{Base}
use Rattle.op_model.specs.declared.base.Pair.{Pair}
use Rattle.op_model.specs.declared.base.Edge.{Edge}
use Rattle.op_model.specs.declared.base.Weight.TheVariants.{Affinity}
use Rattle.op_model.specs.declared.entry.Changed.{Changed}
use Rattle.op_model.specs.declared.entry.Entry.{Entry}
use Rattle.graph_model.specs.Lists.{has}
use Rattle.graph_model.proofs.ListLemmas.{has_cases, has_head, has_none, has_tail}
use Rattle.op_model.specs.Edges.{same_pair}
use Rattle.op_model.specs.Labels.{edges}
use Rattle.op_model.specs.Laws.{IsKnown}
use Rattle.op_model.specs.Legal.{Legal}
use Rattle.op_model.specs.Operations.{ascending}
use Rattle.op_model.specs.Valid.{IsBase}
use Rattle.op_model.proofs.KnownLemmas.{legal_known}
use Rattle.op_model.proofs.LegalLemmas.{ascending_has}
use Rattle.record_rows.specs.Chains.{change_of}
use Rattle.record_rows.specs.LogRows.{new_edges, rows_of, unknown}
use Rattle.record_rows.proofs.DifferLemmas.{all_filter, all_map, all_more}
use Rattle.row_append.specs.Ends.{EdgesOf}
use Rattle.row_append.specs.declared.tail.Tail.{Tail}
use Rattle.base_rows.specs.declared.lists.BaseEdge.{BaseEdge}
use Rattle.base_rows.specs.Lists.{IsPlaced}
use Rattle.base_rows.specs.States.{AreTails}
use Rattle.entry_rows.specs.States.{ArePointers}
use Rattle.octree_layers.proofs.Placing.{place_at}
use Rattle.new_ids.proofs.PairFacts.{edges_unchanged}
use Rattle.entry_lists.specs.Parts.{AreEdgesPlaced, HoldsEnds, IsBehind, base_edge, ends_of}
use Rattle.entry_lists.proofs.Ascents.{ascending_holds, ascending_once}

pub unknown_next : (d : Dataset) (b : Base) (log : List Entry) (cs : List Changed) (k : ℕ) (c : Changed) (ps after : List Pair) → k < length cs → c ≡ get_or cs k c → ps ≡ map (λ (x : Changed). x.pair) (unknown d b log (take k cs))
    → after ≡ ps ++ map (λ (x : Changed). x.pair) (unknown d b log (c ∷ [])) → after ≡ map (λ (x : Changed). x.pair) (unknown d b log (take (k + 1) cs))
unfolding unknown
unknown_next d b log cs k c ps after l q h p =
    let test : Changed → Bool = λ x. not (list_any (λ f. same_pair f.pair x.pair) (edges d b log)) in
    p ∙ (ap (λ xs. xs ++ map (λ (x : Changed). x.pair) (filter test (c ∷ []))) h
    ∙ (sym (map-append (λ (x : Changed). x.pair) (filter test (take k cs)) (filter test (c ∷ [])))
    ∙ ap (map (λ (x : Changed). x.pair)) (sym (filter-append test (take k cs) (c ∷ [])) ∙ ap (filter test) (ap (λ y. take k cs ++ y ∷ []) q ∙ sym (take_more cs k c l)))))

pub one_unknown : (d : Dataset) (b : Base) (log : List Entry) (c : Changed) (t : Bool) → t ≡ not (list_any (λ f. same_pair f.pair c.pair) (edges d b log)) → map (λ (x : Changed). x.pair) (unknown d b log (c ∷ [])) ≡ cond t (c.pair ∷ []) []
unfolding unknown
one_unknown d b log c t e = go (not (list_any (λ f. same_pair f.pair c.pair) (edges d b log))) e
  where
    go : (u : Bool) → t ≡ u → map (λ (x : Changed). x.pair) (cond u (c ∷ []) []) ≡ cond t (c.pair ∷ []) []
    go true q = rw q refl
    go false q = rw q refl

pub ends_next : (ps : List Pair) (k : ℕ) (p : Pair) (xs after : List ℕ) → k < length ps → p ≡ get_or ps k p → xs ≡ flat_map ends_of (take k ps) → after ≡ xs ++ ends_of p → after ≡ flat_map ends_of (take (k + 1) ps)
unfolding ends_of
ends_next ps k p xs after l q h e =
    e ∙ (ap (λ ys. ys ++ (p.a ∷ p.b ∷ [])) h ∙ (sym (flat_map-append ends_of (take k ps) (p ∷ [])) ∙ ap (flat_map ends_of) (ap (λ y. take k ps ++ y ∷ []) q ∙ sym (take_more ps k p l))))

pub own_ends : (ps : List Pair) → AllByRecursion (HoldsEnds (flat_map ends_of ps)) ps
unfolding ends_of
own_ends [] = tt
own_ends (p ∷ ps) =
    let rest : List ℕ = flat_map ends_of ps in (
      (has_head p.a (p.b ∷ rest), has_tail p.a (p.b ∷ rest) p.b (has_head p.b rest)),
      all_more (HoldsEnds rest) (HoldsEnds (p.a ∷ p.b ∷ rest)) ps (λ q h. (has_tail p.a (p.b ∷ rest) q.a (has_tail p.b rest q.a h.0), has_tail p.a (p.b ∷ rest) q.b (has_tail p.b rest q.b h.1))) (own_ends ps),
    )

-- the supervoxels of the pairs
abbrev pub ids : List Pair → List ℕ
ids ps = ascending (flat_map ends_of ps)

pub ends_known : (ps : List Pair) → All (HoldsEnds (ids ps)) ps
ends_known ps =
    All-from_recursion (HoldsEnds (ids ps)) ps
    (all_more (HoldsEnds (flat_map ends_of ps)) (HoldsEnds (ids ps)) ps (λ p h. (ascending_has (flat_map ends_of ps) p.a h.0, ascending_has (flat_map ends_of ps) p.b h.1)) (own_ends ps))

ends_hold : (P : ℕ → Type 0) (ps : List Pair) → AllByRecursion (λ (p : Pair). P p.a × P p.b) ps → (v : ℕ) → has (flat_map ends_of ps) v ≡ true → P v
unfolding ends_of
ends_hold P [] a v h = has_none v h
ends_hold P (p ∷ ps) a v h =
    elim (has_cases p.a (p.b ∷ flat_map ends_of ps) v h) [
      | inl e ↦ subst P e a.0.0
      | inr g ↦ elim (has_cases p.b (flat_map ends_of ps) v g) [ inl e ↦ subst P e a.0.1 | inr k ↦ ends_hold P ps a.1 v k ]
    ]

-- the pairs that no edge joins are of supervoxels of the base
pub pairs_known : (d : Dataset) (b : Base) → IsBase d b → (log : List Entry) (e : Entry) → Legal d b (e ∷ log) → AllByRecursion (IsKnown b) (map (λ (c : Changed). c.pair) (unknown d b log e.changed))
unfolding unknown
pairs_known d b base log e legal =
    let test : Changed → Bool = λ x. not (list_any (λ f. same_pair f.pair x.pair) (edges d b log)) in
    all_map (λ (c : Changed). c.pair) (IsKnown b) (filter test e.changed)
    (all_more (λ (c : Changed). IsKnown b c.pair × (test c ≡ true)) (λ (c : Changed). IsKnown b c.pair) (filter test e.changed) (λ c h. h.0) (all_filter test (λ (c : Changed). IsKnown b c.pair) e.changed (legal_known d b base (e ∷ log) legal).0.0))

pub ends_stand : (d : Dataset) (b : Base) → IsBase d b → (log : List Entry) (e : Entry) → Legal d b (e ∷ log) → All (λ v. has b.supervoxels v ≡ true) (ids (map (λ (c : Changed). c.pair) (unknown d b log e.changed)))
ends_stand d b base log e legal =
    let ps : List Pair = map (λ (c : Changed). c.pair) (unknown d b log e.changed) in
    ascending_holds (λ v. has b.supervoxels v ≡ true) (flat_map ends_of ps)
    (ends_hold (λ v. has b.supervoxels v ≡ true) ps (all_more (IsKnown b) (λ (p : Pair). (has b.supervoxels p.a ≡ true) × (has b.supervoxels p.b ≡ true)) ps (λ p k. (k.0, k.1)) (pairs_known d b base log e legal)))

ends_length : (ps : List Pair) → length (flat_map ends_of ps) ≡ 2 * length ps
unfolding ends_of
ends_length [] = refl
ends_length (p ∷ ps) = let h = ends_length ps in omega (arith, h)

pub ids_few : (ps : List Pair) (n : ℕ) → length ps ≤ n → length (flat_map ends_of ps) ≤ 2 * n
ids_few ps n l = let h = ends_length ps in omega (arith, h, l)

module _ (d : Dataset) (b : Base) (f : Entry) (old : List Entry) (e : Entry) (base : IsBase d b) (legal : Legal d b (e ∷ f ∷ old)) where
  abbrev ps : List Pair
  ps = map (λ (c : Changed). c.pair) (unknown d b (f ∷ old) e.changed)

  same_edges : (vs : List ℕ) (cs : List Changed) → map (λ (x : BaseEdge). x.edge) (map (base_edge d.merge_affinity vs) (map (λ (c : Changed). c.pair) cs)) ≡ map (λ (c : Changed). record { pair = c.pair; weight = Affinity d.merge_affinity; active = false }) cs
  unfolding base_edge
  same_edges vs [] = refl
  same_edges vs (c ∷ cs) = ap (λ ys. record { pair = c.pair; weight = Affinity d.merge_affinity; active = false } ∷ ys) (same_edges vs cs)

  each_placed : (qs : List Pair) → AllByRecursion (λ (p : Pair). HoldsEnds (ids ps) p × IsKnown b p) qs → AllByRecursion (IsPlaced (ids ps)) (map (base_edge d.merge_affinity (ids ps)) qs)
  unfolding base_edge
  each_placed [] a = tt
  each_placed (p ∷ qs) a =
      let x = place_at (ids ps) p.a a.0.0.0 in
      let y = place_at (ids ps) p.b a.0.0.1 in
      let l = a.0.1.2 in
      (record { lesser = x.0; greater = y.0; lesser_is = x.1; greater_is = y.1; differ = λ q. omega (arith, l, q) }, each_placed qs a.1)

  both : (qs : List Pair) → AllByRecursion (HoldsEnds (ids ps)) qs → AllByRecursion (IsKnown b) qs → AllByRecursion (λ (p : Pair). HoldsEnds (ids ps) p × IsKnown b p) qs
  both [] a c = tt
  both (q ∷ qs) a c = ((a.0, c.0), both qs a.1 c.1)

  fresh_edges : (xs : List BaseEdge) (es : List Edge) → map (λ (x : BaseEdge). x.edge) xs ≡ es → AllByRecursion (λ (x : Edge). list_any (change_of x.pair) (rows_of d b (f ∷ old)) ≡ false) es → AllByRecursion (λ (x : BaseEdge). list_any (change_of x.edge.pair) (rows_of d b (f ∷ old)) ≡ false) xs
  fresh_edges [] es m a = tt
  fresh_edges (x ∷ xs) [] m a = cc
  fresh_edges (x ∷ xs) (y ∷ es) m a =
      let p : x.edge ≡ y = cc in
      let r : map (λ (z : BaseEdge). z.edge) xs ≡ es = cc in
      (subst (λ (z : Edge). list_any (change_of z.pair) (rows_of d b (f ∷ old)) ≡ false) (sym p) a.0, fresh_edges xs es r a.1)

  all_placed : (tails : List Tail) → AreTails EdgesOf (ids ps) (rows_of d b (f ∷ old)) tails → ArePointers tails
      → AreEdgesPlaced (rows_of d b (f ∷ old)) (map (base_edge d.merge_affinity (ids ps)) ps) tails (new_edges d b (f ∷ old) e)
  unfolding new_edges
  all_placed tails ends pointers = record {
    ids = ids ps;
    once = ascending_once (flat_map ends_of ps);
    ends_are = ends;
    pointers = pointers;
    placed = All-from_recursion (IsPlaced (ids ps)) (map (base_edge d.merge_affinity (ids ps)) ps)
        (each_placed ps (both ps (all_more (HoldsEnds (flat_map ends_of ps)) (HoldsEnds (ids ps)) ps (λ p h. (ascending_has (flat_map ends_of ps) p.a h.0, ascending_has (flat_map ends_of ps) p.b h.1)) (own_ends ps)) (pairs_known d b base (f ∷ old) e legal)));
    fresh = All-from_recursion (λ (x : BaseEdge). list_any (change_of x.edge.pair) (rows_of d b (f ∷ old)) ≡ false) (map (base_edge d.merge_affinity (ids ps)) ps)
        (fresh_edges (map (base_edge d.merge_affinity (ids ps)) ps) _ (same_edges (ids ps) (unknown d b (f ∷ old) e.changed)) (edges_unchanged d b f old e));
    edges_are = same_edges (ids ps) (unknown d b (f ∷ old) e.changed);
  }

pub edges_placed : (d : Dataset) (b : Base) (log : List Entry) (e : Entry) (words : List ℕ) → IsBehind d b log e words → (qs : List Pair) (xs : List BaseEdge) (tails : List Tail) → qs ≡ map (λ (c : Changed). c.pair) (unknown d b log e.changed)
    → (affinity : ℕ) → affinity ≡ d.merge_affinity → xs ≡ map (base_edge affinity (ids qs)) qs → AreTails EdgesOf (ids qs) (rows_of d b log) tails → ArePointers tails → AreEdgesPlaced (rows_of d b log) xs tails (new_edges d b log e)
edges_placed d b log e words i qs xs tails q affinity a m ends pointers =
    subst (λ ys. AreEdgesPlaced (rows_of d b log) ys tails (new_edges d b log e)) (sym (m ∙ (ap (λ n. map (base_edge n (ids qs)) qs) a ∙ ap (λ ps. map (base_edge d.merge_affinity (ids ps)) ps) q)))
    (go log i.image.legal i.legal (subst (λ ps. AreTails EdgesOf (ids ps) (rows_of d b log) tails) q ends))
  where
    go : (old : List Entry) → Legal d b old → Legal d b (e ∷ old) → AreTails EdgesOf (ids (map (λ (c : Changed). c.pair) (unknown d b old e.changed))) (rows_of d b old) tails
        → AreEdgesPlaced (rows_of d b old) (map (base_edge d.merge_affinity (ids (map (λ (c : Changed). c.pair) (unknown d b old e.changed)))) (map (λ (c : Changed). c.pair) (unknown d b old e.changed))) tails (new_edges d b old e)
    go [] l k t = absurd l
    go (f ∷ old) l k t = all_placed d b f old e i.image.base k tails t pointers

pub none_yet : (d : Dataset) (b : Base) (log : List Entry) (qs : List Pair) → qs ≡ [] → qs ≡ map (λ (x : Changed). x.pair) (unknown d b log [])
unfolding unknown
none_yet d b log qs e = e

pub unknown_few : (d : Dataset) (b : Base) (log : List Entry) (cs : List Changed) → length (map (λ (x : Changed). x.pair) (unknown d b log cs)) ≤ length cs
unfolding unknown
unknown_few d b log cs = go cs
  where
    go : (xs : List Changed) → length (map (λ (x : Changed). x.pair) (filter (λ c. not (list_any (λ f. same_pair f.pair c.pair) (edges d b log))) xs)) ≤ length xs
    go [] = omega arith
    go (x ∷ xs) = split (not (list_any (λ f. same_pair f.pair x.pair) (edges d b log))) (go xs)
      where
        split : (t : Bool) → length (map (λ (y : Changed). y.pair) (filter (λ c. not (list_any (λ f. same_pair f.pair c.pair) (edges d b log))) xs)) ≤ length xs
            → length (map (λ (y : Changed). y.pair) (cond t (x ∷ filter (λ c. not (list_any (λ f. same_pair f.pair c.pair) (edges d b log))) xs) (filter (λ c. not (list_any (λ f. same_pair f.pair c.pair) (edges d b log))) xs))) ≤ suc (length xs)
        split true h = omega (arith, h)
        split false h = omega (arith, h)

pub nothing_put : (d : Dataset) (b : Base) (log : List Entry) (c : Changed) (ps : List Pair) (t : Bool) → t ≡ not (list_any (λ f. same_pair f.pair c.pair) (edges d b log)) → not t ≡ true → ps ≡ ps ++ map (λ (x : Changed). x.pair) (unknown d b log (c ∷ []))
nothing_put d b log c ps t e f = sym (append-nil ps) ∙ ap (λ xs. ps ++ xs) (sym (one_unknown d b log c t e ∙ ap (λ u. cond u (c.pair ∷ []) []) (flip t f)))
  where
    flip : (u : Bool) → not u ≡ true → u ≡ false
    flip true h = absurd (false≢true h)
    flip false h = refl

pub pair_put : (d : Dataset) (b : Base) (log : List Entry) (c : Changed) (ps after : List Pair) (t : Bool) → t ≡ not (list_any (λ f. same_pair f.pair c.pair) (edges d b log)) → not t ≡ false → after ≡ ps ++ c.pair ∷ [] → after ≡ ps ++ map (λ (x : Changed). x.pair) (unknown d b log (c ∷ []))
pair_put d b log c ps after t e f p = p ∙ ap (λ xs. ps ++ xs) (sym (one_unknown d b log c t e ∙ ap (λ u. cond u (c.pair ∷ []) []) (flip t f)))
  where
    flip : (u : Bool) → not u ≡ false → u ≡ true
    flip true h = refl
    flip false h = absurd (false≢true (sym h))
