-- What an entry touches is a part of the base.
use Rattle.std.proofs.Common.{◌≡◌, ℕ, Bool, true, false, cond, not, ◌&&◌, ◌||◌, List, [], ◌∷◌, ◌++◌, map, refl, sym, ◌∙◌, ap, subst, inl, inr, IsTrue}
use Rattle.std.specs.List.{AllByRecursion, filter, list_any}
use Rattle.std.proofs.lemmas.Bool.{and_parts, and_from, false≢true, or_cases, or_left, or_right}
use Rattle.std.proofs.lemmas.List.Folds.{list_any-append}
use Rattle.op_model.specs.declared.base.Dataset.{Dataset}
use Rattle.op_model.specs.declared.base.Base.{Base}
use Rattle.op_model.specs.declared.base.Pair.{Pair}
use Rattle.op_model.specs.declared.base.Edge.{Edge}
use Rattle.op_model.specs.declared.entry.Changed.{Changed}
use Rattle.op_model.specs.declared.entry.Entry.{Entry}
use Rattle.graph_model.specs.Lists.{has}
use Rattle.graph_model.specs.Components.{Inside}
use Rattle.graph_model.proofs.ListLemmas.{has_head, has_tail, same_bool}
use Rattle.graph_model.proofs.Walks.{reach_one}
use Rattle.op_model.specs.Cuts.{PairsAscend}
use Rattle.op_model.specs.Edges.{edges_after, joins, linked, put_changed, same_pair}
use Rattle.op_model.specs.Labels.{edges, root}
use Rattle.op_model.specs.Laws.{IsKnown}
use Rattle.op_model.specs.Legal.{Legal}
use Rattle.op_model.specs.Operations.{ends, first_entry}
use Rattle.op_model.specs.Valid.{IsBase, IsDataset, IsEdge, IsSupervoxel, PairsDiffer}
use Rattle.op_model.proofs.KnownLemmas.{legal_known}
use Rattle.op_model.proofs.LegalLemmas.{all_has}
use Rattle.op_model.proofs.MadeLemmas.{ends_known}
use Rattle.op_model.proofs.OrderLemmas.{Sorted, after_sorted, filter_sorted}
use Rattle.op_model.proofs.RootLemmas.{roots_joined}
use Rattle.record_rows.proofs.DifferLemmas.{all_append, all_filter, all_map, all_more}
use Rattle.layer_laws.proofs.IngestLemmas.{linked_base}
use Rattle.layer_laws.proofs.RiseLemmas.{joins_cases}
use Rattle.entry_parts.specs.Parts.{IsPart}
use Rattle.part_laws.specs.Touched.{IsTouched, active_edge, changes, gained_edges, is_among, kept_edges}
use Rattle.part_laws.proofs.ChangedLinks.{any_changed, ascend_differ, differ_append, gained_apart, gained_differ, sorted_bonds, sorted_differ}

or_turn : (a b : Bool) → (a || b) ≡ (b || a)
or_turn true true = refl
or_turn true false = refl
or_turn false true = refl
or_turn false false = refl

all_from : (P : ℕ → Type 0) (xs : List ℕ) → ((x : ℕ) → has xs x ≡ true → P x) → AllByRecursion P xs
all_from P [] f = tt
all_from P (x ∷ xs) f = (f x (has_head x xs), all_from P xs (λ y h. f y (has_tail x xs y h)))

-- an edge that passes a test, with what holds of all edges
any_found : {X : Type 0} (P : X → Type 0) (t : X → Bool) (xs : List X) → AllByRecursion P xs → list_any t xs ≡ true → (x : X) × P x × (t x ≡ true)
any_found P t [] a h = absurd (false≢true h)
any_found P t (x ∷ xs) a h = elim (or_cases (t x) (list_any t xs) h) [ inl k ↦ (x, a.0, k) | inr k ↦ any_found P t xs a.1 k ]

any_weaker : {X : Type 0} (s t : X → Bool) (xs : List X) → ((x : X) → s x ≡ true → t x ≡ true) → list_any s xs ≡ true → list_any t xs ≡ true
any_weaker s t [] f h = h
any_weaker s t (x ∷ xs) f h = elim (or_cases (s x) (list_any s xs) h) [ inl k ↦ or_left (t x) _ (f x k) | inr k ↦ or_right (t x) _ (any_weaker s t xs f k) ]

joined_end : (p : Pair) (u v : ℕ) (xs : List ℕ) → joins p u v ≡ true → has xs u ≡ true → has xs v ≡ true → (has xs p.a ≡ true) × (has xs p.b ≡ true)
joined_end p u v xs j hu hv =
    elim (joins_cases p u v j) [
      | inl q ↦ (subst (λ x. has xs x ≡ true) (sym q.0) hu, subst (λ x. has xs x ≡ true) (sym q.1) hv)
      | inr q ↦ (subst (λ x. has xs x ≡ true) (sym q.0) hv, subst (λ x. has xs x ≡ true) (sym q.1) hu)
    ]

-- a pair that becomes active has ends of a changed one
gained_end : (cs : List Changed) (u v : ℕ) → list_any (λ c. c.active && joins c.pair u v) cs ≡ true → has (ends cs) v ≡ true
unfolding ends
gained_end [] u v h = absurd (false≢true h)
gained_end (c ∷ cs) u v h = elim (or_cases (c.active && joins c.pair u v) (list_any (λ x. x.active && joins x.pair u v) cs) h) [
  | inl k ↦ elim (joins_cases c.pair u v (and_parts c.active (joins c.pair u v) k).1) [
    | inl q ↦ has_tail c.pair.a (c.pair.b ∷ ends cs) v (subst (λ x. has (c.pair.b ∷ ends cs) x ≡ true) q.1 (has_head c.pair.b (ends cs)))
    | inr q ↦ subst (λ x. has (c.pair.a ∷ c.pair.b ∷ ends cs) x ≡ true) q.0 (has_head c.pair.a (c.pair.b ∷ ends cs))
  ]
  | inr k ↦ has_tail c.pair.a (c.pair.b ∷ ends cs) v (has_tail c.pair.b (ends cs) v (gained_end cs u v k))
]

ends_all : (cs : List Changed) → AllByRecursion (λ c. (has (ends cs) c.pair.a ≡ true) × (has (ends cs) c.pair.b ≡ true)) cs
unfolding ends
ends_all [] = tt
ends_all (c ∷ cs) = (
  (has_head c.pair.a (c.pair.b ∷ ends cs), has_tail c.pair.a (c.pair.b ∷ ends cs) c.pair.b (has_head c.pair.b (ends cs))),
  all_more (λ x. (has (ends cs) x.pair.a ≡ true) × (has (ends cs) x.pair.b ≡ true)) (λ x. (has (c.pair.a ∷ c.pair.b ∷ ends cs) x.pair.a ≡ true) × (has (c.pair.a ∷ c.pair.b ∷ ends cs) x.pair.b ≡ true)) cs
      (λ x p. (has_tail c.pair.a (c.pair.b ∷ ends cs) x.pair.a (has_tail c.pair.b (ends cs) x.pair.a p.0), has_tail c.pair.a (c.pair.b ∷ ends cs) x.pair.b (has_tail c.pair.b (ends cs) x.pair.b p.1))) (ends_all cs),
)

-- the pairs that become active join what the changed pairs join then
any_gained : (affinity : ℕ) (u v : ℕ) (cs : List Changed) → linked (gained_edges affinity cs) u v ≡ list_any (λ c. c.active && joins c.pair u v) cs
unfolding linked gained_edges
any_gained affinity u v [] = refl
any_gained affinity u v (c ∷ cs) = go c.active (any_gained affinity u v cs)
  where
    go : (k : Bool) → list_any (λ f. f.active && joins f.pair u v) (map (λ x. active_edge affinity x.pair) (filter (λ x. x.active) cs)) ≡ list_any (λ x. x.active && joins x.pair u v) cs
        → list_any (λ f. f.active && joins f.pair u v) (map (λ x. active_edge affinity x.pair) (cond k (c ∷ filter (λ x. x.active) cs) (filter (λ x. x.active) cs)))
        ≡ ((k && joins c.pair u v) || list_any (λ x. x.active && joins x.pair u v) cs)
    go true ih = ap (λ k. joins c.pair u v || k) ih
    go false ih = ih

any_where : {X : Type 0} (s t : X → Bool) (xs : List X) → list_any t (filter s xs) ≡ list_any (λ x. s x && t x) xs
any_where s t [] = refl
any_where s t (x ∷ xs) = go (s x) (any_where s t xs)
  where
    go : (k : Bool) → list_any t (filter s xs) ≡ list_any (λ y. s y && t y) xs → list_any t (cond k (x ∷ filter s xs) (filter s xs)) ≡ ((k && t x) || list_any (λ y. s y && t y) xs)
    go true ih = ap (λ z. t x || z) ih
    go false ih = ih

any_bonds : (affinity u v : ℕ) (fs : List Edge) → linked (map (λ f. active_edge affinity f.pair) fs) u v ≡ list_any (λ f. joins f.pair u v) fs
unfolding linked
any_bonds affinity u v [] = refl
any_bonds affinity u v (f ∷ fs) = ap (λ k. joins f.pair u v || k) (any_bonds affinity u v fs)

-- the edges that are kept join, of their supervoxels, what the edges join that no changed pair is of
any_kept : (affinity : ℕ) (ids : List ℕ) (u v : ℕ) (cs : List Changed) (es : List Edge) → has ids u ≡ true → has ids v ≡ true
    → linked (kept_edges affinity cs (filter (is_among ids) es)) u v ≡ list_any (λ f. not (changes cs f.pair) && (f.active && joins f.pair u v)) es
unfolding kept_edges is_among
any_kept affinity ids u v cs es hu hv =
    any_bonds affinity u v (filter N (filter A es))
    ∙ (any_where N J (filter A es) ∙ (any_where A (λ f. N f && J f) es ∙ (λ i. list_any (λ f. same f i) es)))
  where
    A : Edge → Bool
    A f = (f.active && has ids f.pair.a) && has ids f.pair.b

    N : Edge → Bool
    N f = not (changes cs f.pair)

    J : Edge → Bool
    J f = joins f.pair u v

    same : (f : Edge) → (((f.active && has ids f.pair.a) && has ids f.pair.b) && (not (changes cs f.pair) && joins f.pair u v)) ≡ (not (changes cs f.pair) && (f.active && joins f.pair u v))
    same f =
        same_bool _ _
        (λ h.
        let p = and_parts ((f.active && has ids f.pair.a) && has ids f.pair.b) (not (changes cs f.pair) && joins f.pair u v) h in
        let q = and_parts (not (changes cs f.pair)) (joins f.pair u v) p.1 in
        let r = and_parts (f.active && has ids f.pair.a) (has ids f.pair.b) p.0 in
        and_from (not (changes cs f.pair)) (f.active && joins f.pair u v) q.0 (and_from f.active (joins f.pair u v) (and_parts f.active (has ids f.pair.a) r.0).0 q.1))
        (λ h.
        let p = and_parts (not (changes cs f.pair)) (f.active && joins f.pair u v) h in
        let q = and_parts f.active (joins f.pair u v) p.1 in
        let e = joined_end f.pair u v ids q.1 hu hv in
        and_from ((f.active && has ids f.pair.a) && has ids f.pair.b) (not (changes cs f.pair) && joins f.pair u v)
        (and_from (f.active && has ids f.pair.a) (has ids f.pair.b) (and_from f.active (has ids f.pair.a) q.0 e.0) e.1) (and_from (not (changes cs f.pair)) (joins f.pair u v) p.0 q.1))

true_false : (b : Bool) → not b ≡ true → b ≡ false
true_false true h = absurd (false≢true h)
true_false false h = refl

module _ (d : Dataset) (b : Base) (valid : IsDataset d) (base : IsBase d b) (e : Entry) (log : List Entry) (part : Base) (legal : Legal d b log)
    (known : AllByRecursion (λ c. IsKnown b c.pair) e.changed) (ascends : PairsAscend (map (λ c. c.pair) e.changed)) (is : IsTouched d b log e.changed part) where
  abbrev old : List Edge
  old = edges d b log

  abbrev among : List Edge
  among = filter (is_among part.supervoxels) (edges d b log)

  abbrev kept : List Edge
  kept = kept_edges d.merge_affinity e.changed among

  abbrev gained : List Edge
  gained = gained_edges d.merge_affinity e.changed

  sorted_old : Sorted old
  unfolding edges
  sorted_old = after_sorted b.edges d.merge_affinity log

  in_base : (v : ℕ) → has part.supervoxels v ≡ true → has b.supervoxels v ≡ true
  in_base v h = ((is.touched v).0 h).0

  end_in : (v : ℕ) → has (ends e.changed) v ≡ true → has part.supervoxels v ≡ true
  end_in v h = (is.touched v).1 (ends_known b e.changed v known h, (v, h, refl))

  abbrev IsOwn : Edge → Type 0
  IsOwn f = IsEdge part.supervoxels f

  kept_own : AllByRecursion IsOwn kept
  unfolding kept_edges is_among
  kept_own =
      all_map (λ f. active_edge d.merge_affinity f.pair) IsOwn (filter N (filter A old))
      (all_more (λ f. (IsKnown b f.pair × (A f ≡ true)) × (N f ≡ true)) (λ f. IsOwn (active_edge d.merge_affinity f.pair)) (filter N (filter A old))
      (λ f p.
      let q = and_parts (f.active && has part.supervoxels f.pair.a) (has part.supervoxels f.pair.b) p.0.1 in
      (p.0.0.2, (and_parts f.active (has part.supervoxels f.pair.a) q.0).1, q.1, valid.merge_affinity))
      (all_filter N (λ f. IsKnown b f.pair × (A f ≡ true)) (filter A old) (all_filter A (λ f. IsKnown b f.pair) old (legal_known d b base log legal).1)))
    where
      A : Edge → Bool
      A f = (f.active && has part.supervoxels f.pair.a) && has part.supervoxels f.pair.b

      N : Edge → Bool
      N f = not (changes e.changed f.pair)

  gained_own : AllByRecursion IsOwn gained
  unfolding gained_edges
  gained_own =
      all_map (λ c. active_edge d.merge_affinity c.pair) IsOwn (filter (λ c. c.active) e.changed)
      (all_more (λ c. (IsOwn (active_edge d.merge_affinity c.pair)) × (c.active ≡ true)) (λ c. IsOwn (active_edge d.merge_affinity c.pair)) (filter (λ c. c.active) e.changed) (λ c p. p.0)
      (all_filter (λ c. c.active) (λ c. IsOwn (active_edge d.merge_affinity c.pair)) e.changed (own e.changed known (ends_all e.changed))))
    where
      own : (cs : List Changed) → AllByRecursion (λ c. IsKnown b c.pair) cs → AllByRecursion (λ c. (has (ends e.changed) c.pair.a ≡ true) × (has (ends e.changed) c.pair.b ≡ true)) cs
          → AllByRecursion (λ c. IsOwn (active_edge d.merge_affinity c.pair)) cs
      own [] k a = tt
      own (c ∷ cs) k a = ((k.0.2, end_in c.pair.a a.0.0, end_in c.pair.b a.0.1, valid.merge_affinity), own cs k.1 a.1)

  part_once : PairsDiffer part.edges
  unfolding kept_edges gained_edges is_among
  part_once =
      subst (λ es. PairsDiffer es) (sym is.edges)
      (differ_append kept gained
      (sorted_differ kept (sorted_bonds d.merge_affinity (filter N among) (filter_sorted N among (filter_sorted (is_among part.supervoxels) old sorted_old))))
      (gained_differ d.merge_affinity e.changed (ascend_differ e.changed ascends))
      (all_map (λ f. active_edge d.merge_affinity f.pair) (λ f. list_any (λ g. same_pair g.pair f.pair) gained ≡ false) (filter N among)
      (all_more (λ f. Unit {0} × (N f ≡ true)) (λ f. list_any (λ g. same_pair g.pair f.pair) gained ≡ false) (filter N among)
      (λ f p. gained_apart d.merge_affinity f.pair e.changed (true_false (changes e.changed f.pair) p.1))
      (all_filter N (λ f. Unit {0}) among (each among)))))
    where
      N : Edge → Bool
      N f = not (changes e.changed f.pair)

      each : (fs : List Edge) → AllByRecursion (λ f. Unit {0}) fs
      each [] = tt
      each (f ∷ fs) = (tt, each fs)

  part_base : IsBase d part
  part_base = record {
    ascending = is.ascending;
    supervoxels = all_from (IsSupervoxel d) part.supervoxels (λ v h. all_has (IsSupervoxel d) b.supervoxels v base.supervoxels (in_base v h));
    edges = subst (λ es. AllByRecursion IsOwn es) (sym is.edges) (all_append IsOwn kept gained kept_own gained_own);
    once = part_once;
  }

  -- what is active after the entry
  after : (u v : ℕ) → linked (edges d b (e ∷ log)) u v
      ≡ (list_any (λ c. c.active && joins c.pair u v) e.changed || list_any (λ f. not (changes e.changed f.pair) && (f.active && joins f.pair u v)) (edges d b log))
  unfolding linked edges edges_after
  after u v = any_changed (λ p k. k && joins p u v) d.merge_affinity e.changed (edges d b log) sorted_old (ascend_differ e.changed ascends)

  closed : (u v : ℕ) → IsTrue (has part.supervoxels u) → IsTrue (linked (edges d b (e ∷ log)) u v) → IsTrue (has part.supervoxels v)
  unfolding linked
  closed u v h l =
      elim (or_cases (list_any (λ c. c.active && joins c.pair u v) e.changed) (list_any (λ f. not (changes e.changed f.pair) && (f.active && joins f.pair u v)) old) (sym (after u v) ∙ l)) [
        | inl k ↦ end_in v (gained_end e.changed u v k)
        | inr k ↦ stays (any_weaker (λ f. not (changes e.changed f.pair) && (f.active && joins f.pair u v)) (λ f. f.active && joins f.pair u v) old
            (λ f p. (and_parts (not (changes e.changed f.pair)) (f.active && joins f.pair u v) p).1) k)
      ]
    where
      stays : list_any (λ f. f.active && joins f.pair u v) (edges d b log) ≡ true → has part.supervoxels v ≡ true
      stays k =
          let t = (is.touched u).0 h in
          let f = any_found (λ f. IsKnown b f.pair) (λ f. f.active && joins f.pair u v) old (legal_known d b base log legal).1 k in
          let hv : has b.supervoxels v ≡ true =
          elim (joins_cases f.0.pair u v (and_parts f.0.active (joins f.0.pair u v) f.2).1)
          [ inl q ↦ subst (λ x. has b.supervoxels x ≡ true) q.1 f.1.1 | inr q ↦ subst (λ x. has b.supervoxels x ≡ true) q.0 f.1.0 ] in
          let same : root d b log u ≡ root d b log v =
          (roots_joined d b valid base log u v legal t.0 hv).1 (t.0, reach_one (Inside (linked old) b.supervoxels) u v (k, hv)) in
          (is.touched v).1 (hv, (t.1.0, t.1.1, sym same ∙ t.1.2))

  part_links : (u v : ℕ) → linked (edges d part []) u v ≡ linked part.edges u v
  unfolding edges edges_after put_changed first_entry
  part_links u v = ap (λ (t : ℕ → ℕ → Bool). t u v) (linked_base d part part_base 0)

  both_links : (u v : ℕ) → linked (kept ++ gained) u v ≡ (linked kept u v || linked gained u v)
  unfolding linked
  both_links u v = list_any-append (λ f. f.active && joins f.pair u v) kept gained

  same : (u v : ℕ) → IsTrue (has part.supervoxels u) → IsTrue (has part.supervoxels v) → linked (edges d part []) u v ≡ linked (edges d b (e ∷ log)) u v
  same u v hu hv =
      part_links u v
      ∙ (ap (λ es. linked es u v) is.edges
      ∙ (both_links u v
      ∙ (ap (λ k. k || linked gained u v) (any_kept d.merge_affinity part.supervoxels u v e.changed old hu hv)
      ∙ (ap (λ k. list_any (λ f. not (changes e.changed f.pair) && (f.active && joins f.pair u v)) old || k) (any_gained d.merge_affinity u v e.changed)
      ∙ (or_turn (list_any (λ f. not (changes e.changed f.pair) && (f.active && joins f.pair u v)) old) (list_any (λ c. c.active && joins c.pair u v) e.changed) ∙ sym (after u v))))))

  pub touched_part : IsPart d b (e ∷ log) part
  touched_part = record { base = part_base; known = in_base; closed = closed; same = same }
