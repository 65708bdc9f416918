-- The entry of an edit retires only roots that the edit touches.
use Rattle.std.proofs.Common.{◌≡◌, ℕ, Bool, true, false, cond, not, ◌||◌, ◌&&◌, eqb, ltb, List, [], ◌∷◌, ◌++◌, map, refl, sym, ◌∙◌, ap, subst, inl, inr, Some, None}
use Rattle.std.specs.List.{AllByRecursion, list_any, filter, find}
use Rattle.std.proofs.lemmas.Bool.{false≢true, or_cases, or_left, or_right, and_parts, and_from, eqb-true, not-false}
use Rattle.op_model.specs.declared.base.Dataset.{Dataset}
use Rattle.op_model.specs.declared.base.Base.{Base}
use Rattle.op_model.specs.declared.base.Pair.{Pair}
use Rattle.op_model.specs.declared.base.Edge.{Edge}
use Rattle.op_model.specs.declared.request.Edit.{Edit}
use Rattle.op_model.specs.declared.request.Edit.TheVariants.{Merge, Split, Undo, Redo}
use Rattle.op_model.specs.declared.entry.Changed.{Changed}
use Rattle.op_model.specs.declared.entry.Entry.{Entry}
use Rattle.graph_model.specs.Lists.{has}
use Rattle.graph_model.specs.Components.{Joined as JoinedBy}
use Rattle.op_model.specs.declared.request.AskedPair.{AskedPair}
use Rattle.op_model.specs.Edges.{pair_of, put_pair, same_pair, pair_before, named, named_ends, joins, linked}
use Rattle.op_model.specs.Chunks.{top}
use Rattle.op_model.specs.Valid.{IsDataset, IsBase}
use Rattle.op_model.specs.Labels.{edges, component, root}
use Rattle.op_model.specs.Operations.{ends, opposite, changed_by, change, touched, entry_of, next_entry}
use Rattle.op_model.specs.Refusals.{refuse_unknown, refuse_marks, refuse_early}
use Rattle.op_model.specs.Legal.{Legal}
use Rattle.op_model.specs.Cuts.{part, least_cut}
use Rattle.op_model.specs.Laws.{IsKnown}
use Rattle.graph_model.proofs.ListLemmas.{has_none, has_cases, has_head, has_tail}
use Rattle.op_model.proofs.LegalLemmas.{all_has, map_has, first_none, refuse_first_none}
use Rattle.op_model.proofs.LinkLemmas.{append_left}
use Rattle.op_model.proofs.CutLemmas.{cuts_from_part}
use Rattle.op_model.proofs.LocalLemmas.{component_Joined, joined_root}
use Rattle.op_model.proofs.RootLemmas.{roots_joined}
use Rattle.op_model.proofs.KnownLemmas.{legal_known}
use Rattle.op_model.proofs.LockLemmas.{ascending_all}

all_self : (xs ys : List ℕ) → ((x : ℕ) → has xs x ≡ true → has ys x ≡ true) → AllByRecursion (λ r. has ys r ≡ true) xs
all_self [] ys f = tt
all_self (x ∷ xs) ys f = (f x (has_head x xs), all_self xs ys (λ y h. f y (has_tail x xs y h)))

opposite_ends : (cs : List Changed) → ends (map opposite cs) ≡ ends cs
unfolding ends opposite
opposite_ends [] = refl
opposite_ends (c ∷ cs) = ap (λ xs. c.pair.a ∷ c.pair.b ∷ xs) (opposite_ends cs)

-- one that the test finds, with what holds of all
any_all : (X : Type 0) (P : X → Type 0) (t : X → Bool) (xs : List X) → list_any t xs ≡ true → AllByRecursion P xs → (x : X) × P x × (t x ≡ true)
any_all X P t [] e a = absurd (false≢true e)
any_all X P t (x ∷ xs) e a = elim (or_cases (t x) (list_any t xs) e) [ inl h ↦ (x, a.0, h) | inr h ↦ any_all X P t xs h a.1 ]

any_map : (X : Type 0) (t : X → Bool) (f : ℕ → X) (xs : List ℕ) → list_any t (map f xs) ≡ true → (x : ℕ) × (has xs x ≡ true) × (t (f x) ≡ true)
any_map X t f [] e = absurd (false≢true e)
any_map X t f (x ∷ xs) e =
    elim (or_cases (t (f x)) (list_any t (map f xs)) e) [
      | inl h ↦ (x, has_head x xs, h)
      | inr h ↦ let r = any_map X t f xs h in (r.0, has_tail x xs r.0 r.1, r.2)
    ]

filter_kept : (P : Edge → Type 0) (t : Edge → Bool) (xs : List Edge) → AllByRecursion P xs → AllByRecursion (λ x. P x × (t x ≡ true)) (filter t xs)
filter_kept P t [] a = tt
filter_kept P t (x ∷ xs) a = go (t x) refl (filter_kept P t xs a.1)
  where
    go : (b : Bool) → t x ≡ b → AllByRecursion (λ y. P y × (t y ≡ true)) (filter t xs) → AllByRecursion (λ y. P y × (t y ≡ true)) (cond b (x ∷ filter t xs) (filter t xs))
    go true e r = ((a.0, e), r)
    go false e r = r

any_filter : (s t u : Edge → Bool) → ((x : Edge) → s x ≡ true → t x ≡ true → u x ≡ true) → (xs : List Edge) → list_any s (filter t xs) ≡ true → list_any u xs ≡ true
any_filter s t u f [] e = e
any_filter s t u f (x ∷ xs) e = go (t x) refl e (any_filter s t u f xs)
  where
    go : (b : Bool) → t x ≡ b → list_any s (cond b (x ∷ filter t xs) (filter t xs)) ≡ true → (list_any s (filter t xs) ≡ true → list_any u xs ≡ true) → (u x || list_any u xs) ≡ true
    go true h e ih = elim (or_cases (s x) (list_any s (filter t xs)) e) [ inl k ↦ or_left (u x) _ (f x k h) | inr k ↦ or_right (u x) _ (ih k) ]
    go false h e ih = or_right (u x) _ (ih e)

find_none : (t : ℕ → Bool) (xs : List ℕ) → find t xs ≡ None → AllByRecursion (λ x. t x ≡ false) xs
find_none t [] e = tt
find_none t (x ∷ xs) e = go (t x) refl e (find_none t xs)
  where
    go : (b : Bool) → t x ≡ b → cond b (Some x) (find t xs) ≡ None → (find t xs ≡ None → AllByRecursion (λ y. t y ≡ false) xs) → (t x ≡ false) × AllByRecursion (λ y. t y ≡ false) xs
    go true h e ih = cc
    go false h e ih = (h, ih e)

-- what a map of one list has, a map of a larger one has
mapped_more : (f : ℕ → ℕ) (xs ys : List ℕ) → ((x : ℕ) → has xs x ≡ true → has ys x ≡ true) → (y : ℕ) → has (map f xs) y ≡ true → has (map f ys) y ≡ true
mapped_more f [] ys g y h = has_none y h
mapped_more f (x ∷ xs) ys g y h =
    elim (has_cases (f x) (map f xs) y h) [
      | inl q ↦ subst (λ z. has (map f ys) z ≡ true) q (map_has f ys x (g x (has_head x xs)))
      | inr k ↦ mapped_more f xs ys (λ z m. g z (has_tail x xs z m)) y k
    ]

-- the ends of pairs that are now active
abbrev ends_of : List Pair → List ℕ
ends_of ps = ends (map (λ p. record { pair = p; active = true }) ps)

mix : (p q r s t u : Bool) → (r || (s || t)) ≡ true → (t ≡ true → (p || (q || u)) ≡ true) → (p || (q || (r || (s || u)))) ≡ true
mix true q r s t u h f = refl
mix false true r s t u h f = refl
mix false false true s t u h f = refl
mix false false false true t u h f = refl
mix false false false false t u h f = f h

late : (p q r s : Bool) → (p || (q || r)) ≡ true → (r ≡ true → s ≡ true) → (p || (q || s)) ≡ true
late true q r s h f = refl
late false true r s h f = refl
late false false r s h f = f h

swapped : (p q r : Bool) → (q || (p || r)) ≡ true → (p || (q || r)) ≡ true
swapped true q r h = refl
swapped false true r h = refl
swapped false false r h = h

put_ends : (p : Pair) (ps : List Pair) (x : ℕ) → has (ends_of (put_pair p ps)) x ≡ true → has (p.a ∷ p.b ∷ ends_of ps) x ≡ true
unfolding put_pair ends
put_ends p [] x h = h
put_ends p (q ∷ qs) x h = go (same_pair p q) (pair_before p q) h (put_ends p qs x)
  where
    go : (s t : Bool) → has (ends_of (cond s (q ∷ qs) (cond t (p ∷ q ∷ qs) (q ∷ put_pair p qs)))) x ≡ true
        → (has (ends_of (put_pair p qs)) x ≡ true → has (p.a ∷ p.b ∷ ends_of qs) x ≡ true) → has (p.a ∷ p.b ∷ q.a ∷ q.b ∷ ends_of qs) x ≡ true
    go true t h ih = has_tail p.a (p.b ∷ q.a ∷ q.b ∷ ends_of qs) x (has_tail p.b (q.a ∷ q.b ∷ ends_of qs) x h)
    go false true h ih = h
    go false false h ih = mix (eqb p.a x) (eqb p.b x) (eqb q.a x) (eqb q.b x) (has (ends_of (put_pair p qs)) x) (has (ends_of qs) x) h ih

pair_ends : (u v x : ℕ) (rest : List ℕ) → has ((pair_of u v).a ∷ (pair_of u v).b ∷ rest) x ≡ true → has (u ∷ v ∷ rest) x ≡ true
unfolding pair_of
pair_ends u v x rest h = go (ltb u v) h
  where
    go : (t : Bool) → has ((cond {A = Pair} t (record { a = u; b = v }) (record { a = v; b = u })).a ∷ (cond {A = Pair} t (record { a = u; b = v }) (record { a = v; b = u })).b ∷ rest) x ≡ true → has (u ∷ v ∷ rest) x ≡ true
    go true h = h
    go false h = swapped (eqb u x) (eqb v x) (has rest x) h

-- the ends of the pairs that a merge makes active are among those asked
named_more : (pairs : List AskedPair) (x : ℕ) → has (ends_of (named pairs)) x ≡ true → has (named_ends pairs) x ≡ true
unfolding named named_ends ends
named_more [] x h = h
named_more (p ∷ ps) x h =
    let q : Pair = pair_of p.a p.b in
    pair_ends p.a p.b x (named_ends ps) (late (eqb q.a x) (eqb q.b x) (has (ends_of (named ps)) x) (has (named_ends ps) x) (put_ends q (named ps) x h) (named_more ps x))

module _ (d : Dataset) (b : Base) (valid : IsDataset d) (base : IsBase d b) where
  marks_known : (log : List Entry) (sources sinks : List ℕ) → refuse_early d b log (Split sources sinks) ≡ None → AllByRecursion (λ v. not (has b.supervoxels v) ≡ false) (sources ++ sinks)
  unfolding refuse_early refuse_marks refuse_unknown
  marks_known log sources sinks h = find_none (λ v. not (has b.supervoxels v)) (sources ++ sinks) (refuse_first_none _ (λ v. not (has b.supervoxels v)) (sources ++ sinks) (first_none _ _ h).0)

  joined_roots : (log : List Entry) (u v : ℕ) → Legal d b log → has b.supervoxels u ≡ true → has (component d b log (top d) u) v ≡ true → root d b log u ≡ root d b log v
  joined_roots [] u v legal hu h = absurd legal
  joined_roots (e ∷ log) u v legal hu h = joined_root d b e log u v valid.layout legal hu (component_Joined d b (e ∷ log) (top d) u v h)

  -- both ends of a pair of the cut have the root of a source
  end_root : (log : List Entry) (sources sinks : List ℕ) (p : Pair) → Legal d b log → AllByRecursion (λ v. not (has b.supervoxels v) ≡ false) (sources ++ sinks)
      → list_any (λ e. same_pair e.pair p) (part d b log sources) ≡ true → (a : ℕ) × (has sources a ≡ true) × (root d b log a ≡ root d b log p.a) × (root d b log p.a ≡ root d b log p.b)
  unfolding part linked same_pair joins
  end_root log sources sinks p legal known h =
      let leaves : List (List ℕ) = map (λ a. component d b log (top d) a) sources in
      let test : Edge → Bool = λ e. e.active && list_any (λ vs. has vs e.pair.a || has vs e.pair.b) leaves in
      let all = filter_kept (λ e. IsKnown b e.pair) test (edges d b log) (legal_known d b base log legal).1 in
      let f = any_all Edge (λ e. IsKnown b e.pair × (test e ≡ true)) (λ e. same_pair e.pair p) (part d b log sources) h all in
      let e : Edge = f.0 in
      let same = and_parts (eqb e.pair.a p.a) (eqb e.pair.b p.b) f.2 in
      let ea : e.pair.a ≡ p.a = eqb-true e.pair.a p.a same.0 in
      let eb : e.pair.b ≡ p.b = eqb-true e.pair.b p.b same.1 in
      let m = any_map (List ℕ) (λ vs. has vs e.pair.a || has vs e.pair.b) (λ a. component d b log (top d) a) sources (and_parts e.active _ f.1.1).1 in
      let ka : has b.supervoxels m.0 ≡ true = not-false _ (all_has (λ v. not (has b.supervoxels v) ≡ false) (sources ++ sinks) m.0 known (append_left sources sinks m.0 m.1)) in
      let ha : has b.supervoxels p.a ≡ true = subst (λ x. has b.supervoxels x ≡ true) ea f.1.0.0 in
      let hb : has b.supervoxels p.b ≡ true = subst (λ x. has b.supervoxels x ≡ true) eb f.1.0.1 in
      let link : linked (edges d b log) p.a p.b ≡ true =
      any_filter (λ e. same_pair e.pair p) test (λ e. e.active && joins e.pair p.a p.b) (λ x s t. and_from x.active _ (and_parts x.active _ t).0 (or_left _ _ s)) (edges d b log) h in
      let walk : JoinedBy (linked (edges d b log)) b.supervoxels p.a p.b = (ha, (p.b ∷ [], ((link, hb), refl))) in
      let one : root d b log p.a ≡ root d b log p.b = (roots_joined d b valid base log p.a p.b legal ha hb).1 walk in (
        m.0,
        m.1,
        elim (or_cases (has (component d b log (top d) m.0) e.pair.a) (has (component d b log (top d) m.0) e.pair.b) m.2) [
          | inl k ↦ joined_roots log m.0 p.a legal ka (subst (λ x. has (component d b log (top d) m.0) x ≡ true) ea k)
          | inr k ↦ joined_roots log m.0 p.b legal ka (subst (λ x. has (component d b log (top d) m.0) x ≡ true) eb k) ∙ sym one
        ],
        one,
      )

  cut_touched : (log : List Entry) (sources sinks : List ℕ) → Legal d b log → AllByRecursion (λ v. not (has b.supervoxels v) ≡ false) (sources ++ sinks) → (ps : List Pair)
      → AllByRecursion (λ p. list_any (λ e. same_pair e.pair p) (part d b log sources) ≡ true) ps
      → AllByRecursion (λ r. has (map (root d b log) (sources ++ sinks)) r ≡ true) (map (root d b log) (ends (map (λ p. record { pair = p; active = false }) ps)))
  unfolding ends
  cut_touched log sources sinks legal known [] a = tt
  cut_touched log sources sinks legal known (p ∷ ps) a =
      let r = end_root log sources sinks p legal known a.0 in
      let h : has (map (root d b log) (sources ++ sinks)) (root d b log r.0) ≡ true = map_has (root d b log) (sources ++ sinks) r.0 (append_left sources sinks r.0 r.1) in (
        subst (λ x. has (map (root d b log) (sources ++ sinks)) x ≡ true) r.2 h,
        (subst (λ x. has (map (root d b log) (sources ++ sinks)) x ≡ true) (r.2 ∙ r.3) h, cut_touched log sources sinks legal known ps a.1),
      )

  pub retires : (log : List Entry) (client line at : ℕ) (edit : Edit) → Legal d b log → refuse_early d b log edit ≡ None
      → AllByRecursion (λ r. has (touched d b log edit) r ≡ true) (next_entry d b log client line at edit).retired
  unfolding next_entry entry_of change touched
  retires log client line at (Merge pairs) legal early =
      ascending_all _ _ (all_self _ _ (λ x h. mapped_more (root d b log) (ends (map (λ p. record { pair = p; active = true }) (named pairs))) (named_ends pairs) (named_more pairs) x h))
  retires log client line at (Split sources sinks) legal early =
      ascending_all _ _ (cut_touched log sources sinks legal (marks_known log sources sinks early) (least_cut (part d b log sources) sources sinks) (cuts_from_part (part d b log sources) sources sinks))
  retires log client line at (Undo n) legal early =
      ascending_all _ _ (all_self _ _ (λ x h. subst (λ xs. has (map (root d b log) xs) x ≡ true) (opposite_ends (changed_by log n)) h))
  retires log client line at (Redo n) legal early = ascending_all _ _ (all_self _ _ (λ x h. h))
