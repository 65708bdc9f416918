-- The pairs that an entry changes ascend.
use Rattle.std.proofs.Common.{◌≡◌, ℕ, zero, suc, ◌<◌, Bool, true, false, cond, eqb, eq-eqb, List, [], ◌∷◌, length, map, get_or, Some, refl, sym, ◌∙◌, ap, subst, arith}
use Rattle.std.specs.List.{AllByRecursion, find}
use Rattle.std.specs.Option.{option_map_or}
use Rattle.std.proofs.lemmas.Bool.{false≢true, eqb-true, and_parts, and_from, cond_both}
use Rattle.op_model.specs.declared.base.Dataset.{Dataset}
use Rattle.op_model.specs.declared.base.Base.{Base}
use Rattle.op_model.specs.declared.base.Pair.{Pair}
use Rattle.op_model.specs.declared.base.Edge.{Edge}
use Rattle.op_model.specs.declared.request.AskedPair.{AskedPair}
use Rattle.op_model.specs.declared.request.Edit.{Edit}
use Rattle.op_model.specs.declared.request.Edit.TheVariants.{Merge, Split, Undo, Redo}
use Rattle.op_model.specs.declared.entry.Changed.{Changed}
use Rattle.op_model.specs.declared.entry.Entry.{Entry}
use Rattle.graph_model.specs.Wires.{Wire}
use Rattle.graph_model.specs.Cuts.{chosen, crosses, in_core, least_cut as least_links}
use Rattle.op_model.specs.Edges.{named, pair_before, pair_of, put_pair, same_pair}
use Rattle.op_model.specs.Labels.{edges}
use Rattle.op_model.specs.Cuts.{PairsAscend, least_cut, link_of, links_of, no_pair, pair_at, part}
use Rattle.op_model.specs.Operations.{change, changed_by, entry_at, entry_of, first_entry, next_entry, opposite}
use Rattle.op_model.specs.Legal.{Legal}
use Rattle.op_model.proofs.OrderLemmas.{Sorted, after_sorted, before_other, before_trans, filter_sorted}
use Rattle.record_rows.proofs.DifferLemmas.{Differ, all_append, all_map, all_more, differ_append, differ_map}

abbrev pub Before : Pair → Pair → Type 0
Before p q = pair_before p q ≡ true

-- each changed pair is before those behind it
abbrev pub Ascends : List Changed → Type 0
Ascends cs = Differ (λ (c x : Changed). Before c.pair x.pair) cs

same_back : (p q : Pair) → same_pair q p ≡ true → same_pair p q ≡ true
unfolding same_pair
same_back p q h = let s = and_parts (eqb q.a p.a) (eqb q.b p.b) h in and_from _ _ (eq-eqb p.a q.a (sym (eqb-true q.a p.a s.0))) (eq-eqb p.b q.b (sym (eqb-true q.b p.b s.1)))

other_back : (p q : Pair) → same_pair p q ≡ false → same_pair q p ≡ false
other_back p q h = go (same_pair q p) refl
  where
    go : (t : Bool) → same_pair q p ≡ t → t ≡ false
    go true e = absurd (false≢true (sym h ∙ same_back p q e))
    go false e = refl

put_after : (r p : Pair) (qs : List Pair) → Before r p → AllByRecursion (Before r) qs → AllByRecursion (Before r) (put_pair p qs)
unfolding put_pair
put_after r p [] h a = (h, tt)
put_after r p (q ∷ qs) h a = go (same_pair p q) (pair_before p q) (put_after r p qs h a.1)
  where
    go : (s t : Bool) → AllByRecursion (Before r) (put_pair p qs) → AllByRecursion (Before r) (cond s (q ∷ qs) (cond t (p ∷ q ∷ qs) (q ∷ put_pair p qs)))
    go true t ih = a
    go false true ih = (h, a)
    go false false ih = (a.0, ih)

put_ascends : (p : Pair) (qs : List Pair) → Differ Before qs → Differ Before (put_pair p qs)
unfolding put_pair
put_ascends p [] a = (tt, tt)
put_ascends p (q ∷ qs) a = go (same_pair p q) refl (pair_before p q) refl (put_ascends p qs a.1)
  where
    go : (s : Bool) → same_pair p q ≡ s → (t : Bool) → pair_before p q ≡ t → Differ Before (put_pair p qs) → Differ Before (cond s (q ∷ qs) (cond t (p ∷ q ∷ qs) (q ∷ put_pair p qs)))
    go true s t h ih = a
    go false s true h ih = ((h, all_more (Before q) (Before p) qs (λ r k. before_trans p q r h k) a.0), a)
    go false s false h ih = (put_after q p qs (before_other q p (other_back p q s) h) a.0, ih)

named_ascend : (ps : List AskedPair) → Differ Before (named ps)
unfolding named
named_ascend [] = tt
named_ascend (p ∷ ps) = put_ascends (pair_of p.a p.b) (named ps) (named_ascend ps)

chosen_low : (x : ℕ → Bool) (m : ℕ) → AllByRecursion (λ k. k < m) (chosen x m)
chosen_low x zero = tt
chosen_low x (suc m) =
    all_append (λ k. k < suc m) (chosen x m) (cond (x m) (m ∷ []) []) (all_more (λ k. k < m) (λ k. k < suc m) (chosen x m) (λ k l. omega arith) (chosen_low x m))
    (cond_both (x m) (m ∷ []) [] (AllByRecursion (λ k. k < suc m)) (λ e. (omega arith, tt)) (λ e. tt))

chosen_ascends : (x : ℕ → Bool) (m : ℕ) → Differ (λ i j. i < j) (chosen x m)
chosen_ascends x zero = tt
chosen_ascends x (suc m) =
    differ_append (λ i j. i < j) (chosen x m) (cond (x m) (m ∷ []) []) (chosen_ascends x m) (cond_both (x m) (m ∷ []) [] (Differ (λ i j. i < j)) (λ e. (tt, tt)) (λ e. tt))
    (all_more (λ k. k < m) (λ k. AllByRecursion (λ j. k < j) (cond (x m) (m ∷ []) [])) (chosen x m) (λ k l. cond_both (x m) (m ∷ []) [] (AllByRecursion (λ j. k < j)) (λ e. (l, tt)) (λ e. tt)) (chosen_low x m))

all_get : (p : Pair) (qs : List Pair) → AllByRecursion (Before p) qs → (k : ℕ) → k < length qs → Before p (get_or qs k no_pair)
all_get p [] a k l = absurd (omega arith)
all_get p (q ∷ qs) a zero l = a.0
all_get p (q ∷ qs) a (suc k) l = all_get p qs a.1 k (omega arith)

before_get : (ps : List Pair) → Differ Before ps → (j k : ℕ) → j < k → k < length ps → Before (get_or ps j no_pair) (get_or ps k no_pair)
before_get [] a j k l m = absurd (omega arith)
before_get (p ∷ ps) a j zero l m = absurd (omega arith)
before_get (p ∷ ps) a zero (suc k) l m = all_get p ps a.0 k (omega arith)
before_get (p ∷ ps) a (suc j) (suc k) l m = before_get ps a.1 j k (omega arith) (omega arith)

picked : (ps : List Pair) → Differ Before ps → (ks : List ℕ) → AllByRecursion (λ k. k < length ps) ks → Differ (λ i j. i < j) ks → Differ Before (map (λ k. get_or ps k no_pair) ks)
picked ps a [] low up = tt
picked ps a (k ∷ ks) low up = (
  all_map (λ j. get_or ps j no_pair) (Before (get_or ps k no_pair)) ks
      (all_more (λ j. (j < length ps) × (k < j)) (λ j. Before (get_or ps k no_pair) (get_or ps j no_pair)) ks (λ j p. before_get ps a k j p.1 p.0) (all_two ks low.1 up.0)),
  picked ps a ks low.1 up.1,
)
  where
    all_two : (js : List ℕ) → AllByRecursion (λ j. j < length ps) js → AllByRecursion (λ j. k < j) js → AllByRecursion (λ j. (j < length ps) × (k < j)) js
    all_two [] x y = tt
    all_two (j ∷ js) x y = ((x.0, y.0), all_two js x.1 y.1)

pub edges_ascend : (fs : List Edge) → Sorted fs → Differ Before (map (λ f. f.pair) fs)
edges_ascend [] a = tt
edges_ascend (f ∷ fs) a = (all_map (λ (g : Edge). g.pair) (Before f.pair) fs a.0, edges_ascend fs a.1)

length_two : (fs : List Edge) → length (map link_of fs) ≡ length (map (λ (f : Edge). f.pair) fs)
length_two [] = refl
length_two (f ∷ fs) = ap suc (length_two fs)

cut_ascends : (fs : List Edge) (sources sinks : List ℕ) → Sorted fs → Differ Before (least_cut fs sources sinks)
unfolding least_cut least_links links_of pair_at
cut_ascends fs sources sinks a =
    let ws : List Wire = map link_of fs in
    let ps : List Pair = map (λ (f : Edge). f.pair) fs in
    let x : ℕ → Bool = crosses ws (in_core ws sources sinks) in
    picked ps (edges_ascend fs a) (chosen x (length ws)) (all_more (λ k. k < length ws) (λ k. k < length ps) (chosen x (length ws)) (λ k l. let e = length_two fs in omega (arith, l, e)) (chosen_low x (length ws))) (chosen_ascends x (length ws))

opposites : (cs : List Changed) → Ascends cs → Ascends (map opposite cs)
unfolding opposite
opposites cs a = differ_map opposite (λ (c x : Changed). Before c.pair x.pair) cs a

given : (on : Bool) (ps : List Pair) → Differ Before ps → Ascends (map (λ p. record { pair = p; active = on }) ps)
given on ps a = differ_map (λ p. record { pair = p; active = on }) (λ (c x : Changed). Before c.pair x.pair) ps a

found : (log : List Entry) (n : ℕ) → AllByRecursion (λ e. Ascends e.changed) log → Ascends (changed_by log n)
unfolding changed_by entry_at
found log n a = go log a
  where
    go : (es : List Entry) → AllByRecursion (λ e. Ascends e.changed) es → Ascends (option_map_or (λ e. e.changed) (find (λ e. eqb e.number n) es) [])
    go [] h = tt
    go (e ∷ es) h = cond_both (eqb e.number n) (Some e) (find (λ x. eqb x.number n) es) (λ o. Ascends (option_map_or (λ x. x.changed) o [])) (λ q. h.0) (λ q. go es h.1)

pairs_of : (cs : List Changed) → Ascends cs → PairsAscend (map (λ c. c.pair) cs)
pairs_of [] a = tt
pairs_of (c ∷ []) a = tt
pairs_of (c ∷ x ∷ cs) a = (a.0.0, pairs_of (x ∷ cs) a.1)

module _ (d : Dataset) (b : Base) where
  change_ascends : (log : List Entry) (edit : Edit) → AllByRecursion (λ e. Ascends e.changed) log → Ascends (change d b log edit)
  unfolding change part edges
  change_ascends log (Merge pairs) a = given true (named pairs) (named_ascend pairs)
  change_ascends log (Split s t) a = given false (least_cut (part d b log s) s t) (cut_ascends (part d b log s) s t (filter_sorted _ (edges d b log) (after_sorted b.edges d.merge_affinity log)))
  change_ascends log (Undo n) a = opposites (changed_by log n) (found log n a)
  change_ascends log (Redo n) a = found log n a

  pub all_ascend : (log : List Entry) → Legal d b log → AllByRecursion (λ e. Ascends e.changed) log
  unfolding first_entry next_entry entry_of
  all_ascend [] legal = absurd legal
  all_ascend (e ∷ []) legal = let q : e.changed ≡ [] = ap (λ x. x.changed) legal.0 in (subst Ascends (sym q) tt, tt)
  all_ascend (e ∷ f ∷ log) legal =
      let ih = all_ascend (f ∷ log) legal.1 in
      let q : e.changed ≡ change d b (f ∷ log) legal.0.0 = ap (λ x. x.changed) legal.0.2 in
      (subst Ascends (sym q) (change_ascends (f ∷ log) legal.0.0 ih), ih)

  -- the pairs that an edit changes at a legal log ascend
  pub changed_ascend : (log : List Entry) (edit : Edit) → Legal d b log → PairsAscend (map (λ c. c.pair) (change d b log edit))
  changed_ascend log edit legal = pairs_of (change d b log edit) (change_ascends log edit (all_ascend log legal))
