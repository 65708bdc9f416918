-- The first entry of a base: its edges, the nodes that it makes, and how many records it takes.
use Rattle.std.proofs.Common.{◌≡◌, ℕ, ◌+◌, ◌-◌, Bool, true, false, cond, ◌&&◌, ◌||◌, eqb, List, [], ◌∷◌, length, map, refl, sym, ◌∙◌, ap, eq-eqb}
use Rattle.std.specs.List.{filter, flat_map, list_any, AllByRecursion}
use Rattle.std.proofs.lemmas.Bool.{or_parts, and_parts, and_from, eqb-true, false_from_ne_true, false≢true}
use Rattle.op_model.specs.declared.base.Dataset.{Dataset}
use Rattle.op_model.specs.declared.base.Base.{Base}
use Rattle.op_model.specs.declared.base.Pair.{Pair}
use Rattle.op_model.specs.declared.base.Edge.{Edge}
use Rattle.op_model.specs.Chunks.{chunk, layers, top}
use Rattle.op_model.specs.Edges.{same_pair, pair_before, put_edge, put_edges, put_changed, edges_after, joins, linked}
use Rattle.op_model.specs.Ingest.{ingested}
use Rattle.op_model.specs.Labels.{is_empty, edges, component, least, is_new, new_among}
use Rattle.op_model.specs.Operations.{ascending, first_entry}
use Rattle.op_model.specs.Records.{records, base_records, node_count, root_count, chunk_count, nodes_in}
use Rattle.op_model.specs.Valid.{IsBase, PairsDiffer}
use Rattle.graph_model.proofs.ListLemmas.{filter_same}

or_swap : (a b c : Bool) → (a || (b || c)) ≡ (b || (a || c))
or_swap true true c = refl
or_swap true false c = refl
or_swap false true c = refl
or_swap false false c = refl

or_move : (a b c : Bool) → (a || (b || c)) ≡ ((b || a) || c)
or_move true true c = refl
or_move true false c = refl
or_move false true c = refl
or_move false false c = refl

-- a pair that isn't there yet is one edge more
any_put : (t : Edge → Bool) (e : Edge) (fs : List Edge) → list_any (λ f. same_pair f.pair e.pair) fs ≡ false → list_any t (put_edge e fs) ≡ (t e || list_any t fs)
unfolding put_edge
any_put t e [] h = refl
any_put t e (f ∷ fs) h = go (same_pair f.pair e.pair) p.0 (pair_before e.pair f.pair) (any_put t e fs p.1)
  where
    p : (same_pair f.pair e.pair ≡ false) × (list_any (λ g. same_pair g.pair e.pair) fs ≡ false)
    p = or_parts (same_pair f.pair e.pair) (list_any (λ g. same_pair g.pair e.pair) fs) h

    go : (s : Bool) → s ≡ false → (b : Bool) → list_any t (put_edge e fs) ≡ (t e || list_any t fs)
        → list_any t (cond s (record f { active = e.active } ∷ fs) (cond b (e ∷ f ∷ fs) (f ∷ put_edge e fs))) ≡ (t e || list_any t (f ∷ fs))
    go true n b ih = absurd (false≢true (sym n))
    go false n true ih = refl
    go false n false ih = ap (λ x. t f || x) ih ∙ or_swap (t f) (t e) (list_any t fs)

-- none of these edges has a pair of the others
abbrev IsApart : List Edge → List Edge → Type 0
IsApart es fs = AllByRecursion (λ e. list_any (λ f. same_pair f.pair e.pair) fs ≡ false) es

same_back : (p q : Pair) → same_pair p q ≡ false → same_pair q p ≡ false
unfolding same_pair
same_back p q h = false_from_ne_true _ (λ k.
    let s = and_parts (eqb q.a p.a) (eqb q.b p.b) k in
    false≢true (sym h ∙ and_from _ _ (eq-eqb p.a q.a (sym (eqb-true q.a p.a s.0))) (eq-eqb p.b q.b (sym (eqb-true q.b p.b s.1)))))

apart_put : (e : Edge) (es fs : List Edge) → list_any (λ f. same_pair f.pair e.pair) fs ≡ false → list_any (λ f. same_pair f.pair e.pair) es ≡ false → IsApart es fs → IsApart es (put_edge e fs)
apart_put e [] fs h k a = tt
apart_put e (g ∷ es) fs h k a =
    let p = or_parts (same_pair g.pair e.pair) (list_any (λ f. same_pair f.pair e.pair) es) k in
    let n : same_pair e.pair g.pair ≡ false = same_back g.pair e.pair p.0 in
    (any_put (λ f. same_pair f.pair g.pair) e fs h ∙ (ap (λ x. x || list_any (λ f. same_pair f.pair g.pair) fs) n ∙ a.0), apart_put e es fs h p.1 a.1)

any_puts : (t : Edge → Bool) (es fs : List Edge) → PairsDiffer es → IsApart es fs → list_any t (put_edges es fs) ≡ (list_any t es || list_any t fs)
unfolding put_edges
any_puts t [] fs once a = refl
any_puts t (e ∷ es) fs once a =
    any_puts t es (put_edge e fs) once.1 (apart_put e es fs a.0 once.0 a.1)
    ∙ (ap (λ x. list_any t es || x) (any_put t e fs a.0) ∙ or_move (list_any t es) (t e) (list_any t fs))

apart_none : (es : List Edge) → IsApart es []
apart_none [] = tt
apart_none (e ∷ es) = (refl, apart_none es)

or_none : (a : Bool) → (a || false) ≡ a
or_none true = refl
or_none false = refl

module _ (d : Dataset) (b : Base) (base : IsBase d b) (at : ℕ) where
  -- the pairs that are active at the first entry are those of the base
  pub linked_base : linked (edges d b (ingested d b at)) ≡ linked b.edges
  unfolding linked edges edges_after put_changed first_entry
  linked_base = λ i u v. (let t : Edge → Bool = λ e. e.active && joins e.pair u v in
      any_puts t b.edges [] base.once (apart_none b.edges) ∙ or_none (list_any t b.edges)) i

and_true : (a : Bool) → (a && true) ≡ a
and_true true = refl
and_true false = refl

module _ (d : Dataset) (b : Base) (at : ℕ) where
  -- the first entry makes every node
  pub new_firsts : (l : ℕ) (vs : List ℕ) → new_among d b (ingested d b at) l vs ≡ filter (λ v. eqb (least d b (ingested d b 0) l v) v) vs
  unfolding new_among is_new is_empty least component edges edges_after put_changed first_entry
  new_firsts l vs = filter_same _ _ vs (λ x h. and_true (eqb (least d b (ingested d b 0) l x) x))

  -- the records of the first entry, whatever its time
  pub records_ingested : 1 + length b.supervoxels + length (ascending (flat_map (λ layer. map (chunk d layer) b.supervoxels) (layers d))) + length b.edges + node_count d b (ingested d b 0)
      + (length b.supervoxels + node_count d b (ingested d b 0) - nodes_in d b (ingested d b 0) (top d)) + 1 ≡ records d b (ingested d b at)
  unfolding records base_records node_count root_count chunk_count nodes_in least component edges edges_after put_changed first_entry
  records_ingested = refl

pub sum_told : (s h e n r t i f m q : ℕ) → s ≡ t → h ≡ i → e ≡ f → n ≡ m → r ≡ q → 1 + s + h + e + n + (s + n - r) + 1 ≡ 1 + t + i + f + m + (t + m - q) + 1
sum_told s h e n r t i f m q a b c d g = cc
