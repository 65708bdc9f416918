-- The pairs of a layer's edges are those that the layer joins.
use Rattle.std.proofs.Common.{◌≡◌, ℕ, ◌-◌, ◌<◌, ◌≤◌, ◌^◌, Bool, true, false, cond, ◌&&◌, ◌||◌, eqb, List, [], ◌∷◌, length, map, get_or, refl, sym, ◌∙◌, ap, subst, inl, inr, eq-eqb, IsTrue, Result, Ok, Err, IfOk}
use Rattle.std.specs.List.{AllByRecursion, All, filter, list_any}
use Rattle.std.proofs.lemmas.List.Elements.{All-from_recursion, recursion_from_All}
use Rattle.std.proofs.lemmas.List.Sorted.{All-permutation, list_any-IsPermutation}
use Rattle.std.proofs.lemmas.Bool.{eqb-true, and_parts, and_from, or_left, or_right, or_cases}
use Rattle.op_model.specs.declared.base.Dataset.{Dataset}
use Rattle.op_model.specs.declared.base.Base.{Base}
use Rattle.op_model.specs.declared.base.Edge.{Edge}
use Rattle.op_model.specs.Edges.{joins, linked}
use Rattle.op_model.specs.Labels.{edges}
use Rattle.op_model.specs.Valid.{IsBase, IsDataset, IsEdge}
use Rattle.components.specs.Joining.{meet, AreLeastMembers}
use Rattle.layer_laws.specs.Levels.{level, meets}
use Rattle.layer_laws.specs.Building.{AreLeastLeaves, ArePairs}
use Rattle.layer_laws.proofs.RiseLemmas.{level_sym}
use Rattle.layer_laws.proofs.BuildLemmas.{next_leaves}
use Rattle.record_rows.proofs.DifferLemmas.{all_map, all_more, all_filter, all_both}
use Rattle.op_model.specs.Ingest.{ingested}
use Rattle.layer_laws.proofs.IngestLemmas.{linked_base}
use Rattle.octree_layers.specs.declared.levels.PlacedEdge.{PlacedEdge}
use Rattle.octree_layers.specs.Places.{place_of, placed}
use Rattle.octree_layers.specs.Pairs.{joins_at, pair_at, pairs_at, AreEdges}
use Rattle.octree_layers.proofs.Placing.{place_at, place_is}

module _ {X : Type 0} where
  pub filter_both : (s t : X → Bool) (xs : List X) → filter s (filter t xs) ≡ filter (λ x. t x && s x) xs
  filter_both s t [] = refl
  filter_both s t (x ∷ xs) = go (t x) (s x) (filter_both s t xs)
    where
      go : (k m : Bool) → filter s (filter t xs) ≡ filter (λ y. t y && s y) xs
          → filter s (cond k (x ∷ filter t xs) (filter t xs)) ≡ cond (k && s x) (x ∷ filter (λ y. t y && s y) xs) (filter (λ y. t y && s y) xs)
      go true m ih = ap (λ ys. cond (s x) (x ∷ ys) ys) ih
      go false m ih = ih

  any_kept : (sel m : X → Bool) (xs : List X) → list_any (λ x. sel x && m x) xs ≡ true → list_any m (filter sel xs) ≡ true
  any_kept sel m [] h = h
  any_kept sel m (x ∷ xs) h = go (sel x) h (any_kept sel m xs)
    where
      go : (k : Bool) → (k && m x || list_any (λ y. sel y && m y) xs) ≡ true → (list_any (λ y. sel y && m y) xs ≡ true → list_any m (filter sel xs) ≡ true)
          → list_any m (cond k (x ∷ filter sel xs) (filter sel xs)) ≡ true
      go true e ih = elim (or_cases (m x) _ e) [ inl a ↦ or_left _ _ a | inr b ↦ or_right _ _ (ih b) ]
      go false e ih = ih e

  pub kept_all : (P : X → Type 0) (t : X → Bool) (xs : List X) → All P xs → All P (filter t xs)
  kept_all P t xs a =
      All-from_recursion P (filter t xs) (all_more (λ x. P x × (t x ≡ true)) P (filter t xs) (λ x p. p.0) (all_filter t P xs (recursion_from_All P xs a)))

any_map : {X Y : Type 0} (s : X → Bool) (t : Y → Bool) (f : X → Y) (xs : List X) → ((x : X) → s x ≡ true → t (f x) ≡ true) → list_any s xs ≡ true → list_any t (map f xs) ≡ true
any_map s t f [] h e = e
any_map s t f (x ∷ xs) h e = elim (or_cases (s x) _ e) [ inl a ↦ or_left _ _ (h x a) | inr b ↦ or_right _ _ (any_map s t f xs h b) ]

-- each edge of a list passes a test for edges of it
own_any : {X : Type 0} (xs : List X) → AllByRecursion (λ x. (t : X → Bool) → t x ≡ true → list_any t xs ≡ true) xs
own_any [] = tt
own_any {X} (x ∷ xs) =
    ((λ t e. or_left _ _ e), all_more (λ y. (t : X → Bool) → t y ≡ true → list_any t xs ≡ true) (λ y. (t : X → Bool) → t y ≡ true → list_any t (x ∷ xs) ≡ true) xs (λ y f t e. or_right _ _ (f t e)) (own_any xs))

module _ (d : Dataset) (b : Base) (valid : IsDataset d) (base : IsBase d b) (now layer : ℕ) (firsts : List ℕ) where
  -- an edge by places that stands for one of the base
  record Known (e : PlacedEdge) : Type 0 where
    lesser : e.lesser < length b.supervoxels
    greater : e.greater < length b.supervoxels
    linked : e.active ≡ true → linked b.edges (get_or b.supervoxels e.lesser 0) (get_or b.supervoxels e.greater 0) ≡ true
    level : level d (get_or b.supervoxels e.lesser 0) (get_or b.supervoxels e.greater 0) ≡ e.level

  known : (e : Edge) → IsEdge b.supervoxels e → ((t : Edge → Bool) → t e ≡ true → list_any t b.edges ≡ true) → Known (placed d b e)
  unfolding linked joins
  known e is own =
      let p = place_at b.supervoxels e.pair.a is.1 in
      let q = place_at b.supervoxels e.pair.b is.2 in
      record {
        lesser = p.0;
        greater = q.0;
        linked = λ a. own (λ (f : Edge). f.active && joins f.pair (get_or b.supervoxels (place_of b.supervoxels e.pair.a) 0) (get_or b.supervoxels (place_of b.supervoxels e.pair.b) 0))
            (and_from _ _ a (or_left _ _ (and_from _ _ (eq-eqb _ _ (sym p.1)) (eq-eqb _ _ (sym q.1)))));
        level = ap (λ u. level d u (get_or b.supervoxels (place_of b.supervoxels e.pair.b) 0)) p.1 ∙ ap (level d e.pair.a) q.1;
      }

  all_known : (es : List PlacedEdge) → AreEdges d b es → All Known es
  all_known es same =
      All-permutation Known (map (placed d b) b.edges) es same (All-from_recursion Known (map (placed d b) b.edges) (all_map (placed d b) Known b.edges
      (all_more (λ e. IsEdge b.supervoxels e × ((t : Edge → Bool) → t e ≡ true → list_any t b.edges ≡ true)) (λ e. Known (placed d b e)) b.edges (λ e p. known e p.0 p.1)
      (all_both (IsEdge b.supervoxels) (λ e. (t : Edge → Bool) → t e ≡ true → list_any t b.edges ≡ true) b.edges base.edges (own_any b.edges)))))

  abbrev Given : ℕ × ℕ → Type 0
  Given p =
      (i j : ℕ) × (i < length b.supervoxels) × (j < length b.supervoxels) × IsTrue (meets d b (ingested d b now) layer (get_or b.supervoxels i 0) (get_or b.supervoxels j 0))
      × (p.0 ≡ get_or firsts i 0) × (p.1 ≡ get_or firsts j 0)

  linked_now : (u v : ℕ) → linked (edges d b (ingested d b now)) u v ≡ linked b.edges u v
  linked_now u v = ap (λ (f : ℕ → ℕ → Bool). f u v) (linked_base d b base now)

  given_one : (e : PlacedEdge) → Known e → joins_at layer e ≡ true → Given (pair_at firsts e)
  unfolding meets
  given_one e k s =
      let p = and_parts (eqb e.level layer) e.active s in (
        e.lesser,
        e.greater,
        k.lesser,
        k.greater,
        and_from _ _ (linked_now (get_or b.supervoxels e.lesser 0) (get_or b.supervoxels e.greater 0) ∙ k.linked p.1) (eq-eqb _ _ (k.level ∙ eqb-true e.level layer p.0)),
        refl,
        refl,
      )

  given : (es : List PlacedEdge) → AreEdges d b es → AllByRecursion Given (pairs_at firsts layer es)
  unfolding pairs_at
  given es same =
      all_map (pair_at firsts) Given (filter (joins_at layer) es)
      (all_more (λ e. Known e × (joins_at layer e ≡ true)) (λ e. Given (pair_at firsts e)) (filter (joins_at layer) es) (λ e p. given_one e p.0 p.1)
      (all_filter (joins_at layer) Known es (recursion_from_All Known es (all_known es same))))

  module _ (i j : ℕ) (li : i < length b.supervoxels) (lj : j < length b.supervoxels) where
    one_pair : ℕ × ℕ → Bool
    one_pair p = (eqb p.0 (get_or firsts i 0) && eqb p.1 (get_or firsts j 0)) || (eqb p.0 (get_or firsts j 0) && eqb p.1 (get_or firsts i 0))

    first_at : (k : ℕ) → k < length b.supervoxels → (v : ℕ) → v ≡ get_or b.supervoxels k 0 → get_or firsts (place_of b.supervoxels v) 0 ≡ get_or firsts k 0
    first_at k l v e = ap (λ m. get_or firsts m 0) (ap (place_of b.supervoxels) e ∙ place_is b.supervoxels k base.ascending l)

    all_one : (u v : ℕ) → u ≡ get_or b.supervoxels i 0 → v ≡ get_or b.supervoxels j 0 → level d u v ≡ layer → (e : Edge) → (e.active && joins e.pair u v) ≡ true
        → (joins_at layer (placed d b e) && one_pair (pair_at firsts (placed d b e))) ≡ true
    unfolding joins one_pair
    all_one u v eu ev lv e h =
        let p = and_parts e.active (joins e.pair u v) h in
        elim (or_cases (eqb e.pair.a u && eqb e.pair.b v) _ p.1) [
          | inl s ↦ let q = and_parts (eqb e.pair.a u) (eqb e.pair.b v) s in
              let a : e.pair.a ≡ u = eqb-true _ _ q.0 in
              let c : e.pair.b ≡ v = eqb-true _ _ q.1 in
              and_from _ _ (and_from _ _ (eq-eqb _ _ (ap (λ x. level d x e.pair.b) a ∙ (ap (level d u) c ∙ lv))) p.0)
              (or_left _ _ (and_from _ _ (eq-eqb _ _ (first_at i li e.pair.a (a ∙ eu))) (eq-eqb _ _ (first_at j lj e.pair.b (c ∙ ev)))))
          | inr s ↦ let q = and_parts (eqb e.pair.a v) (eqb e.pair.b u) s in
              let a : e.pair.a ≡ v = eqb-true _ _ q.0 in
              let c : e.pair.b ≡ u = eqb-true _ _ q.1 in
              and_from _ _ (and_from _ _ (eq-eqb _ _ (ap (λ x. level d x e.pair.b) a ∙ (ap (level d v) c ∙ (level_sym d valid.layout v u ∙ lv)))) p.0)
              (or_right _ _ (and_from _ _ (eq-eqb _ _ (first_at j lj e.pair.a (a ∙ ev))) (eq-eqb _ _ (first_at i li e.pair.b (c ∙ eu)))))
        ]

    all_met : (es : List PlacedEdge) → AreEdges d b es → IsTrue (meets d b (ingested d b now) layer (get_or b.supervoxels i 0) (get_or b.supervoxels j 0))
        → meet (pairs_at firsts layer es) (get_or firsts i 0) (get_or firsts j 0) ≡ true
    unfolding meets meet pairs_at linked one_pair
    all_met es same m =
        let u : ℕ = get_or b.supervoxels i 0 in
        let v : ℕ = get_or b.supervoxels j 0 in
        let p = and_parts (linked (edges d b (ingested d b now)) u v) (eqb (level d u v) layer) m in
        let l : list_any (λ e. e.active && joins e.pair u v) b.edges ≡ true = sym (linked_now u v) ∙ p.0 in
        let there = any_map (λ e. e.active && joins e.pair u v) (λ e. joins_at layer e && one_pair (pair_at firsts e)) (placed d b) b.edges (all_one u v refl refl (eqb-true _ _ p.1)) l in
        let moved = sym (list_any-IsPermutation (λ e. joins_at layer e && one_pair (pair_at firsts e)) (map (placed d b) b.edges) es same) ∙ there in
        any_map (λ e. one_pair (pair_at firsts e)) one_pair (pair_at firsts) (filter (joins_at layer) es) (λ e h. h)
        (any_kept (joins_at layer) (λ e. one_pair (pair_at firsts e)) es moved)

  are_pairs : (es : List PlacedEdge) → AreEdges d b es → ArePairs d b (ingested d b now) layer firsts (pairs_at firsts layer es)
  are_pairs es same = record { given = given es same; all = λ i j li lj m. all_met i j li lj es same m }

  -- what a layer's pairs join takes the least leaves of the layer below to its own
  pub risen : (es : List PlacedEdge) (pairs : List (ℕ × ℕ)) (least next : List ℕ) → 2 ≤ layer → layer < 2 ^ 8 → AreEdges d b es → AreLeastLeaves d b (ingested d b now) (layer - 1) firsts
      → pairs ≡ pairs_at firsts layer es → AreLeastMembers (length firsts) pairs least → next ≡ map (λ f. get_or least f 0) firsts
      → AreLeastLeaves d b (ingested d b now) layer next
  risen es pairs least next two low same are e labels n =
      subst (λ ns. AreLeastLeaves d b (ingested d b now) layer ns) (sym n)
      (next_leaves d b valid.layout base.ascending (ingested d b now) layer two low firsts are (pairs_at firsts layer es) (are_pairs es same) least
      (subst (λ ps. AreLeastMembers (length b.supervoxels) ps least) e (subst (λ k. AreLeastMembers k pairs least) are.count labels)))

pub pairs_below : (n layer : ℕ) (firsts : List ℕ) (es : List PlacedEdge) → All (λ e. (e.lesser < length firsts) × (e.greater < length firsts)) es → All (λ f. f < n) firsts
    → All (λ p. (p.0 < n) × (p.1 < n)) (pairs_at firsts layer es)
unfolding pairs_at
pairs_below n layer firsts es within low =
    let Low : PlacedEdge → Type 0 = λ e. (e.lesser < length firsts) × (e.greater < length firsts) in
    All-from_recursion (λ p. (p.0 < n) × (p.1 < n)) (pairs_at firsts layer es)
    (all_map (pair_at firsts) (λ p. (p.0 < n) × (p.1 < n)) (filter (joins_at layer) es)
    (all_more (λ e. Low e × (joins_at layer e ≡ true)) (λ e. (get_or firsts e.lesser 0 < n) × (get_or firsts e.greater 0 < n)) (filter (joins_at layer) es)
    (λ e p. (low e.lesser 0 p.0.0, low e.greater 0 p.0.1))
    (all_filter (joins_at layer) Low es (recursion_from_All Low es within))))

-- the active ones of a level are those that join in it
pub pairs_are : (firsts : List ℕ) (layer : ℕ) (es part : List PlacedEdge) (pairs : List (ℕ × ℕ)) → part ≡ filter (λ e. eqb e.level layer) es → pairs ≡ map (pair_at firsts) (filter (λ e. e.active) part)
    → pairs ≡ pairs_at firsts layer es
unfolding pairs_at
pairs_are firsts layer es part pairs e p =
    p ∙ (ap (λ ns. map (pair_at firsts) (filter (λ e. e.active) ns)) e ∙ ap (map (pair_at firsts)) (filter_both (λ e. e.active) (λ e. eqb e.level layer) es))

pub for_ok : {A E : Type 0} (P Q : A → Type 0) (r : Result A E) → ((x : A) → P x → Q x) → IfOk r P → IfOk r Q
for_ok P Q (Ok x) f p = f x p
for_ok P Q (Err e) f p = p
