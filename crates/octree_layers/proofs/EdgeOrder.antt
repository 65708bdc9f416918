-- Edges that were sorted by their pairs, each pair once, are those that were put in their places one by one.
use Rattle.std.proofs.Common.{◌≡◌, ℕ, zero, suc, ◌+◌, Bool, true, false, cond, ◌||◌, ◌&&◌, eqb, ltb, List, [], ◌∷◌, map, get_or, refl, sym, ◌∙◌, ap₂, subst, inl, inr, ◌⊎◌, arith}
use Rattle.std.proofs.Common.{is_lt, nat_cmp}
use Rattle.std.specs.Ordering.{ordering_then}
use Rattle.std.specs.Prelude.{IsPermutation, IsSortedBy}
use Rattle.std.specs.List.{AllByRecursion, IsDistinct, list_any}
use Rattle.std.proofs.lemmas.Bool.{false≢true}
use Rattle.std.proofs.lemmas.List.Elements.{All-from_recursion, recursion_from_All}
use Rattle.std.proofs.lemmas.List.Sorted.{All-permutation, IsPermutation-sym, IsPermutation-map}
use Rattle.std.proofs.lemmas.Map.Keys.{IsDistinct-IsPermutation}
use Rattle.op_model.specs.declared.base.Edge.{Edge}
use Rattle.op_model.specs.Edges.{same_pair, pair_before, put_edge, put_edges}
use Rattle.op_model.specs.Valid.{PairsDiffer}
use Rattle.op_model.proofs.OrderLemmas.{Sorted, puts_sorted, before_trans, before_other}
use Rattle.record_rows.proofs.DifferLemmas.{Differ, all_more}
use Rattle.base_rows.specs.declared.lists.BaseEdge.{BaseEdge}

module _ {X : Type 0} where
  abbrev In : X → List X → Type 0
  In z [] = ⊥
  In z (x ∷ xs) = (z ≡ x) ⊎ In z xs

  -- each item of the first is one of the second
  abbrev Within : List X → List X → Type 0
  Within xs ys = AllByRecursion (λ z. In z ys) xs

  all_in : (P : X → Type 0) (xs : List X) (z : X) → AllByRecursion P xs → In z xs → P z
  all_in P [] z a i = absurd i
  all_in P (x ∷ xs) z a (inl e) = subst P (sym e) a.0
  all_in P (x ∷ xs) z a (inr i) = all_in P xs z a.1 i

  within_self : (xs : List X) → Within xs xs
  within_self [] = tt
  within_self (x ∷ xs) = (inl refl, all_more (λ z. In z xs) (λ z. In z (x ∷ xs)) xs (λ z i. inr i) (within_self xs))

  within_permuted : (xs ys : List X) → IsPermutation xs ys → Within ys xs
  within_permuted xs ys p = recursion_from_All (λ z. In z xs) ys (All-permutation (λ z. In z xs) xs ys p (All-from_recursion (λ z. In z xs) xs (within_self xs)))

  module _ (R : X → X → Type 0) (asym : (x y : X) → R x y → R y x → ⊥) where
    without_first : (y : X) (xs ys : List X) → AllByRecursion (R y) xs → Within xs (y ∷ ys) → Within xs ys
    without_first y [] ys a s = tt
    without_first y (x ∷ xs) ys a s = (go s.0, without_first y xs ys a.1 s.1)
      where
        go : (x ≡ y) ⊎ In x ys → In x ys
        go (inl e) = let h : R y y = subst (R y) e a.0 in absurd (asym y y h h)
        go (inr i) = i

    same_first : (x y : X) (xs ys : List X) → AllByRecursion (R x) xs → AllByRecursion (R y) ys → In x (y ∷ ys) → In y (x ∷ xs) → x ≡ y
    same_first x y xs ys a c (inl e) j = e
    same_first x y xs ys a c (inr i) (inl e) = sym e
    same_first x y xs ys a c (inr i) (inr j) = absurd (asym x y (all_in (R x) xs y a j) (all_in (R y) ys x c i))

    -- two lists in one order with the same items are one
    same_lists : (xs ys : List X) → Differ R xs → Differ R ys → Within xs ys → Within ys xs → xs ≡ ys
    same_lists [] [] a c s t = refl
    same_lists [] (y ∷ ys) a c s t = absurd t.0
    same_lists (x ∷ xs) [] a c s t = absurd s.0
    same_lists (x ∷ xs) (y ∷ ys) a c s t =
        let e = same_first x y xs ys a.0 c.0 s.0 t.0 in
        ap₂ (λ z zs. z ∷ zs) e
        (same_lists xs ys a.1 c.1
        (without_first y xs ys (subst (λ z. AllByRecursion (R z) xs) e a.0) s.1)
        (without_first x ys xs (subst (λ z. AllByRecursion (R z) ys) (sym e) c.0) t.1))

abbrev Before : Edge → Edge → Type 0
Before e f = pair_before e.pair f.pair ≡ true

-- whether two edges have one pair
abbrev pub one_pair : Edge → Edge → Bool
one_pair e f = same_pair f.pair e.pair

before_asym : (e f : Edge) → Before e f → Before f e → ⊥
unfolding pair_before
before_asym e f h g = grind (arith, h, g)

one_pair_flips : (e f : Edge) → one_pair e f ≡ one_pair f e
unfolding same_pair
one_pair_flips e f = grind arith

sorted_differ : (fs : List Edge) → Sorted fs → Differ Before fs
sorted_differ [] a = tt
sorted_differ (f ∷ fs) a = (a.0, sorted_differ fs a.1)

none_same : (e : Edge) (es : List Edge) → list_any (λ f. same_pair f.pair e.pair) es ≡ false → AllByRecursion (λ f. one_pair e f ≡ false) es
none_same e [] h = tt
none_same e (f ∷ es) h = go (same_pair f.pair e.pair) refl h (none_same e es)
  where
    go : (k : Bool) → same_pair f.pair e.pair ≡ k → (k || list_any (λ g. same_pair g.pair e.pair) es) ≡ false → (list_any (λ g. same_pair g.pair e.pair) es ≡ false → AllByRecursion (λ g. one_pair e g ≡ false) es)
        → (one_pair e f ≡ false) × AllByRecursion (λ g. one_pair e g ≡ false) es
    go true s g ih = absurd (false≢true (sym g))
    go false s g ih = (s, ih g)

pairs_distinct : (es : List Edge) → PairsDiffer es → IsDistinct one_pair es
unfolding IsDistinct
pairs_distinct [] d = tt
pairs_distinct (e ∷ es) d = (none_same e es d.0, pairs_distinct es d.1)

-- an edge of a new pair in its place
put_within : (e : Edge) (fs : List Edge) → AllByRecursion (λ f. one_pair e f ≡ false) fs → (P : Edge → Type 0) → P e → AllByRecursion P fs → AllByRecursion P (put_edge e fs)
unfolding put_edge
put_within e [] n P p a = (p, tt)
put_within e (f ∷ fs) n P p a = go (same_pair f.pair e.pair) n.0 (pair_before e.pair f.pair) (put_within e fs n.1 P p a.1)
  where
    go : (s : Bool) → s ≡ false → (t : Bool) → AllByRecursion P (put_edge e fs) → AllByRecursion P (cond s (record f { active = e.active } ∷ fs) (cond t (e ∷ f ∷ fs) (f ∷ put_edge e fs)))
    go true h t ih = absurd (false≢true (sym h))
    go false h true ih = (p, a)
    go false h false ih = (a.0, ih)

put_there : (z e : Edge) (fs : List Edge) → AllByRecursion (λ f. one_pair e f ≡ false) fs → (z ≡ e) ⊎ In z fs → In z (put_edge e fs)
unfolding put_edge
put_there z e [] n i = i
put_there z e (f ∷ fs) n i = go (same_pair f.pair e.pair) n.0 (pair_before e.pair f.pair) i (put_there z e fs n.1)
  where
    go : (s : Bool) → s ≡ false → (t : Bool) → (z ≡ e) ⊎ In z (f ∷ fs) → ((z ≡ e) ⊎ In z fs → In z (put_edge e fs)) → In z (cond s (record f { active = e.active } ∷ fs) (cond t (e ∷ f ∷ fs) (f ∷ put_edge e fs)))
    go true h t j ih = absurd (false≢true (sym h))
    go false h true j ih = j
    go false h false (inl q) ih = inr (ih (inl q))
    go false h false (inr (inl q)) ih = inl q
    go false h false (inr (inr j)) ih = inr (ih (inr j))

-- none of these edges has the pair of one of those
abbrev Apart : List Edge → List Edge → Type 0
Apart es fs = AllByRecursion (λ e. AllByRecursion (λ f. one_pair e f ≡ false) fs) es

apart_none : (es : List Edge) → Apart es []
apart_none [] = tt
apart_none (e ∷ es) = (tt, apart_none es)

apart_more : (e : Edge) (es fs : List Edge) → AllByRecursion (λ f. one_pair e f ≡ false) es → AllByRecursion (λ f. one_pair e f ≡ false) fs → Apart es fs → Apart es (put_edge e fs)
apart_more e [] fs n m a = tt
apart_more e (g ∷ es) fs n m a = (put_within e fs m (λ f. one_pair g f ≡ false) (one_pair_flips g e ∙ n.0) a.0, apart_more e es fs n.1 m a.1)

puts_within : (es fs : List Edge) → IsDistinct one_pair es → Apart es fs → (P : Edge → Type 0) → AllByRecursion P es → AllByRecursion P fs → AllByRecursion P (put_edges es fs)
unfolding put_edges IsDistinct
puts_within [] fs d a P p q = q
puts_within (e ∷ es) fs d a P p q = puts_within es (put_edge e fs) d.1 (apart_more e es fs d.0 a.0 a.1) P p.1 (put_within e fs a.0 P p.0 q)

puts_there : (z : Edge) (es fs : List Edge) → IsDistinct one_pair es → Apart es fs → In z es ⊎ In z fs → In z (put_edges es fs)
unfolding put_edges IsDistinct
puts_there z [] fs d a (inl i) = absurd i
puts_there z [] fs d a (inr i) = i
puts_there z (e ∷ es) fs d a (inl (inl q)) = puts_there z es (put_edge e fs) d.1 (apart_more e es fs d.0 a.0 a.1) (inr (put_there z e fs a.0 (inl q)))
puts_there z (e ∷ es) fs d a (inl (inr i)) = puts_there z es (put_edge e fs) d.1 (apart_more e es fs d.0 a.0 a.1) (inl i)
puts_there z (e ∷ es) fs d a (inr i) = puts_there z es (put_edge e fs) d.1 (apart_more e es fs d.0 a.0 a.1) (inr (put_there z e fs a.0 (inr i)))

-- the order by which edges with places are sorted
abbrev pub less : BaseEdge → BaseEdge → Bool
less x y = is_lt (ordering_then (nat_cmp x.edge.pair.a y.edge.pair.a) (nat_cmp x.edge.pair.b y.edge.pair.b))

less_is : (x y : BaseEdge) → less x y ≡ pair_before x.edge.pair y.edge.pair
unfolding pair_before
less_is x y = by_numbers x.edge.pair.a x.edge.pair.b y.edge.pair.a y.edge.pair.b
  where
    by_numbers : (a b c d : ℕ) → is_lt (ordering_then (nat_cmp a c) (nat_cmp b d)) ≡ (ltb a c || eqb a c && ltb b d)
    by_numbers a b c d = grind arith

abbrev edge_of : List BaseEdge → List Edge
edge_of xs = map (λ (x : BaseEdge). x.edge) xs

sorted_tail : (x : BaseEdge) (xs : List BaseEdge) → IsSortedBy less (x ∷ xs) → IsSortedBy less xs
sorted_tail x xs s k d l h =
    let e : suc k + 1 ≡ suc (k + 1) = omega arith in
    subst (λ n. less (get_or (x ∷ xs) n d) (get_or xs k d) ≡ false) e (s (suc k) d (omega arith) (omega (arith, h)))

sorted_before : (xs : List BaseEdge) → IsSortedBy less xs → IsDistinct one_pair (edge_of xs) → Differ Before (edge_of xs)
unfolding IsDistinct
sorted_before [] s d = tt
sorted_before (x ∷ []) s d = (tt, tt)
sorted_before (x ∷ y ∷ ys) s d =
    let rest = sorted_before (y ∷ ys) (sorted_tail x (y ∷ ys) s) d.1 in
    let behind : less y x ≡ false = s zero x (omega arith) (omega arith) in
    let first : Before x.edge y.edge = before_other x.edge.pair y.edge.pair (one_pair_flips y.edge x.edge ∙ d.0.0) (sym (less_is y x) ∙ behind) in
    ((first, all_more (λ f. Before y.edge f) (λ f. Before x.edge f) (edge_of ys) (λ f h. before_trans x.edge.pair y.edge.pair f.pair first h) rest.0), rest)

-- edges of different pairs that were sorted
pub sorted_edges : (xs ys : List BaseEdge) → PairsDiffer (edge_of xs) → IsPermutation xs ys → IsSortedBy less ys → edge_of ys ≡ put_edges (edge_of xs) []
sorted_edges xs ys once p s =
    let d = pairs_distinct (edge_of xs) once in
    let q = IsPermutation-map (λ (x : BaseEdge). x.edge) xs ys p in
    let none = apart_none (edge_of xs) in
    same_lists Before before_asym (edge_of ys) (put_edges (edge_of xs) [])
    (sorted_before ys s (IsDistinct-IsPermutation one_pair one_pair_flips (edge_of xs) (edge_of ys) q d))
    (sorted_differ (put_edges (edge_of xs) []) (puts_sorted (edge_of xs) [] tt))
    (all_more (λ z. In z (edge_of xs)) (λ z. In z (put_edges (edge_of xs) [])) (edge_of ys) (λ z i. puts_there z (edge_of xs) [] d none (inl i)) (within_permuted (edge_of xs) (edge_of ys) q))
    (puts_within (edge_of xs) [] d none (λ z. In z (edge_of ys)) (within_permuted (edge_of ys) (edge_of xs) (IsPermutation-sym (edge_of xs) (edge_of ys) q)) tt)
