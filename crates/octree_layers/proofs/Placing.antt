-- Where an id stands in an ascending list, and the part of a list by ascending numbers that has one number.
use Rattle.std.proofs.Common.{◌≡◌, ℕ, zero, suc, ◌+◌, ◌<◌, ◌≤◌, Bool, true, false, cond, eqb, ltb, leb, List, [], ◌∷◌, length, take, drop, get_or, lt-ltb, refl, sym, ◌∙◌, ap, subst, inl, inr, ◌⊎◌, arith, eq-eqb}
use Rattle.std.proofs.Common.{is_lt, nat_cmp}
use Rattle.std.specs.List.{filter}
use Rattle.std.specs.List.Sorted.{IsNonDecreasingBy, IsPartitionedBy, IsPartitionPoint}
use Rattle.std.proofs.lemmas.List.{length-drop, get_or-drop}
use Rattle.std.proofs.lemmas.List.Sorted.{IsNonDecreasingBy-drop}
use Rattle.std.proofs.lemmas.Bool.{eqb-true, ne_eqb, ltb-true, ltb-false, leb-true, leb-false, le-leb, cases_lt}
use Rattle.chunk_geometry.specs.declared.Cell.{Cell}
use Rattle.chunk_geometry.specs.Levels.{level as level_of}
use Rattle.op_model.specs.declared.base.Dataset.{Dataset}
use Rattle.op_model.specs.declared.base.Base.{Base}
use Rattle.op_model.specs.Chunks.{cell}
use Rattle.layer_laws.specs.Levels.{level}
use Rattle.octree_layers.specs.declared.levels.PlacedEdge.{PlacedEdge}
use Rattle.graph_model.specs.Lists.{has}
use Rattle.graph_model.proofs.ListLemmas.{contra, has_cases, has_none}
use Rattle.op_model.specs.Valid.{IsAscending}
use Rattle.layer_laws.proofs.PlaceLemmas.{at_strict, at_order, at_one}
use Rattle.layer_laws.proofs.OrderLemmas.{get_has}
use Rattle.base_rows.specs.declared.lists.BaseEdge.{BaseEdge}
use Rattle.base_rows.specs.Lists.{IsPlaced}
use Rattle.octree_layers.specs.Places.{place_of, placed}

pub place_at : (xs : List ℕ) (v : ℕ) → has xs v ≡ true → (place_of xs v < length xs) × (get_or xs (place_of xs v) 0 ≡ v)
unfolding place_of
place_at [] v h = has_none v h
place_at (x ∷ xs) v h = go (eqb x v) refl (has_cases x xs v h) (place_at xs v)
  where
    go : (k : Bool) → eqb x v ≡ k → (x ≡ v) ⊎ (has xs v ≡ true) → (has xs v ≡ true → (place_of xs v < length xs) × (get_or xs (place_of xs v) 0 ≡ v))
        → (cond k 0 (place_of xs v + 1) < length (x ∷ xs)) × (get_or (x ∷ xs) (cond k 0 (place_of xs v + 1)) 0 ≡ v)
    go true e c ih = (omega arith, eqb-true x v e)
    go false e (inl q) ih = contra (eqb x v) (eq-eqb x v q) e
    go false e (inr g) ih = let p = ih g in let s : suc (place_of xs v) ≡ place_of xs v + 1 = omega arith in (omega (arith, p.0), subst (λ k. get_or (x ∷ xs) k 0 ≡ v) s p.1)

pub place_is : (xs : List ℕ) (i : ℕ) → IsAscending xs → i < length xs → place_of xs (get_or xs i 0) ≡ i
place_is xs i a l = let p = place_at xs (get_or xs i 0) (get_has xs i l) in at_one xs (place_of xs (get_or xs i 0)) i a p.0 l p.1

pub cmp_less : (x y : ℕ) (b : Bool) → b ≡ is_lt (nat_cmp x y) → b ≡ true → x < y
cmp_less x y b e t = ltb-true x y (less x y ∙ (sym e ∙ t))
  where
    less : (x y : ℕ) → ltb x y ≡ is_lt (nat_cmp x y)
    less x y = grind arith

pub cmp_more : (x y : ℕ) (b : Bool) → b ≡ is_lt (nat_cmp x y) → b ≡ false → y ≤ x
cmp_more x y b e t = ltb-false x y (less x y ∙ (sym e ∙ t))
  where
    less : (x y : ℕ) → ltb x y ≡ is_lt (nat_cmp x y)
    less x y = grind arith

-- an id above the middle one stands behind it
pub middle_less : (xs : List ℕ) (v m : ℕ) → IsAscending xs → has xs v ≡ true → m < length xs → get_or xs m 0 < v → m + 1 ≤ place_of xs v
middle_less xs v m a h l less = elim (cases_lt m (place_of xs v)) [
  | inl g ↦ omega arith
  | inr g ↦ let p = place_at xs v h in let o = at_order xs (place_of xs v) m a g l in let e = p.1 in absurd (omega arith)
]

-- and any other doesn't
pub middle_more : (xs : List ℕ) (v m : ℕ) → IsAscending xs → has xs v ≡ true → v ≤ get_or xs m 0 → place_of xs v ≤ m
middle_more xs v m a h more = elim (cases_lt m (place_of xs v)) [
  | inl g ↦ let p = place_at xs v h in let o = at_strict xs m (place_of xs v) a g p.0 in let e = p.1 in absurd (omega arith)
  | inr g ↦ g
]

module _ {X : Type 0} (t : X → Bool) where
  pub none_kept : (xs : List X) → ((i : ℕ) (d : X) → i < length xs → t (get_or xs i d) ≡ false) → filter t xs ≡ []
  none_kept [] f = refl
  none_kept (x ∷ xs) f = ap (λ k. cond k (x ∷ filter t xs) (filter t xs)) (f 0 x (omega arith)) ∙ none_kept xs (λ i d l. f (suc i) d (omega arith))

  front : (n : ℕ) (xs : List X) → ((i : ℕ) (d : X) → i < n → i < length xs → t (get_or xs i d) ≡ true) → ((i : ℕ) (d : X) → n ≤ i → i < length xs → t (get_or xs i d) ≡ false)
      → take n xs ≡ filter t xs
  front zero xs f g = sym (none_kept xs (λ i d l. g i d (omega arith) l))
  front (suc n) [] f g = refl
  front (suc n) (x ∷ xs) f g =
      ap (λ ys. x ∷ ys) (front n xs (λ i d l m. f (suc i) d (omega arith) (omega arith)) (λ i d l m. g (suc i) d (omega arith) (omega arith)))
      ∙ sym (ap (λ k. cond k (x ∷ filter t xs) (filter t xs)) (f 0 x (omega arith) (omega arith)))

  -- what passes a test stands together
  pub part : (a n : ℕ) (xs : List X) → ((i : ℕ) (d : X) → i < a → i < length xs → t (get_or xs i d) ≡ false)
      → ((i : ℕ) (d : X) → i < n → i < length (drop a xs) → t (get_or (drop a xs) i d) ≡ true) → ((i : ℕ) (d : X) → n ≤ i → i < length (drop a xs) → t (get_or (drop a xs) i d) ≡ false)
      → take n (drop a xs) ≡ filter t xs
  part zero n xs e f g = front n xs f g
  part (suc a) n [] e f g = front n [] f g
  part (suc a) n (x ∷ xs) e f g =
      part a n xs (λ i d l m. e (suc i) d (omega arith) (omega arith)) f g
      ∙ sym (ap (λ k. cond k (x ∷ filter t xs) (filter t xs)) (e 0 x (omega arith) (omega arith)))

module _ {X : Type 0} (n : X → ℕ) (lv : ℕ) (xs : List X) (rising : IsNonDecreasingBy n xs) where
  below : X → Bool
  below y = ltb (n y) lv

  within : X → Bool
  within y = leb (n y) lv

  below_first : IsPartitionedBy (λ y. ltb (n y) lv) xs
  below_first i j d l m e = let r = rising i j d l m in lt-ltb _ _ (let k = ltb-true _ _ e in omega arith)

  within_first : (a : ℕ) → IsPartitionedBy (λ y. leb (n y) lv) (drop a xs)
  within_first a i j d l m e = let r = IsNonDecreasingBy-drop n a xs rising i j d l m in le-leb _ _ (let k = leb-true _ _ e in omega arith)

  -- what two searches by halving leave is what has the number
  pub of_number : (a k : ℕ)
      → (IsPartitionedBy (λ y. ltb (n y) lv) xs → IsPartitionPoint (λ y. ltb (n y) lv ≡ true) (λ y. ltb (n y) lv ≡ false) xs a)
      → (IsPartitionedBy (λ y. leb (n y) lv) (drop a xs) → IsPartitionPoint (λ y. leb (n y) lv ≡ true) (λ y. leb (n y) lv ≡ false) (drop a xs) k)
      → take k (drop a xs) ≡ filter (λ y. eqb (n y) lv) xs
  of_number a k f g =
      let p = f below_first in
      let q = g (within_first a) in
      part (λ y. eqb (n y) lv) a k xs
      (λ i d l m. ne_eqb _ _ (λ e. let r = ltb-true _ _ (p.0 i d (omega arith) l) in omega arith))
      (λ i d l m.
      let low = p.1 (a + i) d (omega arith) (let s = length-drop a xs in omega arith) in
      let high = leb-true _ _ (q.0 i d (omega arith) l) in
      let same : n (get_or (drop a xs) i d) ≡ n (get_or xs (a + i) d) = ap n (get_or-drop a xs i d) in
      eq-eqb _ _ (let r = ltb-false _ _ low in omega arith))
      (λ i d l m. ne_eqb _ _ (λ e. let r = leb-false _ _ (q.1 i d l m) in omega arith))

-- an edge by the places of its ends, from what the calls answered
-- a place where an id stands is its place
pub stands_at : (xs : List ℕ) (v i : ℕ) → IsAscending xs → i < length xs → get_or xs i 0 ≡ v → i ≡ place_of xs v
stands_at xs v i a l e = sym (place_is xs i a l) ∙ ap (place_of xs) e

-- the edge whose ends stand at their places, with the level of its ends' chunks
pub placed_is : (d : Dataset) (b : Base) (x : BaseEdge) (lv : ℕ) (p q : Cell) → IsAscending b.supervoxels → IsPlaced b.supervoxels x → lv ≡ level_of p q → p ≡ cell d x.edge.pair.a → q ≡ cell d x.edge.pair.b
    → (let r : PlacedEdge = record { lesser = x.lesser; greater = x.greater; level = lv; active = x.edge.active } in r) ≡ placed d b x.edge
unfolding level
placed_is d b x lv p q rises h z u v =
    let xl : x.lesser ≡ place_of b.supervoxels x.edge.pair.a = stands_at b.supervoxels x.edge.pair.a x.lesser rises h.lesser h.lesser_is in
    let yg : x.greater ≡ place_of b.supervoxels x.edge.pair.b = stands_at b.supervoxels x.edge.pair.b x.greater rises h.greater h.greater_is in
    let zl : lv ≡ level_of (cell d x.edge.pair.a) (cell d x.edge.pair.b) = z ∙ (ap (λ c. level_of c q) u ∙ ap (λ c. level_of (cell d x.edge.pair.a) c) v) in
    λ k. record { lesser = xl k; greater = yg k; level = zl k; active = x.edge.active }

-- the end of an edge in its place is a supervoxel
pub lesser_known : (ids : List ℕ) (x : BaseEdge) → IsPlaced ids x → has ids x.edge.pair.a ≡ true
lesser_known ids x h = subst (λ v. has ids v ≡ true) h.lesser_is (get_has ids x.lesser h.lesser)

pub greater_known : (ids : List ℕ) (x : BaseEdge) → IsPlaced ids x → has ids x.edge.pair.b ≡ true
greater_known ids x h = subst (λ v. has ids v ≡ true) h.greater_is (get_has ids x.greater h.greater)
