-- The leaves of a node are the supervoxels whose places lead to its least leaf.
use Rattle.std.proofs.Common.{◌≡◌, ℕ, zero, suc, ◌+◌, ◌<◌, ◌≤◌, Bool, true, false, cond, eqb, List, [], ◌∷◌, length, map, get_or, refl, sym, ◌∙◌, ap, subst, inl, inr, arith, eq-eqb}
use Rattle.std.specs.List.{filter, range_with_len}
use Rattle.std.proofs.lemmas.Bool.{eqb-true}
use Rattle.op_model.specs.declared.base.Dataset.{Dataset}
use Rattle.op_model.specs.declared.base.Base.{Base}
use Rattle.graph_model.specs.Lists.{has}
use Rattle.op_model.specs.Labels.{component}
use Rattle.op_model.specs.Valid.{IsDataset, IsBase}
use Rattle.graph_model.proofs.ListLemmas.{has_cases, has_none, filter_same, filter_has, filter_only}
use Rattle.layer_laws.specs.Levels.{leaves}
use Rattle.layer_laws.specs.Building.{AreLeastLeaves, least_leaf}
use Rattle.layer_laws.proofs.StepLemmas.{leaves_node, leaves_self}
use Rattle.layer_laws.proofs.OrderLemmas.{get_has, filter_ascending, same_ascending}
use Rattle.layer_laws.proofs.PlaceLemmas.{at_one}
use Rattle.layer_laws.proofs.BuildLemmas.{leaves_ascending, same_leaves_of, leaf_in, leaf_same, leaves_known}
use Rattle.op_model.specs.Ingest.{ingested}
use Rattle.octree_layers.specs.Places.{place_of}
use Rattle.octree_layers.specs.Numbers.{leaves_at}
use Rattle.octree_layers.proofs.Placing.{place_at, place_is}

pub filter_of_map : {X Y : Type 0} (t : Y → Bool) (f : X → Y) (xs : List X) → filter t (map f xs) ≡ map f (filter (λ x. t (f x)) xs)
filter_of_map t f [] = refl
filter_of_map {X} {Y} t f (x ∷ xs) = go (t (f x)) (filter_of_map t f xs)
  where
    go : (k : Bool) → filter t (map f xs) ≡ map f (filter (λ y. t (f y)) xs) → cond k (f x ∷ filter t (map f xs)) (filter t (map f xs)) ≡ map f (cond k (x ∷ filter (λ y. t (f y)) xs) (filter (λ y. t (f y)) xs))
    go true ih = ap (λ ys. f x ∷ ys) ih
    go false ih = ih

pub map_twice : {X Y Z : Type 0} (g : Y → Z) (f : X → Y) (xs : List X) → map g (map f xs) ≡ map (λ x. g (f x)) xs
map_twice g f [] = refl
map_twice g f (x ∷ xs) = ap (λ ys. g (f x) ∷ ys) (map_twice g f xs)

shifted : (x : ℕ) (xs : List ℕ) (a n : ℕ) → map (λ i. get_or (x ∷ xs) i 0) (range_with_len (suc a) n) ≡ map (λ i. get_or xs i 0) (range_with_len a n)
shifted x xs a zero = refl
shifted x xs a (suc n) =
    let e : suc a + 1 ≡ suc (a + 1) = omega arith in
    ap (λ ys. get_or xs a 0 ∷ ys) (ap (λ k. map (λ i. get_or (x ∷ xs) i 0) (range_with_len k n)) e ∙ shifted x xs (a + 1) n)

-- a list is what stands at its places
pub whole : (xs : List ℕ) → map (λ i. get_or xs i 0) (range_with_len 0 (length xs)) ≡ xs
whole [] = refl
whole (x ∷ xs) = ap (λ ys. x ∷ ys) (shifted x xs 0 (length xs) ∙ whole xs)

pub range_in : (a n i : ℕ) → has (range_with_len a n) i ≡ true → i < a + n
range_in a zero i h = has_none i h
range_in a (suc n) i h = elim (has_cases a (range_with_len (a + 1) n) i h) [ inl e ↦ omega arith | inr g ↦ let l = range_in (a + 1) n i g in omega arith ]

module _ (d : Dataset) (b : Base) (valid : IsDataset d) (base : IsBase d b) (now layer : ℕ) (two : 2 ≤ layer) (firsts : List ℕ) (are : AreLeastLeaves d b (ingested d b now) layer firsts) where
  sv : ℕ → ℕ
  sv i = get_or b.supervoxels i 0

  -- a place that others lead to leads to itself
  pub leads_to_itself : (i : ℕ) → i < length b.supervoxels → get_or firsts (get_or firsts i 0) 0 ≡ get_or firsts i 0
  leads_to_itself i l =
      let f : ℕ = get_or firsts i 0 in
      let v : ℕ = get_or b.supervoxels i 0 in
      let w : ℕ = get_or b.supervoxels f 0 in
      let lf : f < length b.supervoxels = are.small i l in
      let hv = get_has b.supervoxels i l in
      let e : w ≡ least_leaf d b (ingested d b now) layer v = are.leaf i l in
      let g : get_or b.supervoxels (get_or firsts f 0) 0 ≡ least_leaf d b (ingested d b now) layer w = are.leaf f lf in
      let k : has (leaves d b (ingested d b now) layer v) w ≡ true = subst (λ x. has (leaves d b (ingested d b now) layer v) x ≡ true) (sym e) (leaf_in d b valid.layout base.ascending (ingested d b now) layer v hv) in
      let s = leaf_same d b valid.layout base.ascending (ingested d b now) layer v w (get_has b.supervoxels f lf) k in
      at_one b.supervoxels (get_or firsts f 0) f base.ascending (are.small f lf) lf (g ∙ (sym s ∙ sym e))

  module _ (i : ℕ) (l : i < length b.supervoxels) where
    abbrev v : ℕ
    v = get_or b.supervoxels i 0

    hv : has b.supervoxels v ≡ true
    hv = get_has b.supervoxels i l

    with_it : ℕ → Bool
    with_it w = eqb (get_or firsts (place_of b.supervoxels w) 0) (get_or firsts i 0)

    least_at : (w : ℕ) → has b.supervoxels w ≡ true → get_or b.supervoxels (get_or firsts (place_of b.supervoxels w) 0) 0 ≡ least_leaf d b (ingested d b now) layer w
    least_at w hw = let p = place_at b.supervoxels w hw in are.leaf (place_of b.supervoxels w) p.0 ∙ ap (least_leaf d b (ingested d b now) layer) p.1

    into : (w : ℕ) → has (leaves d b (ingested d b now) layer v) w ≡ true → has (filter with_it b.supervoxels) w ≡ true
    unfolding with_it
    into w h =
        let hw = leaves_known d b valid.layout base.ascending (ingested d b now) layer v w hv h in
        let s = leaf_same d b valid.layout base.ascending (ingested d b now) layer v w hw h in
        let p = place_at b.supervoxels w hw in
        filter_has with_it b.supervoxels w hw (eq-eqb _ _ (at_one b.supervoxels (get_or firsts (place_of b.supervoxels w) 0) (get_or firsts i 0) base.ascending
        (are.small (place_of b.supervoxels w) p.0) (are.small i l) (least_at w hw ∙ (sym s ∙ sym (are.leaf i l)))))

    from : (w : ℕ) → has (filter with_it b.supervoxels) w ≡ true → has (leaves d b (ingested d b now) layer v) w ≡ true
    unfolding with_it
    from w h =
        let p = filter_only with_it b.supervoxels w h in
        let e : least_leaf d b (ingested d b now) layer v ≡ least_leaf d b (ingested d b now) layer w =
        sym (are.leaf i l) ∙ (ap (λ k. get_or b.supervoxels k 0) (sym (eqb-true _ _ p.1)) ∙ least_at w p.0) in
        let one = same_leaves_of d b valid.layout base.ascending (ingested d b now) layer v (least_leaf d b (ingested d b now) layer v) (leaf_in d b valid.layout base.ascending (ingested d b now) layer v hv) in
        let other = same_leaves_of d b valid.layout base.ascending (ingested d b now) layer w (least_leaf d b (ingested d b now) layer w) (leaf_in d b valid.layout base.ascending (ingested d b now) layer w p.0) in
        subst (λ xs. has xs w ≡ true) (sym (one ∙ (ap (leaves d b (ingested d b now) layer) e ∙ sym other))) (leaves_self d b valid.layout (ingested d b now) layer w p.0)

    pub leaves_stand : component d b (ingested d b now) layer (get_or b.supervoxels i 0) ≡ leaves_at b firsts (get_or firsts i 0)
    unfolding with_it
    leaves_stand =
        sym (leaves_node d b valid.layout (ingested d b now) layer v two)
        ∙ (same_ascending (leaves d b (ingested d b now) layer v) (filter with_it b.supervoxels) (leaves_ascending d b valid.layout base.ascending (ingested d b now) layer v)
        (filter_ascending with_it b.supervoxels base.ascending) into from
        ∙ (ap (filter with_it) (sym (whole b.supervoxels))
        ∙ (filter_of_map with_it (λ j. get_or b.supervoxels j 0) (range_with_len 0 (length b.supervoxels))
        ∙ ap (map (λ j. get_or b.supervoxels j 0)) (filter_same (λ j. with_it (get_or b.supervoxels j 0)) (λ j. eqb (get_or firsts j 0) (get_or firsts i 0)) (range_with_len 0 (length b.supervoxels))
        (λ j h. ap (λ k. eqb (get_or firsts k 0) (get_or firsts i 0)) (place_is b.supervoxels j base.ascending (let m = range_in 0 (length b.supervoxels) j h in omega arith)))))))
