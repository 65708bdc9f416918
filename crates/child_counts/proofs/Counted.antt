-- The children of new nodes, counted by places.
use Rattle.std.proofs.Common.{◌≡◌, ◌∙◌, ℕ, zero, suc, ◌+◌, ◌-◌, ◌<◌, ◌≤◌, Bool, true, false, cond, ◌&&◌, eqb, leb, List, [], ◌∷◌, length, map, get_or, refl, sym, ap, ap₂, subst, inl, inr, arith, eq-eqb}
use Rattle.std.specs.List.{All, AllByRecursion, filter, range_with_len}
use Rattle.std.proofs.lemmas.Bool.{and_from, and_parts, cases_lt, cond-false, eqb-false, eqb-true, false≢true, lt-leb}
use Rattle.graph_model.specs.Lists.{has, head_or}
use Rattle.graph_model.specs.Components.{component_of}
use Rattle.layer_laws.proofs.Repeated.{component_filter}
use Rattle.graph_model.proofs.ListLemmas.{filter_has, filter_only, filter_same, has_head, has_tail, same_bool, has_cases, has_none}
use Rattle.op_model.specs.declared.base.Base.{Base}
use Rattle.op_model.specs.declared.base.Dataset.{Dataset}
use Rattle.op_model.specs.declared.entry.Entry.{Entry}
use Rattle.op_model.specs.Chunks.{chunk, members}
use Rattle.op_model.specs.Edges.{linked}
use Rattle.op_model.specs.Labels.{component, edges, is_new, least, new_among}
use Rattle.op_model.specs.Records.{children, total}
use Rattle.op_model.specs.Valid.{IsAscending, IsBase, IsDataset}
use Rattle.op_model.proofs.LabelLemmas.{least_component, least_same, new_same, own_component, same_component}
use Rattle.op_model.proofs.LegalLemmas.{map_has}
use Rattle.op_model.proofs.MadeLemmas.{map_only}
use Rattle.layer_laws.specs.Building.{at, least_leaf}
use Rattle.layer_laws.specs.Levels.{leaves}
use Rattle.layer_laws.proofs.OrderLemmas.{filter_ascending, get_has, members_ascending, same_ascending}
use Rattle.layer_laws.proofs.PlaceLemmas.{at_one}
use Rattle.record_rows.proofs.LinkLemmas.{of_component}
use Rattle.record_rows.proofs.OnceLemmas.{ascending_differ}
use Rattle.record_rows.proofs.SumLemmas.{parted, total_ones, total_same}
use Rattle.entry_parts.specs.declared.made.MadeNode.{MadeNode}
use Rattle.entry_parts.specs.Made.{AreMadeIn}
use Rattle.entry_parts.specs.Parts.{AreFirstsOf}
use Rattle.child_counts.specs.Counting.{HoldsChildren, is_counted}
use Rattle.child_counts.proofs.NewLeasts.{least_is_new, least_there}

-- one test behind another
filter_both : (s t : ℕ → Bool) (xs : List ℕ) → filter s (filter t xs) ≡ filter (λ x. s x && t x) xs
filter_both s t [] = refl
filter_both s t (x ∷ xs) = go (s x) (t x) refl (filter_both s t xs)
  where
    go : (p q : Bool) → s x ≡ p → filter s (filter t xs) ≡ filter (λ y. s y && t y) xs
        → filter s (cond q (x ∷ filter t xs) (filter t xs)) ≡ cond (p && q) (x ∷ filter (λ y. s y && t y) xs) (filter (λ y. s y && t y) xs)
    go true true e ih = ap (λ c. cond c (x ∷ filter s (filter t xs)) (filter s (filter t xs))) e ∙ ap (λ ys. x ∷ ys) ih
    go true false e ih = ih
    go false true e ih = ap (λ c. cond c (x ∷ filter s (filter t xs)) (filter s (filter t xs))) e ∙ ih
    go false false e ih = ih

-- where the first test has the second one the second is no matter
filter_within : (s t : ℕ → Bool) (xs : List ℕ) → ((x : ℕ) → s x ≡ true → t x ≡ true) → filter s (filter t xs) ≡ filter s xs
filter_within s t xs f = filter_both s t xs ∙ filter_same (λ x. s x && t x) s xs (λ x h. go x (s x) refl)
  where
    go : (x : ℕ) (p : Bool) → s x ≡ p → (p && t x) ≡ p
    go x true e = f x e
    go x false e = refl

-- the members of a list that pass a test, by their places
by_places : (t : ℕ → Bool) (f : ℕ → ℕ) (a : ℕ) (xs : List ℕ) → ((i : ℕ) → i < length xs → f (a + i) ≡ get_or xs i 0) → length (filter t xs) ≡ length (filter (λ i. t (f i)) (range_with_len a (length xs)))
by_places t f a [] g = refl
by_places t f a (x ∷ xs) g =
    let e : f a ≡ x = ap f (let z : a ≡ a + 0 = omega arith in z) ∙ g 0 (omega arith) in
    go (t x) (t (f a)) (ap t (sym e)) (by_places t f (a + 1) xs (λ i l. ap f (let z : a + 1 + i ≡ a + suc i = omega arith in z) ∙ g (suc i) (omega (arith, l))))
  where
    go : (p q : Bool) → p ≡ q → length (filter t xs) ≡ length (filter (λ i. t (f i)) (range_with_len (a + 1) (length xs)))
        → length (cond p (x ∷ filter t xs) (filter t xs)) ≡ length (cond q (a ∷ filter (λ i. t (f i)) (range_with_len (a + 1) (length xs))) (filter (λ i. t (f i)) (range_with_len (a + 1) (length xs))))
    go true true e ih = ap suc ih
    go true false e ih = absurd (false≢true (sym e))
    go false true e ih = absurd (false≢true e)
    go false false e ih = ih

place_of_has : (xs : List ℕ) (x : ℕ) → has xs x ≡ true → (k : ℕ) × (k < length xs) × (get_or xs k 0 ≡ x)
place_of_has [] x h = has_none x h
place_of_has (y ∷ ys) x h = elim (has_cases y ys x h) [
  | inl q ↦ (0, omega arith, q)
  | inr g ↦ let i = place_of_has ys x g in let l = i.1 in (suc i.0, omega (arith, l), i.2)
]

in_range : (a n i : ℕ) → has (range_with_len a n) i ≡ true → i < a + n
in_range a zero i h = has_none i h
in_range a (suc n) i h = elim (has_cases a (range_with_len (a + 1) n) i h) [ inl q ↦ omega (arith, q) | inr g ↦ let l = in_range (a + 1) n i g in omega (arith, l) ]

component_ascends : (links : ℕ → ℕ → Bool) (all : List ℕ) (u : ℕ) → IsAscending all → IsAscending (component_of links all u)
component_ascends links all u a = let f = component_filter links all u in subst (λ xs. IsAscending xs) (sym f.1) (filter_ascending f.0 all a)

module _ (d : Dataset) (b : Base) (valid : IsDataset d) (base : IsBase d b) (log : List Entry) (e : Entry) (ids : List ℕ) (layer : ℕ) (two : 2 ≤ layer) (is : HoldsChildren d b (e ∷ log) layer ids) where
  abbrev whole : List Entry
  whole = e ∷ log

  abbrev key : ℕ → ℕ
  key w = least d b whole layer w

  abbrev keep : ℕ → Bool
  keep w = cond (eqb layer 2) true (eqb (least d b whole (layer - 1) w) w)

  abbrev news : List ℕ
  news = new_among d b whole layer b.supervoxels

  not_two : (layer ≡ 2 → ⊥) → 2 < layer
  not_two n = elim (cases_lt 2 layer) [ inl a ↦ a | inr a ↦ absurd (n (let t = two in let z : layer ≡ 2 = omega (arith, t, a) in z)) ]

  -- a leaf that stands for a child is the least of it
  kept_leaf : (w : ℕ) → keep w ≡ true → least_leaf d b whole (layer - 1) w ≡ w
  unfolding least least_leaf leaves head_or
  kept_leaf w k = go (eqb layer 2) refl k
    where
      go : (t : Bool) → eqb layer 2 ≡ t → cond t true (eqb (least d b whole (layer - 1) w) w) ≡ true → least_leaf d b whole (layer - 1) w ≡ w
      go true s k = let one : layer - 1 ≡ 1 = let z = eqb-true layer 2 s in omega (arith, z) in ap (λ k. head_or w (cond (leb k 1) (w ∷ []) (component d b whole k w))) one
      go false s k =
          let n : layer ≡ 2 → ⊥ = eqb-false layer 2 s in
          let high : leb (layer - 1) 1 ≡ false = lt-leb (layer - 1) 1 (let z = not_two n in omega (arith, z)) in
          ap (head_or w) (cond-false (leb (layer - 1) 1) (w ∷ []) (component d b whole (layer - 1) w) high) ∙ eqb-true (least d b whole (layer - 1) w) w k

  -- those of a new node that stand for its children are in the list
  kept_is : (v : ℕ) → has b.supervoxels v ≡ true → key v ≡ v → is_new d b whole layer v ≡ true → filter keep (component d b whole layer v) ≡ filter keep (filter (λ w. eqb (key w) v) ids)
  unfolding component
  kept_is v hv l n =
      same_ascending (filter keep (component d b whole layer v)) (filter keep (filter (λ w. eqb (key w) v) ids))
      (filter_ascending keep (component d b whole layer v) (component_ascends (linked (edges d b whole)) (members d b layer (chunk d layer v)) v (members_ascending d b base.ascending layer (chunk d layer v))))
      (filter_ascending keep (filter (λ w. eqb (key w) v) ids) (filter_ascending (λ w. eqb (key w) v) ids is.ascending))
      (λ w m.
      let k = filter_only keep (component d b whole layer v) w m in
      let c = of_component d b valid base whole layer v w k.0 in
      let same : component d b whole layer w ≡ component d b whole layer v = sym (same_component d b whole layer v w c.1 c.2) in
      let there = is.children w c.0 (new_same d b whole layer w v same ∙ n) in
      let h : has ids w ≡ true = subst (λ x. has ids x ≡ true) (kept_leaf w k.1) there in
      filter_has keep (filter (λ x. eqb (key x) v) ids) w (filter_has (λ x. eqb (key x) v) ids w h (eq-eqb (key w) v (least_same d b whole layer w v hv same ∙ l))) k.1)
      (λ w m.
      let k = filter_only keep (filter (λ w. eqb (key w) v) ids) w m in
      let f = filter_only (λ x. eqb (key x) v) ids w k.0 in
      let q : key w ≡ v = eqb-true (key w) v f.1 in
      let same : component d b whole layer v ≡ component d b whole layer w = ap (component d b whole layer) (sym q) ∙ least_component d b whole layer w (is.known w f.0) in
      filter_has keep (component d b whole layer v) w (subst (λ xs. has xs w ≡ true) (sym same) (own_component d b whole layer w (is.known w f.0))) k.1)

  all_true : (xs : List ℕ) → filter (λ x. true) xs ≡ xs
  all_true [] = refl
  all_true (x ∷ xs) = ap (λ ys. x ∷ ys) (all_true xs)

  children_is : (v : ℕ) → has b.supervoxels v ≡ true → key v ≡ v → is_new d b whole layer v ≡ true → children d b whole layer v ≡ length (filter keep (filter (λ w. eqb (key w) v) ids))
  unfolding children
  children_is v h l n = go (eqb layer 2) (component d b whole layer v) ∙ ap length (kept_is v h l n)
    where
      go : (t : Bool) (vs : List ℕ) → cond t (length vs) (length (filter (λ w. eqb (least d b whole (layer - 1) w) w) vs)) ≡ length (filter (λ w. cond t true (eqb (least d b whole (layer - 1) w) w)) vs)
      go true vs = sym (ap length (all_true vs))
      go false vs = refl

  module _ (below firsts leasts : List ℕ) (nodes : List MadeNode) (lower : AreFirstsOf d b whole ids (layer - 1) below) (here : AreFirstsOf d b whole ids layer firsts)
      (made : AreMadeIn d b log e layer nodes) (told : map (at ids) leasts ≡ map (λ m. m.least) nodes) (small : All (λ p. p < length ids) leasts) where
    once : (i j : ℕ) → i < length ids → j < length ids → get_or ids i 0 ≡ get_or ids j 0 → i ≡ j
    once i j l m q = at_one ids i j is.ascending l m q

    least_low : (p : ℕ) → has leasts p ≡ true → p < length ids
    least_low p h = go (place_of_has leasts p h)
      where
        go : (k : ℕ) × (k < length leasts) × (get_or leasts k 0 ≡ p) → p < length ids
        go k = subst (λ x. x < length ids) k.2 (small k.0 0 k.1)

    news_known : (v : ℕ) → has news v ≡ true → (has b.supervoxels v ≡ true) × (key v ≡ v) × (is_new d b whole layer v ≡ true)
    unfolding new_among
    news_known v h =
        let f = filter_only (λ u. eqb (least d b whole layer u) u && is_new d b whole layer u) b.supervoxels v h in
        let t = and_parts _ _ f.1 in
        (f.0, eqb-true (key v) v t.0, t.1)

    news_ascend : IsAscending news
    unfolding new_among
    news_ascend = filter_ascending (λ u. eqb (least d b whole layer u) u && is_new d b whole layer u) b.supervoxels base.ascending

    abbrev ours : List ℕ
    ours = filter (λ w. has news (key w)) ids

    each_has : (xs : List ℕ) → ((w : ℕ) → has xs w ≡ true → has news (key w) ≡ true) → AllByRecursion (λ w. has news (key w) ≡ true) xs
    each_has [] f = tt
    each_has (x ∷ xs) f = (f x (has_head x xs), each_has xs (λ w h. f w (has_tail x xs w h)))

    piece : (c : ℕ) → has news c ≡ true → total (map (λ w. 1) (filter keep (filter (λ w. eqb (key w) c) ours))) ≡ children d b whole layer c
    piece c h =
        let k = news_known c h in
        total_ones (filter keep (filter (λ w. eqb (key w) c) ours))
        ∙ (ap (λ vs. length (filter keep vs)) (filter_within (λ w. eqb (key w) c) (λ w. has news (key w)) ids (λ w q. subst (λ x. has news x ≡ true) (sym (eqb-true (key w) c q)) h))
        ∙ sym (children_is c k.0 k.1 k.2))

    all_pieces : (xs : List ℕ) → ((c : ℕ) → has xs c ≡ true → has news c ≡ true) → AllByRecursion (λ c. total (map (λ w. 1) (filter keep (filter (λ w. eqb (key w) c) ours))) ≡ children d b whole layer c) xs
    all_pieces [] f = tt
    all_pieces (x ∷ xs) f = (piece x (f x (has_head x xs)), all_pieces xs (λ c h. f c (has_tail x xs c h)))

    sum_is : total (map (children d b whole layer) news) ≡ length (filter keep ours)
    sum_is =
        sym (total_same (λ c. total (map (λ w. 1) (filter keep (filter (λ w. eqb (key w) c) ours)))) (children d b whole layer) news (all_pieces news (λ c h. h)))
        ∙ (parted (λ w. 1) keep key news ours (ascending_differ news news_ascend) (each_has ours (λ w h. (filter_only (λ x. has news (key x)) ids w h).1))
        ∙ total_ones (filter keep ours))

    first_at : (i : ℕ) → i < length ids → key (get_or ids i 0) ≡ get_or ids (get_or firsts i 0) 0
    unfolding least least_leaf leaves
    first_at i l = sym (here.leaf i l ∙ ap (head_or (get_or ids i 0)) (cond-false (leb layer 1) (get_or ids i 0 ∷ []) (component d b whole layer (get_or ids i 0)) (lt-leb layer 1 (omega (arith, two)))))

    news_at : (i : ℕ) → i < length ids → has news (key (get_or ids i 0)) ≡ has leasts (get_or firsts i 0)
    unfolding new_among
    news_at i l =
        let q : ℕ = get_or firsts i 0 in
        let m : q < length ids = here.small i l in
        let k = first_at i l in
        same_bool (has news (key (get_or ids i 0))) (has leasts q)
        (λ h.
        let f = filter_only (λ u. eqb (least d b whole layer u) u && is_new d b whole layer u) b.supervoxels (key (get_or ids i 0)) h in
        let t = and_parts _ _ f.1 in
        let n = least_there d b log e layer nodes (key (get_or ids i 0)) made f.0 (eqb-true _ _ t.0) t.1 in
        let p = map_only (at ids) leasts (key (get_or ids i 0)) (subst (λ xs. has xs (key (get_or ids i 0)) ≡ true) (sym told) n) in
        subst (λ x. has leasts x ≡ true) (once p.0 q (least_low p.0 p.1) m (p.2 ∙ k)) p.1)
        (λ h.
        let n = least_is_new d b log e layer nodes (get_or ids q 0) made (subst (λ xs. has xs (get_or ids q 0) ≡ true) told (map_has (at ids) leasts q h)) in
        subst (λ x. has (filter (λ u. eqb (least d b whole layer u) u && is_new d b whole layer u) b.supervoxels) x ≡ true) (sym k)
        (filter_has (λ u. eqb (least d b whole layer u) u && is_new d b whole layer u) b.supervoxels (get_or ids q 0) n.0 (and_from _ _ (eq-eqb (least d b whole layer (get_or ids q 0)) (get_or ids q 0) n.1) n.2)))

    keep_at : (i : ℕ) → i < length ids → keep (get_or ids i 0) ≡ eqb (get_or below i 0) i
    unfolding least least_leaf leaves head_or
    keep_at i l = go (eqb layer 2) refl
      where
        v : ℕ
        v = get_or ids i 0

        q : ℕ
        q = get_or below i 0

        m : q < length ids
        m = lower.small i l

        own : get_or ids q 0 ≡ v → eqb q i ≡ true
        own s = eq-eqb q i (once q i m l s)

        go : (t : Bool) → eqb layer 2 ≡ t → cond t true (eqb (least d b whole (layer - 1) v) v) ≡ eqb q i
        go true s =
            let one : layer - 1 ≡ 1 = let z = eqb-true layer 2 s in omega (arith, z) in
            let alone : get_or ids q 0 ≡ v = lower.leaf i l ∙ ap (λ k. head_or v (cond (leb k 1) (v ∷ []) (component d b whole k v))) one in
            sym (own alone)
        go false s =
            let n : layer ≡ 2 → ⊥ = eqb-false layer 2 s in
            let high : leb (layer - 1) 1 ≡ false = lt-leb (layer - 1) 1 (let z = not_two n in omega (arith, z)) in
            let told : get_or ids q 0 ≡ least d b whole (layer - 1) v = lower.leaf i l ∙ ap (head_or v) (cond-false (leb (layer - 1) 1) (v ∷ []) (component d b whole (layer - 1) v) high) in
            same_bool (eqb (least d b whole (layer - 1) v) v) (eqb q i) (λ h. own (told ∙ eqb-true (least d b whole (layer - 1) v) v h))
            (λ h. eq-eqb (least d b whole (layer - 1) v) v (sym told ∙ ap (λ k. get_or ids k 0) (eqb-true q i h)))

    pub counted : length (filter (is_counted below firsts leasts) (range_with_len 0 (length ids))) ≡ total (map (children d b whole layer) news)
    counted =
        let test : ℕ → Bool = λ w. keep w && has news (key w) in
        sym (
        sum_is
        ∙ (ap length (filter_both keep (λ w. has news (key w)) ids)
        ∙ (by_places test (λ i. get_or ids i 0) 0 ids (λ i l. ap (λ k. get_or ids k 0) (let z : 0 + i ≡ i = omega arith in z))
        ∙ ap length (filter_same (λ i. test (get_or ids i 0)) (is_counted below firsts leasts) (range_with_len 0 (length ids)) (λ i h.
        let l : i < length ids = let z = in_range 0 (length ids) i h in omega (arith, z) in
        ap₂ (λ x y. x && y) (keep_at i l) (news_at i l)))))
        )
