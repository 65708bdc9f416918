-- The links of a layer by places are those of its nodes in the records.
use Rattle.std.proofs.Common.{◌≡◌, ℕ, zero, suc, ◌+◌, ◌<◌, ◌≤◌, true, eqb, List, [], ◌∷◌, ◌++◌, length, map, get_or, refl, sym, ◌∙◌, ap, inl, inr, arith, eq-eqb}
use Rattle.std.specs.List.{AllByRecursion, All, filter, flat_map, range_with_len}
use Rattle.std.proofs.lemmas.List.{map-append, length-map, get_or-map}
use Rattle.std.proofs.lemmas.List.Elements.{All-from_recursion}
use Rattle.std.proofs.lemmas.List.Sorted.{All-permutation}
use Rattle.std.proofs.lemmas.Bool.{eqb-true, or_left, or_right, cases_eq}
use Rattle.op_model.specs.declared.base.Dataset.{Dataset}
use Rattle.op_model.specs.declared.base.Base.{Base}
use Rattle.graph_model.specs.Lists.{has}
use Rattle.graph_model.proofs.ListLemmas.{same_bool, has_head, has_tail, filter_same, filter_only}
use Rattle.op_model.specs.Labels.{node}
use Rattle.record_rows.specs.Rows.{Link}
use Rattle.record_rows.specs.LogRows.{children_of, links_of, layer_nodes}
use Rattle.record_rows.proofs.DifferLemmas.{Differ, all_map, all_more}
use Rattle.record_rows.proofs.OnceLemmas.{all_has_self}
use Rattle.base_rows.specs.declared.lists.BaseLink.{BaseLink}
use Rattle.base_rows.specs.Lists.{IsWithin, link_of}
use Rattle.layer_laws.proofs.PlaceLemmas.{at_one}
use Rattle.op_model.specs.Ingest.{ingested}
use Rattle.octree_layers.specs.declared.numbering.Made.{Made}
use Rattle.octree_layers.specs.declared.layers.Layer.{Layer}
use Rattle.octree_layers.specs.Numbers.{leaves_at, node_of}
use Rattle.octree_layers.specs.Layers.{IsLayer}
use Rattle.hierarchy_build.specs.Links.{AreLayerLinks, child_link, child_links}
use Rattle.octree_layers.proofs.Grouping.{grouped, map_flat}
use Rattle.octree_layers.proofs.Leaves.{filter_of_map, map_twice, whole, range_in}
use Rattle.octree_layers.proofs.Steps.{range_more}

pub range_step : {Y : Type 0} (f : ℕ → Y) (n : ℕ) (done more : List Y) (y : Y) → done ≡ map f (range_with_len 0 n) → more ≡ done ++ y ∷ [] → y ≡ f n → more ≡ map f (range_with_len 0 (n + 1))
range_step f n done more y e m q =
    m ∙ (ap (λ ys. ys ++ y ∷ []) e ∙ (ap (λ x. map f (range_with_len 0 n) ++ x ∷ []) q ∙ (sym (map-append f (range_with_len 0 n) (n ∷ [])) ∙ ap (map f) (sym (range_more n)))))

range_above : (k a n : ℕ) → k < a → AllByRecursion (λ x. k < x) (range_with_len a n)
range_above k a zero l = tt
range_above k a (suc n) l = (l, range_above k (a + 1) n (omega arith))

range_differ : (a n : ℕ) → Differ (λ x y. x < y) (range_with_len a n)
range_differ a zero = tt
range_differ a (suc n) = (range_above a (a + 1) n (omega arith), range_differ (a + 1) n)

range_has : (a n i : ℕ) → a ≤ i → i < a + n → has (range_with_len a n) i ≡ true
range_has a zero i l m = absurd (omega arith)
range_has a (suc n) i l m = elim (cases_eq a i) [
  | inl e ↦ or_left (eqb a i) _ (eq-eqb a i e)
  | inr f ↦ or_right (eqb a i) _ (range_has (a + 1) n i (omega (arith, f)) (omega arith))
]

map_has_same : {Y : Type 0} (f g : ℕ → Y) (xs : List ℕ) → ((x : ℕ) → has xs x ≡ true → f x ≡ g x) → map f xs ≡ map g xs
map_has_same f g [] e = refl
map_has_same f g (x ∷ xs) e = ap (λ y. y ∷ map f xs) (e x (has_head x xs)) ∙ ap (λ ys. g x ∷ ys) (map_has_same f g xs (λ y h. e y (has_tail x xs y h)))

pub map_all_same : {X Y : Type 0} (f g : X → Y) (xs : List X) → AllByRecursion (λ x. f x ≡ g x) xs → map f xs ≡ map g xs
map_all_same f g [] e = refl
map_all_same f g (x ∷ xs) e = ap (λ y. y ∷ map f xs) e.0 ∙ ap (λ ys. g x ∷ ys) (map_all_same f g xs e.1)

flat_of_map : {X Y Z : Type 0} (g : Y → List Z) (f : X → Y) (xs : List X) → flat_map (λ x. g (f x)) xs ≡ flat_map g (map f xs)
flat_of_map g f [] = refl
flat_of_map g f (x ∷ xs) = ap (λ ys. g (f x) ++ ys) (flat_of_map g f xs)

flat_range : {X Y : Type 0} (g : ℕ → List Y) (f : X → List Y) (xs : List X) (a : ℕ) → ((i : ℕ) (d : X) → i < length xs → g (a + i) ≡ f (get_or xs i d)) → flat_map g (range_with_len a (length xs)) ≡ flat_map f xs
flat_range g f [] a e = refl
flat_range g f (x ∷ xs) a e =
    let z : a + 0 ≡ a = omega arith in
    ap (λ ys. ys ++ flat_map g (range_with_len (a + 1) (length xs))) (sym (ap g z) ∙ e 0 x (omega arith))
    ∙ ap (λ ys. f x ++ ys) (flat_range g f xs (a + 1) (λ i d l. let s : a + 1 + i ≡ a + suc i = omega arith in ap g s ∙ e (suc i) d (omega arith)))

module _ (d : Dataset) (b : Base) (now layer : ℕ) (l : Layer) (is : IsLayer d b (ingested d b now) layer l) (leads : List ℕ) (name : ℕ → ℕ) (first_child first_parent : ℕ) (owners nodes : List ℕ)
    (named : (j : ℕ) → j < length leads → get_or owners (first_child + j) 0 ≡ name (get_or leads j 0)) (low : (j : ℕ) → j < length leads → get_or leads j 0 < length b.supervoxels)
    (kids : All (λ m. children_of d b (ingested d b now) layer (leaves_at b l.firsts.items m.least) ≡ map name (filter (λ i. eqb (get_or l.firsts.items i 0) m.least) leads)) l.made.items)
    (own : (i : ℕ) (e : Made) → i < length l.made.items → get_or nodes (first_parent + i) 0 ≡ (get_or l.made.items i e).id) (here : List BaseLink) (are : AreLayerLinks first_child first_parent leads l here) where
  leasts : List ℕ
  leasts = map (λ (m : Made). m.least) l.made.items

  -- the least leaf of the parent of a child
  key : ℕ → ℕ
  key j = get_or l.firsts.items (get_or leads j 0) 0

  rank : ℕ → ℕ
  rank j = get_or are.ranks (key j) 0

  link : ℕ → BaseLink
  link = child_link first_child first_parent leads l.firsts.items are.ranks

  all : List ℕ
  all = range_with_len 0 (length leads)

  nobody : Made
  nobody = record { id = 0; chunk = 0; least = 0 }

  as_many : length leasts ≡ length l.made.items
  unfolding leasts
  as_many = length-map l.made.items (λ (m : Made). m.least)

  ranked : (j : ℕ) → j < length leads → (rank j < length l.made.items) × (get_or leasts (rank j) 0 ≡ key j)
  unfolding rank key leasts
  ranked j n =
      let r = are.are_ranks.there (key j) (is.each (get_or leads j 0) (low j n)) in
      let s = r.0 in
      (omega (arith, s, as_many), r.1)

  least_at : (i : ℕ) (e : Made) → i < length l.made.items → get_or leasts i 0 ≡ (get_or l.made.items i e).least
  unfolding leasts
  least_at i e n = get_or-map (λ (m : Made). m.least) l.made.items i e 0 n

  id_at : (i : ℕ) → i < length l.made.items → get_or (map (λ (m : Made). m.id) l.made.items) i 0 ≡ node d b (ingested d b now) layer (get_or b.supervoxels (get_or leasts i 0) 0)
  id_at i n =
      get_or-map (λ (m : Made). m.id) l.made.items i nobody 0 n
      ∙ (is.ids i nobody n ∙ ap (λ p. node d b (ingested d b now) layer (get_or b.supervoxels p 0)) (sym (least_at i nobody n)))

  one_rank : (i k : ℕ) → i < length l.made.items → k < length l.made.items → get_or leasts i 0 ≡ get_or leasts k 0 → i ≡ k
  one_rank i k n m e =
      let s = length-map l.made.items (λ (x : Made). x.id) in
      at_one (map (λ (x : Made). x.id) l.made.items) i k is.ascending (omega (arith, s)) (omega (arith, s))
      (id_at i n ∙ (ap (λ p. node d b (ingested d b now) layer (get_or b.supervoxels p 0)) e ∙ sym (id_at k m)))

  place_low : (j : ℕ) → has all j ≡ true → j < length leads
  unfolding all
  place_low j h = let r = range_in 0 (length leads) j h in omega (arith, r)

  -- the children of the i-th node
  picked : (i : ℕ) → i < length l.made.items → filter (λ x. eqb x.parent (first_parent + i)) here ≡ map link (filter (λ j. eqb (key j) (get_or leasts i 0)) all)
  unfolding child_links link all rank key
  picked i n =
      are.by_parent.same (first_parent + i)
      ∙ (filter_of_map (λ (x : BaseLink). eqb x.parent (first_parent + i)) link all
      ∙ ap (map link) (filter_same (λ j. eqb (first_parent + rank j) (first_parent + i)) (λ j. eqb (key j) (get_or leasts i 0)) all
      (λ j h. let r = ranked j (place_low j h) in
      same_bool _ _
      (λ e. eq-eqb _ _ (sym r.1 ∙ ap (λ k. get_or leasts k 0) (let q = eqb-true _ _ e in omega (arith, q))))
      (λ e. eq-eqb _ _ (ap (λ k. first_parent + k) (one_rank (rank j) i r.0 n (r.1 ∙ eqb-true _ _ e)))))))

  module _ (i : ℕ) (e : Made) (n : i < length l.made.items) where
    to : ℕ → Link
    to c = record { child = c; parent = (get_or l.made.items i e).id; entry = 0 }

    linked_at : (j : ℕ) → has (filter (λ j. eqb (key j) (get_or leasts i 0)) all) j ≡ true → link_of owners nodes (link j) ≡ to (name (get_or leads j 0))
    unfolding link to rank key
    linked_at j h =
        let p = filter_only (λ j. eqb (key j) (get_or leasts i 0)) all j h in
        let m = place_low j p.0 in
        let r = ranked j m in
        let same : rank j ≡ i = one_rank (rank j) i r.0 n (r.1 ∙ eqb-true _ _ p.1) in
        let child : get_or owners (first_child + j) 0 ≡ name (get_or leads j 0) = named j m in
        let parent : get_or nodes (first_parent + rank j) 0 ≡ (get_or l.made.items i e).id = ap (λ k. get_or nodes (first_parent + k) 0) same ∙ own i e n in
        λ x. record { child = child x; parent = parent x; entry = 0 }

    names : map (λ j. name (get_or leads j 0)) (filter (λ j. eqb (key j) (get_or leasts i 0)) all) ≡ children_of d b (ingested d b now) layer (leaves_at b l.firsts.items (get_or l.made.items i e).least)
    unfolding key all
    names =
        sym (map_twice name (λ j. get_or leads j 0) (filter (λ j. eqb (key j) (get_or leasts i 0)) all))
        ∙ (ap (map name) (sym (filter_of_map (λ p. eqb (get_or l.firsts.items p 0) (get_or leasts i 0)) (λ j. get_or leads j 0) all)
        ∙ (ap (filter (λ p. eqb (get_or l.firsts.items p 0) (get_or leasts i 0))) (whole leads) ∙ ap (λ q. filter (λ p. eqb (get_or l.firsts.items p 0) q) leads) (least_at i e n)))
        ∙ sym (kids i e n))

    told : map (link_of owners nodes) (filter (λ x. eqb x.parent (first_parent + i)) here) ≡ links_of d b (ingested d b now) layer (node_of b l.firsts.items (get_or l.made.items i e))
    unfolding links_of to
    told =
        let own_places : List ℕ = filter (λ j. eqb (key j) (get_or leasts i 0)) all in
        ap (map (link_of owners nodes)) (picked i n)
        ∙ (map_twice (link_of owners nodes) link own_places
        ∙ (map_has_same (λ j. link_of owners nodes (link j)) (λ j. to (name (get_or leads j 0))) own_places linked_at
        ∙ (sym (map_twice to (λ j. name (get_or leads j 0)) own_places) ∙ ap (map to) names)))

  each_link : (P : BaseLink → Type 0) → ((j : ℕ) → j < length leads → P (link j)) → All P here
  unfolding child_links link all
  each_link P f =
      All-permutation P (map link all) here are.by_parent.moved
      (All-from_recursion P (map link all) (all_map link P all (all_more (λ j. has all j ≡ true) (λ j. P (link j)) all (λ j h. f j (place_low j h)) (all_has_self all))))

  pub layer_linked : map (link_of owners nodes) here ≡ flat_map (links_of d b (ingested d b now) layer) (layer_nodes d b (ingested d b now) 0 layer)
  unfolding link rank key
  layer_linked =
      let parents : List ℕ = range_with_len first_parent (length l.made.items) in
      let part : ℕ → List BaseLink = λ p. filter (λ (x : BaseLink). eqb x.parent p) here in
      let known : All (λ (x : BaseLink). has parents x.parent ≡ true) here =
      each_link (λ x. has parents x.parent ≡ true) (λ j n. let r = (ranked j n).0 in range_has first_parent (length l.made.items) (first_parent + rank j) (omega arith) (omega (arith, r))) in
      ap (map (link_of owners nodes)) (sym (grouped (λ (x : BaseLink). x.parent) parents (range_differ first_parent (length l.made.items)) here are.by_parent.rising known))
      ∙ (map_flat (link_of owners nodes) part parents
      ∙ (flat_range (λ p. map (link_of owners nodes) (part p)) (λ m. links_of d b (ingested d b now) layer (node_of b l.firsts.items m)) l.made.items first_parent told
      ∙ (flat_of_map (links_of d b (ingested d b now) layer) (node_of b l.firsts.items) l.made.items ∙ ap (flat_map (links_of d b (ingested d b now) layer)) is.nodes)))

  pub layer_within : first_child + length leads ≤ length owners → first_parent + length l.made.items ≤ length nodes → All (IsWithin owners nodes) here
  unfolding link rank key
  layer_within children parents = each_link (IsWithin owners nodes) (λ j n. let r = (ranked j n).0 in (omega (arith, children), omega (arith, parents, r)))
