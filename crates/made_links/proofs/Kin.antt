-- The children of a new node, by the places of their least leaves: which there are, and that their ids differ.
use Rattle.std.proofs.Common.{◌≡◌, ℕ, ◌+◌, ◌-◌, ◌^◌, ◌<◌, ◌≤◌, Bool, true, false, cond, ◌&&◌, eqb, leb, ltb, List, [], ◌∷◌, length, map, get_or, None, sym, ◌∙◌, ap, subst, inl, inr, arith, eq-eqb}
use Rattle.std.specs.List.{All, AllByRecursion, filter, list_any, range_with_len}
use Rattle.std.proofs.lemmas.Bool.{and_from, and_parts, eqb-true, lt-ltb, ltb-true, leb-false, cases_lt, cond_both}
use Rattle.std.proofs.lemmas.List.{get_or-map, length-map}
use Rattle.std.proofs.lemmas.List.Elements.{recursion_from_All}
use Rattle.node_ids.specs.Ids.{segments}
use Rattle.node_ids.proofs.IdLemmas.{width_low}
use Rattle.op_model.specs.declared.base.Dataset.{Dataset}
use Rattle.op_model.specs.declared.base.Base.{Base}
use Rattle.op_model.specs.declared.entry.Entry.{Entry}
use Rattle.graph_model.specs.Lists.{has}
use Rattle.op_model.specs.Chunks.{chunk, top}
use Rattle.op_model.specs.Ingest.{spent_in}
use Rattle.op_model.specs.Labels.{Joined, component, is_new, label, node, used}
use Rattle.op_model.specs.Operations.{ascending}
use Rattle.op_model.specs.Valid.{IsAscending}
use Rattle.graph_model.proofs.ListLemmas.{filter_has, has_cases, has_none}
use Rattle.op_model.proofs.ChunkLemmas.{top_low}
use Rattle.op_model.proofs.CutLemmas.{find_none_at}
use Rattle.op_model.proofs.HistoryLemmas.{node_parts_of}
use Rattle.op_model.proofs.LabelLemmas.{joined_label, label_joined, label_used, new_same, same_component}
use Rattle.op_model.proofs.LegalLemmas.{all_has, ascending_has, map_has}
use Rattle.record_rows.specs.LogRows.{children_of}
use Rattle.record_rows.specs.Versions.{child_at}
use Rattle.record_rows.proofs.DifferLemmas.{Differ, all_both, all_filter, all_more, differ_filter, differ_more}
use Rattle.record_rows.proofs.LinkLemmas.{children_all, of_component}
use Rattle.record_rows.proofs.PrefixNodes.{layer_has}
use Rattle.record_rows.proofs.OnceLemmas.{all_has_self, ascending_lists}
use Rattle.components.proofs.Least.{has_below}
use Rattle.layer_laws.specs.Building.{at, least_leaf}
use Rattle.layer_laws.specs.Levels.{leaves}
use Rattle.layer_laws.proofs.BuildLemmas.{leaf_in, leaf_same, least_is, leaves_ascending, same_leaves_of}
use Rattle.layer_laws.proofs.OrderLemmas.{get_has}
use Rattle.layer_laws.proofs.PlaceLemmas.{at_one, index_at, index_of}
use Rattle.layer_laws.proofs.StepLemmas.{joined_known, leaves_above, leaves_iff, leaves_node, leaves_self, leaves_one}
use Rattle.octree_layers.proofs.Leaves.{range_in}
use Rattle.entry_parts.specs.declared.made.MadeNode.{MadeNode}
use Rattle.made_nodes.specs.declared.layers.MadeLayer.{MadeLayer}
use Rattle.made_links.specs.declared.finding.Child.{Child}
use Rattle.made_links.specs.Children.{IsChild, IsLinked, has_parent}
use Rattle.made_links.specs.Ranks.{AreRanks}
use Rattle.made_links.proofs.Below.{child_above, child_lowest}
use Rattle.made_links.proofs.Groups.{any_elim, any_with, numbers_up, range_differ}
use Rattle.made_links.proofs.Made.{all_unmap, differ_unmap, made_at, one_node}

children_into : (d : Dataset) (b : Base) (log : List Entry) (layer u : ℕ) (ls : List ℕ) → has ls u ≡ true → has (children_of d b log layer ls) (child_at d b log layer u) ≡ true
unfolding children_of child_at
children_into d b log layer u ls h = go (eqb layer 2)
  where
    go : (t : Bool) → has (cond t ls (ascending (map (node d b log (layer - 1)) ls))) (cond t u (node d b log (layer - 1) u)) ≡ true
    go true = h
    go false = ascending_has (map (node d b log (layer - 1)) ls) (node d b log (layer - 1) u) (map_has (node d b log (layer - 1)) ls u h)

-- where no chunk of a layer is spent, each has given only numbers that fit
room : (d : Dataset) (b : Base) (log : List Entry) (layer : ℕ) → spent_in d b log layer ≡ None → (x : ℕ) → has b.supervoxels x ≡ true → leb (segments d.layout layer) (used d b log layer (chunk d layer x)) ≡ false
unfolding spent_in
room d b log layer none x h =
    find_none_at (λ c. leb (segments d.layout layer) (used d b log layer c)) (ascending (map (chunk d layer) b.supervoxels)) (chunk d layer x) none (ascending_has (map (chunk d layer) b.supervoxels) (chunk d layer x) (map_has (chunk d layer) b.supervoxels x h))

children_up : (d : Dataset) (b : Base) (log : List Entry) (layer : ℕ) (ls : List ℕ) → IsAscending ls → IsAscending (children_of d b log layer ls)
unfolding children_of
children_up d b log layer ls up = cond_both (eqb layer 2) ls (ascending (map (node d b log (layer - 1)) ls)) IsAscending (λ e. up) (λ e. numbers_up (ascending (map (node d b log (layer - 1)) ls)) (ascending_lists (map (node d b log (layer - 1)) ls)))

module _ (d : Dataset) (b : Base) (log : List Entry) (e : Entry) (words : List ℕ) (prefix : ℕ) (ids : List ℕ) (layer : ℕ) (below_firsts : List ℕ) (below : MadeLayer) (firsts : List ℕ) (made : MadeLayer)
    (is : IsLinked d b log e words prefix ids layer below_firsts below firsts made) (two : 2 ≤ layer) (high : layer ≤ top d) where
  abbrev new : List Entry
  new = e ∷ log

  known_at : (i : ℕ) → i < length ids → has b.supervoxels (get_or ids i 0) ≡ true
  known_at i l = is.below_is.holds.known (get_or ids i 0) (get_has ids i l)

  low : layer < 2 ^ 8
  low = let t = top_low d in omega (arith, t, high)

  -- supervoxels of one node have one child of the layer in common
  same_child : (u v : ℕ) → has b.supervoxels u ≡ true → has (leaves d b (e ∷ log) (layer - 1) u) v ≡ true → child_at d b (e ∷ log) layer u ≡ child_at d b (e ∷ log) layer v
  unfolding node
  same_child u v hu h = elim (cases_lt 2 layer) [
    | inl l ↦ (
        let j = (leaves_iff d b is.below_is.image.dataset.layout (e ∷ log) (layer - 1) u v (omega (arith, l))).0 h in
        let k = joined_known d b is.below_is.image.dataset.layout (e ∷ log) (layer - 1) u v j in
        let q : label d b (e ∷ log) (layer - 1) u ≡ label d b (e ∷ log) (layer - 1) v = joined_label d b e log (layer - 1) u v k.0 k.1 k.2 j in
        child_above d b (e ∷ log) layer u l ∙ (ap (λ c. c + label d b (e ∷ log) (layer - 1) u) k.2 ∙ (ap (λ n. chunk d (layer - 1) v + n) q ∙ sym (child_above d b (e ∷ log) layer v l))))
    | inr m ↦ (
        let z : layer ≡ 2 = omega (arith, m, two) in
        let one : layer - 1 ≤ 1 = omega (arith, z) in
        let x : has (u ∷ []) v ≡ true = subst (λ ls. has ls v ≡ true) (leaves_one d b is.below_is.image.dataset.layout (e ∷ log) (layer - 1) u one) h in
        ap (child_at d b (e ∷ log) layer) (single u v x))
  ]
    where
      single : (u v : ℕ) → has (u ∷ []) v ≡ true → u ≡ v
      single u v x = elim (has_cases u [] v x) [ inl q ↦ q | inr g ↦ has_none v g ]

  -- where the ids below fit, different least leaves have different ids
  one_place : (2 < layer → spent_in d b (e ∷ log) (layer - 1) ≡ None) → (i j : ℕ) → i < length ids → j < length ids → get_or below_firsts i 0 ≡ i → get_or below_firsts j 0 ≡ j
      → child_at d b (e ∷ log) layer (get_or ids i 0) ≡ child_at d b (e ∷ log) layer (get_or ids j 0) → i ≡ j
  one_place fits i j li lj oi oj q = at_one ids i j is.below_is.holds.ascending li lj (elim (cases_lt 2 layer) [
    | inl l ↦ (
        let n = sym (child_above d b (e ∷ log) layer u l) ∙ (q ∙ child_above d b (e ∷ log) layer v l) in
        let p = node_parts_of d b (e ∷ log) (e ∷ log) (layer - 1) u v (width_low d.layout is.below_is.image.dataset.layout.3 (layer - 1)) (fit l u (known_at i li)) (fit l v (known_at j lj)) n in
        let w = label_joined d b e log (layer - 1) u v (known_at i li) (known_at j lj) p.0 p.1 in
        let h = (leaves_iff d b is.below_is.image.dataset.layout (e ∷ log) (layer - 1) u v (omega (arith, l))).1 w in
        leaf i li oi ∙ (leaf_same d b is.below_is.image.dataset.layout is.below_is.image.base.ascending (e ∷ log) (layer - 1) u v (known_at j lj) h ∙ sym (leaf j lj oj)))
    | inr m ↦ (let z : layer ≡ 2 = omega (arith, m, two) in sym (child_lowest d b (e ∷ log) layer u z) ∙ (q ∙ child_lowest d b (e ∷ log) layer v z))
  ])
    where
      u : ℕ
      u = get_or ids i 0

      v : ℕ
      v = get_or ids j 0

      leaf : (k : ℕ) → k < length ids → get_or below_firsts k 0 ≡ k → get_or ids k 0 ≡ least_leaf d b (e ∷ log) (layer - 1) (get_or ids k 0)
      leaf k l o = ap (λ x. get_or ids x 0) (sym o) ∙ is.below_is.firsts_of.leaf k l

      fit : 2 < layer → (x : ℕ) → has b.supervoxels x ≡ true → label d b (e ∷ log) (layer - 1) x < segments d.layout (layer - 1)
      fit l x h =
          let n = leb-false _ _ (room d b (e ∷ log) (layer - 1) (fits l) x h) in
          let k = label_used d b (e ∷ log) (layer - 1) x h in
          omega (arith, n, k)

  module _ (ranks : List ℕ) (ranked : AreRanks (length ids) made.leasts.items ranks) (all : List Child)
      (leasts : map (λ (c : Child). c.least) all ≡ filter (has_parent below_firsts firsts ranks) (range_with_len 0 (length ids)))
      (parents : All (λ (c : Child). c.parent ≡ get_or ranks (get_or firsts c.least 0) 0) all) (are : All (IsChild d b log e layer ids below) all) where
    -- what is known of each child
    pub record Fact (c : Child) : Type 0 where
      pub within : c.least < length ids
      pub own : get_or below_firsts c.least 0 ≡ c.least
      pub some : 0 < get_or ranks (get_or firsts c.least 0) 0
      pub parent : c.parent ≡ get_or ranks (get_or firsts c.least 0) 0
      pub child : IsChild d b log e layer ids below c

    pub facts : AllByRecursion Fact all
    facts =
        let t : ℕ → Bool = has_parent below_firsts firsts ranks in
        let places : AllByRecursion (λ (c : Child). (has (range_with_len 0 (length ids)) c.least ≡ true) × (has_parent below_firsts firsts ranks c.least ≡ true)) all =
        all_unmap (λ (c : Child). c.least) (λ i. (has (range_with_len 0 (length ids)) i ≡ true) × (has_parent below_firsts firsts ranks i ≡ true)) all
        (subst (AllByRecursion (λ i. (has (range_with_len 0 (length ids)) i ≡ true) × (has_parent below_firsts firsts ranks i ≡ true))) (sym leasts)
        (all_filter (has_parent below_firsts firsts ranks) (λ i. has (range_with_len 0 (length ids)) i ≡ true) (range_with_len 0 (length ids)) (all_has_self (range_with_len 0 (length ids))))) in
        all_more
        (λ (c : Child). ((has (range_with_len 0 (length ids)) c.least ≡ true) × (has_parent below_firsts firsts ranks c.least ≡ true)) × ((c.parent ≡ get_or ranks (get_or firsts c.least 0) 0) × IsChild d b log e layer ids below c))
        Fact all
        (λ c p.
        let q = and_parts (eqb (get_or below_firsts c.least 0) c.least) (ltb 0 (get_or ranks (get_or firsts c.least 0) 0)) p.0.1 in
        let l = range_in 0 (length ids) c.least p.0.0 in
        record { within = omega (arith, l); own = eqb-true _ _ q.0; some = ltb-true 0 _ q.1; parent = p.1.0; child = p.1.1 })
        (all_both _ _ all places (all_both _ _ all (recursion_from_All (λ (c : Child). c.parent ≡ get_or ranks (get_or firsts c.least 0) 0) all parents) (recursion_from_All (IsChild d b log e layer ids below) all are)))

    -- the new node whose least leaf the child's own leads to
    lead : (c : Child) → Fact c → (get_or firsts c.least 0 < length ids) × (has made.leasts.items (get_or firsts c.least 0) ≡ true)
    lead c f =
        let l = is.firsts_of.small c.least f.within in
        (l, ranked.only (get_or firsts c.least 0) l f.some)

    pub parent_low : (c : Child) → Fact c → (0 < c.parent) × (c.parent ≤ length made.leasts.items)
    parent_low c f =
        let t = ranked.there (get_or firsts c.least 0) (lead c f).1 in
        let some = t.0 in
        let most = t.1 in
        let p = f.parent in
        (omega (arith, some, p), omega (arith, most, p))

    pub ids_differ : (2 < layer → spent_in d b (e ∷ log) (layer - 1) ≡ None) → Differ (λ (c o : Child). c.id ≡ o.id → ⊥) all
    ids_differ fits =
        differ_more Fact (λ (c o : Child). c.least < o.least) (λ (c o : Child). c.id ≡ o.id → ⊥) all
        (λ c o f g l q. absurd (let z = one_place fits c.least o.least f.within g.within f.own g.own (sym f.child.named ∙ (q ∙ g.child.named)) in omega (arith, z, l)))
        facts
        (differ_unmap (λ (c : Child). c.least) (λ i j. i < j) all (subst (Differ (λ i j. i < j)) (sym leasts) (differ_filter (has_parent below_firsts firsts ranks) (λ i j. i < j) (range_with_len 0 (length ids)) (range_differ 0 (length ids)))))

    module _ (r : ℕ) (m : MadeNode) (lr : r < length made.nodes.items) where
      x : ℕ
      x = (get_or made.nodes.items r m).least

      many : length made.leasts.items ≡ length made.nodes.items
      many = sym (length-map made.leasts.items (at ids)) ∙ (ap length is.made_leasts ∙ length-map made.nodes.items (λ (m : MadeNode). m.least))

      least_of : (s : ℕ) → s < length made.nodes.items → get_or ids (get_or made.leasts.items s 0) 0 ≡ (get_or made.nodes.items s m).least
      least_of s l =
          sym (get_or-map (at ids) made.leasts.items s 0 0 (omega (arith, many, l)))
          ∙ (ap (λ xs. get_or xs s 0) is.made_leasts ∙ get_or-map (λ (m : MadeNode). m.least) made.nodes.items s m 0 l)

      x_known : has b.supervoxels (get_or made.nodes.items r m).least ≡ true
      x_known = (made_at d b is.below_is.image.dataset is.below_is.image.base log e layer made.nodes.items is.made_are r m lr).known

      x_own : least_leaf d b (e ∷ log) layer (get_or made.nodes.items r m).least ≡ (get_or made.nodes.items r m).least
      x_own =
          sym (least_is d b is.below_is.image.dataset.layout is.below_is.image.base.ascending (e ∷ log) layer (get_or made.nodes.items r m).least two)
          ∙ (made_at d b is.below_is.image.dataset is.below_is.image.base log e layer made.nodes.items is.made_are r m lr).own

      abbrev passes : ℕ → Child → Bool
      passes id c = eqb c.parent (r + 1) && eqb c.id id

      -- a child with this parent is one of the node's
      pub into : (id : ℕ) → list_any (passes id) all ≡ true → has (children_of d b (e ∷ log) layer (component d b (e ∷ log) layer (get_or made.nodes.items r m).least)) id ≡ true
      into id h =
          let a = any_elim Fact (passes id) all facts h in
          let c = a.0 in
          let f = a.1 in
          let q = and_parts (eqb c.parent (r + 1)) (eqb c.id id) a.2 in
          let u : ℕ = get_or ids c.least 0 in
          let t = ranked.there (get_or firsts c.least 0) (lead c f).1 in
          let p : get_or ranks (get_or firsts c.least 0) 0 - 1 ≡ r = let e1 = f.parent in let e2 : c.parent ≡ r + 1 = eqb-true _ _ q.0 in omega (arith, e1, e2) in
          let to : get_or ids (get_or firsts c.least 0) 0 ≡ (get_or made.nodes.items r m).least =
          ap (λ k. get_or ids k 0) (sym t.2 ∙ ap (λ k. get_or made.leasts.items k 0) p) ∙ least_of r lr in
          let leaf : (get_or made.nodes.items r m).least ≡ least_leaf d b (e ∷ log) layer u = sym to ∙ is.firsts_of.leaf c.least f.within in
          let hu = known_at c.least f.within in
          let g : has (leaves d b (e ∷ log) layer u) (get_or made.nodes.items r m).least ≡ true =
          subst (λ y. has (leaves d b (e ∷ log) layer u) y ≡ true) (sym leaf) (leaf_in d b is.below_is.image.dataset.layout is.below_is.image.base.ascending (e ∷ log) layer u hu) in
          let mine : has (leaves d b (e ∷ log) layer (get_or made.nodes.items r m).least) u ≡ true =
          subst (λ ls. has ls u ≡ true) (same_leaves_of d b is.below_is.image.dataset.layout is.below_is.image.base.ascending (e ∷ log) layer u (get_or made.nodes.items r m).least g)
          (leaves_self d b is.below_is.image.dataset.layout (e ∷ log) layer u hu) in
          let inside : has (component d b (e ∷ log) layer (get_or made.nodes.items r m).least) u ≡ true =
          subst (λ ls. has ls u ≡ true) (leaves_node d b is.below_is.image.dataset.layout (e ∷ log) layer (get_or made.nodes.items r m).least two) mine in
          subst (λ y. has (children_of d b (e ∷ log) layer (component d b (e ∷ log) layer (get_or made.nodes.items r m).least)) y ≡ true) (sym f.child.named ∙ eqb-true c.id id q.1)
          (children_into d b (e ∷ log) layer u (component d b (e ∷ log) layer (get_or made.nodes.items r m).least) inside)

      -- each leaf of the node has a child among them
      leaf_from : (u : ℕ) → has (component d b (e ∷ log) layer (get_or made.nodes.items r m).least) u ≡ true → list_any (passes (child_at d b (e ∷ log) layer u)) all ≡ true
      leaf_from u h =
          let hu = (of_component d b is.below_is.image.dataset is.below_is.image.base (e ∷ log) layer (get_or made.nodes.items r m).least u h).0 in
          let mine = of_component d b is.below_is.image.dataset is.below_is.image.base (e ∷ log) layer (get_or made.nodes.items r m).least u h in
          let fresh : is_new d b (e ∷ log) layer u ≡ true =
          sym (new_same d b (e ∷ log) layer (get_or made.nodes.items r m).least u (same_component d b (e ∷ log) layer (get_or made.nodes.items r m).least u mine.1 mine.2))
          ∙ (made_at d b is.below_is.image.dataset is.below_is.image.base log e layer made.nodes.items is.made_are r m lr).new in
          let y : ℕ = least_leaf d b (e ∷ log) (layer - 1) u in
          let iy : has ids y ≡ true = is.below_is.holds.children u hu fresh in
          let k = index_at ids y iy in
          let i : ℕ = index_of ids y in
          let li : i < length ids = k.0 in
          let leaf : get_or ids i 0 ≡ least_leaf d b (e ∷ log) (layer - 1) u = k.1 in
          let hi = known_at i li in
          let under : has (leaves d b (e ∷ log) (layer - 1) u) (get_or ids i 0) ≡ true =
          subst (λ y. has (leaves d b (e ∷ log) (layer - 1) u) y ≡ true) (sym leaf) (leaf_in d b is.below_is.image.dataset.layout is.below_is.image.base.ascending (e ∷ log) (layer - 1) u hu) in
          let own : get_or below_firsts i 0 ≡ i =
          at_one ids (get_or below_firsts i 0) i is.below_is.holds.ascending (is.below_is.firsts_of.small i li) li
          (is.below_is.firsts_of.leaf i li ∙ (sym (leaf_same d b is.below_is.image.dataset.layout is.below_is.image.base.ascending (e ∷ log) (layer - 1) u (get_or ids i 0) hi under) ∙ sym leaf)) in
          let joined : Joined d b (e ∷ log) layer u (get_or ids i 0) = leaves_above d b is.below_is.image.dataset.layout (e ∷ log) layer u (get_or ids i 0) two low hu under in
          let over : has (leaves d b (e ∷ log) layer u) (get_or ids i 0) ≡ true = (leaves_iff d b is.below_is.image.dataset.layout (e ∷ log) layer u (get_or ids i 0) two).1 joined in
          let x_over : has (leaves d b (e ∷ log) layer (get_or made.nodes.items r m).least) u ≡ true =
          subst (λ ls. has ls u ≡ true) (sym (leaves_node d b is.below_is.image.dataset.layout (e ∷ log) layer (get_or made.nodes.items r m).least two)) h in
          let top_leaf : least_leaf d b (e ∷ log) layer (get_or ids i 0) ≡ (get_or made.nodes.items r m).least =
          sym (leaf_same d b is.below_is.image.dataset.layout is.below_is.image.base.ascending (e ∷ log) layer u (get_or ids i 0) hi over)
          ∙ (sym (leaf_same d b is.below_is.image.dataset.layout is.below_is.image.base.ascending (e ∷ log) layer (get_or made.nodes.items r m).least u hu x_over) ∙ x_own) in
          let f : ℕ = get_or firsts i 0 in
          let lf : f < length ids = is.firsts_of.small i li in
          let same : f ≡ get_or made.leasts.items r 0 =
          at_one ids f (get_or made.leasts.items r 0) is.below_is.holds.ascending lf (is.made_places r 0 (omega (arith, many, lr))) (is.firsts_of.leaf i li ∙ (top_leaf ∙ sym (least_of r lr))) in
          let hf : has made.leasts.items f ≡ true = subst (λ y. has made.leasts.items y ≡ true) (sym same) (get_has made.leasts.items r (omega (arith, many, lr))) in
          let t = ranked.there f hf in
          let some = t.0 in
          let most = t.1 in
          let lk : get_or ranks f 0 - 1 < length made.nodes.items = omega (arith, some, most, many) in
          let rank : get_or ranks f 0 - 1 ≡ r =
          one_node d b is.below_is.image.dataset is.below_is.image.base log e layer made.nodes.items is.made_are (layer_has d layer two high) (get_or ranks f 0 - 1) r m lk lr
          (sym (least_of (get_or ranks f 0 - 1) lk) ∙ (ap (λ y. get_or ids y 0) (t.2 ∙ same) ∙ least_of r lr)) in
          let parent : get_or ranks f 0 ≡ r + 1 = omega (arith, rank, some) in
          let there : has (map (λ (c : Child). c.least) all) i ≡ true =
          subst (λ xs. has xs i ≡ true) (sym leasts)
          (filter_has (has_parent below_firsts firsts ranks) (range_with_len 0 (length ids)) i (has_below (length ids) i li) (and_from _ _ (eq-eqb _ _ own) (lt-ltb 0 (get_or ranks f 0) some))) in
          any_with (λ (c : Child). c.least) (passes (child_at d b (e ∷ log) layer u)) i all
          (all_more Fact (λ (c : Child). c.least ≡ i → passes (child_at d b (e ∷ log) layer u) c ≡ true) all
          (λ c g q.
          and_from _ _ (eq-eqb _ _ (g.parent ∙ (ap (λ y. get_or ranks (get_or firsts y 0) 0) q ∙ parent)))
          (eq-eqb _ _ (g.child.named ∙ (ap (λ y. child_at d b (e ∷ log) layer (get_or ids y 0)) q ∙ sym (same_child u (get_or ids i 0) hu under)))))
          facts)
          there

      pub from : (id : ℕ) → has (children_of d b (e ∷ log) layer (component d b (e ∷ log) layer (get_or made.nodes.items r m).least)) id ≡ true → list_any (passes id) all ≡ true
      from id h =
          let c = all_has (λ c. (u : ℕ) × (has (component d b (e ∷ log) layer (get_or made.nodes.items r m).least) u ≡ true) × (c ≡ child_at d b (e ∷ log) layer u))
          (children_of d b (e ∷ log) layer (component d b (e ∷ log) layer (get_or made.nodes.items r m).least)) id
          (children_all d b is.below_is.image.dataset is.below_is.image.base (e ∷ log) layer (component d b (e ∷ log) layer (get_or made.nodes.items r m).least)) h in
          subst (λ y. list_any (passes y) all ≡ true) (sym c.2) (leaf_from c.0 c.1)

      pub up : IsAscending (children_of d b (e ∷ log) layer (component d b (e ∷ log) layer (get_or made.nodes.items r m).least))
      up =
          children_up d b (e ∷ log) layer (component d b (e ∷ log) layer (get_or made.nodes.items r m).least)
          (subst IsAscending (leaves_node d b is.below_is.image.dataset.layout (e ∷ log) layer (get_or made.nodes.items r m).least two)
          (leaves_ascending d b is.below_is.image.dataset.layout is.below_is.image.base.ascending (e ∷ log) layer (get_or made.nodes.items r m).least))
