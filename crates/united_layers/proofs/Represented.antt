-- What representatives and their pairs tell of the nodes after an entry that only makes pairs active.
use Rattle.std.proofs.Common.{◌≡◌, ◌∙◌, ℕ, zero, suc, ◌+◌, ◌-◌, ◌^◌, ◌<◌, ◌≤◌, Bool, true, false, ◌||◌, List, ◌∷◌, length, get_or, refl, sym, ap, subst, inl, inr, ◌⊎◌, arith, IsTrue}
use Rattle.std.specs.List.{range_with_len}
use Rattle.std.proofs.lemmas.Bool.{and_parts, cases_lt, leb-true, or_cases}
use Rattle.std.proofs.lemmas.List.FromFn.{length-range_with_len, get_or-range_with_len}
use Rattle.graph_model.specs.Lists.{has, head_or}
use Rattle.graph_model.specs.Components.{Joined as JoinedBy}
use Rattle.graph_model.proofs.Components.{Joined_one, Joined_sym, Joined_trans}
use Rattle.op_model.specs.declared.base.Dataset.{Dataset}
use Rattle.op_model.specs.declared.base.Base.{Base}
use Rattle.op_model.specs.declared.entry.Entry.{Entry}
use Rattle.op_model.specs.Chunks.{top}
use Rattle.op_model.specs.Labels.{component, is_empty, is_new, touches, Joined}
use Rattle.op_model.specs.Valid.{IsBase, IsDataset}
use Rattle.op_model.proofs.ChunkLemmas.{top_low}
use Rattle.components.specs.Joining.{meet, AreLeastMembers}
use Rattle.components.proofs.Least.{has_below, meet_back}
use Rattle.layer_laws.specs.Building.{least_leaf}
use Rattle.layer_laws.specs.Levels.{leaves, level}
use Rattle.layer_laws.proofs.BuildLemmas.{leaf_in, leaf_least, leaf_same, same_leaves_of}
use Rattle.layer_laws.proofs.NumberLemmas.{met}
use Rattle.layer_laws.proofs.OrderLemmas.{get_has}
use Rattle.layer_laws.proofs.PlaceLemmas.{at_one, at_order, index_at, index_of}
use Rattle.layer_laws.proofs.RemakeLemmas.{same_leaves, told_before}
use Rattle.layer_laws.proofs.RiseLemmas.{joins_cases}
use Rattle.layer_laws.proofs.StepLemmas.{along, Joined_cons, joined_known, joined_self, joined_sym, joined_trans, leaves_above, leaves_alone, leaves_iff, leaves_node, leaves_one, leaves_self}
use Rattle.entry_parts.specs.Parts.{AreFirstsOf}
use Rattle.child_counts.specs.Counting.{HoldsChildren}
use Rattle.unite_laws.specs.Uniting.{HaveState, is_changed, unites}
use Rattle.unite_laws.proofs.UniteLemmas.{below_has, find_changed, pair_level, stays, unite_iff}
use Rattle.united_layers.specs.Representing.{AreRepresentatives, JoinRepresentatives}

module _ (d : Dataset) (b : Base) (valid : IsDataset d) (base : IsBase d b) (e : Entry) (log : List Entry) (on : HaveState true e.changed) (ids : List ℕ)
    (are : AreRepresentatives d b e.changed log ids) where
  abbrev new : List Entry
  new = e ∷ log

  known_at : (i : ℕ) → i < length ids → has b.supervoxels (get_or ids i 0) ≡ true
  known_at i l = are.known (get_or ids i 0) (get_has ids i l)

  -- of a node that no changed pair touches one leaf alone is a representative
  alone : (l x y : ℕ) → 1 ≤ l → l ≤ top d → has ids x ≡ true → has ids y ≡ true → has (leaves d b log l x) y ≡ true → touches e.changed (leaves d b log l x) ≡ false → x ≡ y
  alone l x y one high hx hy h t =
      let same = same_leaves_of d b valid.layout base.ascending log l x y h in
      sym (are.own x hx l one high t)
      ∙ (leaf_same d b valid.layout base.ascending log l x y (are.known y hy) h
      ∙ are.own y hy l one high (ap (touches e.changed) (sym same) ∙ t))

  -- the least leaf of a new node was that of its child below
  pub touched_least : (l v : ℕ) → 2 ≤ l → l ≤ top d → has b.supervoxels v ≡ true → touches e.changed (leaves d b log l v) ≡ true → has ids (least_leaf d b (e ∷ log) l v) ≡ true
  touched_least l v two high hv t =
      let m : ℕ = least_leaf d b (e ∷ log) l v in
      let low : l < 2 ^ 8 = let q = top_low d in omega (arith, q, high) in
      let in_v : has (leaves d b (e ∷ log) l v) m ≡ true = leaf_in d b valid.layout base.ascending (e ∷ log) l v hv in
      let hm : has b.supervoxels m ≡ true = (joined_known d b valid.layout (e ∷ log) l v m ((leaves_iff d b valid.layout (e ∷ log) l v m two).0 in_v)).1 in
      let same : leaves d b (e ∷ log) l v ≡ leaves d b (e ∷ log) l m = same_leaves_of d b valid.layout base.ascending (e ∷ log) l v m in_v in
      let tm : touches e.changed (leaves d b log l m) ≡ true =
      sym (told_before d b valid.layout e log l m hm) ∙ (ap (touches e.changed) (sym same) ∙ (told_before d b valid.layout e log l v hv ∙ t)) in
      let y : ℕ = least_leaf d b log (l - 1) m in
      let in_m : has (leaves d b log (l - 1) m) y ≡ true = leaf_in d b valid.layout base.ascending log (l - 1) m hm in
      let up : Joined d b log l m y = leaves_above d b valid.layout log l m y two low hm in_m in
      let over : has (leaves d b (e ∷ log) l m) y ≡ true = (leaves_iff d b valid.layout (e ∷ log) l m y two).1 (stays d b valid.layout e log on l m y up) in
      let high_y : m ≤ y = leaf_least d b valid.layout base.ascending (e ∷ log) l v y (subst (λ ls. has ls y ≡ true) (sym same) over) in
      let low_y : y ≤ m = leaf_least d b valid.layout base.ascending log (l - 1) m m (leaves_self d b valid.layout log (l - 1) m hm) in
      let one : y ≡ m = both y m low_y high_y in
      subst (λ x. has ids x ≡ true) one (are.children l m two high hm tm)
    where
      both : (x y : ℕ) → x ≤ y → y ≤ x → x ≡ y
      both x y p q = omega arith

  module _ (layer : ℕ) (two : 2 ≤ layer) (high : layer ≤ top d) (pairs : List (ℕ × ℕ)) (join : JoinRepresentatives d b e.changed log ids layer pairs) where
    low : layer < 2 ^ 8
    low = let q = top_low d in omega (arith, q, high)

    abbrev all : List ℕ
    all = range_with_len 0 (length ids)

    abbrev Leads : ℕ → ℕ → Type 0
    Leads i j = JoinedBy (meet pairs) all i j

    leads_self : (i : ℕ) → i < length ids → Leads i i
    leads_self i l = Joined_one (meet pairs) all i (has_below (length ids) i l)

    leads_pair : (i j : ℕ) → i < length ids → j < length ids → meet pairs i j ≡ true → Leads i j
    leads_pair i j li lj m = Joined_cons (meet pairs) all i j j (has_below (length ids) i li) m (leads_self j lj)

    leads_trans : (i j k : ℕ) → Leads i j → Leads j k → Leads i k
    leads_trans i j k v w = Joined_trans (meet pairs) all i j k v w

    leads_sym : (i j : ℕ) → Leads i j → Leads j i
    leads_sym i j w = Joined_sym (meet pairs) all (meet_back pairs) i j w

    -- representatives of one old node are joined
    abbrev NodeLeads : ℕ → Type 0
    NodeLeads m = (i j : ℕ) → m + 1 ≤ layer → i < length ids → j < length ids → has (leaves d b log (m + 1) (get_or ids i 0)) (get_or ids j 0) ≡ true → Leads i j

    -- from a representative to the least leaf of its node
    to_least : (m : ℕ) → NodeLeads m → suc m + 1 ≤ layer → (k : ℕ) → k < length ids → touches e.changed (leaves d b log (suc m + 1) (get_or ids k 0)) ≡ true
        → (c : ℕ) × (c < length ids) × (get_or ids c 0 ≡ least_leaf d b log (suc m + 1) (get_or ids k 0)) × Leads k c
    to_least m ih most k lk t =
        let p = join.nodes (suc m + 1) (get_or ids k 0) (omega arith) most (known_at k lk) t in
        let down : suc m + 1 - 1 ≡ m + 1 = omega arith in
        let leaf : get_or ids p.1 0 ≡ least_leaf d b log (m + 1) (get_or ids k 0) = p.5 ∙ ap (λ n. least_leaf d b log n (get_or ids k 0)) down in
        let under : has (leaves d b log (m + 1) (get_or ids k 0)) (get_or ids p.1 0) ≡ true =
        subst (λ z. has (leaves d b log (m + 1) (get_or ids k 0)) z ≡ true) (sym leaf) (leaf_in d b valid.layout base.ascending log (m + 1) (get_or ids k 0) (known_at k lk)) in
        let one = ih k p.1 (omega (arith, most)) lk p.3 under in
        (p.0, p.2, p.4, leads_trans k p.1 p.0 one (leads_sym p.0 p.1 (leads_pair p.0 p.1 p.2 p.3 p.6)))

    node_step : (m : ℕ) → NodeLeads m → NodeLeads (suc m)
    node_step m ih i j most li lj h = split (touches e.changed (leaves d b log (suc m + 1) (get_or ids i 0))) refl
      where
        split : (t : Bool) → touches e.changed (leaves d b log (suc m + 1) (get_or ids i 0)) ≡ t → Leads i j
        split false t =
            let q = alone (suc m + 1) (get_or ids i 0) (get_or ids j 0) (omega arith) (omega (arith, most, high)) (get_has ids i li) (get_has ids j lj) h t in
            subst (Leads i) (at_one ids i j are.ascending li lj q) (leads_self i li)
        split true t =
            let same = same_leaves_of d b valid.layout base.ascending log (suc m + 1) (get_or ids i 0) (get_or ids j 0) h in
            let a = to_least m ih most i li t in
            let c = to_least m ih most j lj (ap (touches e.changed) (sym same) ∙ t) in
            let leaf = leaf_same d b valid.layout base.ascending log (suc m + 1) (get_or ids i 0) (get_or ids j 0) (known_at j lj) h in
            let q : a.0 ≡ c.0 = at_one ids a.0 c.0 are.ascending a.1 c.1 (a.2 ∙ (leaf ∙ sym c.2)) in
            leads_trans i a.0 j a.3 (subst (λ k. Leads k j) (sym q) (leads_sym j c.0 c.3))

    node_leads : (m : ℕ) → NodeLeads m
    node_leads zero =
        λ i j most li lj h.
        let q = leaves_alone d b valid.layout log 1 (get_or ids i 0) (get_or ids j 0) (omega arith) h in
        subst (Leads i) (at_one ids i j are.ascending li lj q) (leads_self i li)
    node_leads (suc m) = node_step m (node_leads m)

    here_leads : (i j : ℕ) → i < length ids → j < length ids → has (leaves d b log layer (get_or ids i 0)) (get_or ids j 0) ≡ true → Leads i j
    here_leads i j li lj h =
        let z : layer - 1 + 1 ≡ layer = omega (arith, two) in
        node_leads (layer - 1) i j (omega (arith, two)) li lj (subst (λ k. has (leaves d b log k (get_or ids i 0)) (get_or ids j 0) ≡ true) (sym z) h)

    unites_cases : (u v : ℕ) → unites d b e.changed log layer u v ≡ true → (has (leaves d b log layer u) v ≡ true) ⊎ ((is_changed e.changed u v ≡ true) × (level d u v ≤ layer))
    unfolding unites
    unites_cases u v h =
        elim (or_cases (has (leaves d b log layer u) v) _ h) [
          | inl k ↦ inl k
          | inr k ↦ let p = and_parts (is_changed e.changed u v) _ k in inr (p.0, leb-true (level d u v) layer p.1)
        ]

    -- some representative that is joined to this one is of the old node of a supervoxel
    abbrev Led : ℕ → ℕ → Type 0
    Led i y = (j : ℕ) × (j < length ids) × Leads i j × IsTrue (has (leaves d b log layer (get_or ids j 0)) y)

    next : (i x y : ℕ) → has (leaves d b log layer (get_or ids i 0)) x ≡ true → has (leaves d b log layer x) y ≡ true → has (leaves d b log layer (get_or ids i 0)) y ≡ true
    next i x y h k = subst (λ xs. has xs y ≡ true) (sym (same_leaves_of d b valid.layout base.ascending log layer (get_or ids i 0) x h)) k

    -- a changed pair leads from the representative of one end to that of the other
    led : (i x y : ℕ) → i < length ids → has (leaves d b log layer (get_or ids i 0)) x ≡ true → is_changed e.changed x y ≡ true → level d x y ≤ layer
        → (j : ℕ) × (j < length ids) × (has (leaves d b log layer (get_or ids j 0)) y ≡ true) × Leads i j
    led i x y li h c m =
        let f = find_changed _ e.changed x y join.all c in
        let p = f.1 (subst (λ k. k ≤ layer) (sym (pair_level d valid.layout f.0.pair x y f.2)) m) in
        elim (joins_cases f.0.pair x y f.2) [
          | inl s ↦ go p.0 p.1 p.2 p.3 (p.4 ∙ s.0) (p.5 ∙ s.1) (leads_pair p.0 p.1 p.2 p.3 p.6)
          | inr s ↦ go p.1 p.0 p.3 p.2 (p.5 ∙ s.1) (p.4 ∙ s.0) (leads_sym p.0 p.1 (leads_pair p.0 p.1 p.2 p.3 p.6))
        ]
      where
        go : (p q : ℕ) → p < length ids → q < length ids → get_or ids p 0 ≡ x → get_or ids q 0 ≡ y → Leads p q → (j : ℕ) × (j < length ids) × (has (leaves d b log layer (get_or ids j 0)) y ≡ true) × Leads i j
        go p q lp lq ex ey w =
            let one = here_leads i p li lp (subst (λ z. has (leaves d b log layer (get_or ids i 0)) z ≡ true) (sym ex) h) in (
              q,
              lq,
              subst (λ z. has (leaves d b log layer (get_or ids q 0)) z ≡ true) ey (leaves_self d b valid.layout log layer (get_or ids q 0) (known_at q lq)),
              leads_trans i p q one w,
            )

    walk : (u v : ℕ) → JoinedBy (unites d b e.changed log layer) b.supervoxels u v → (i : ℕ) → i < length ids → has (leaves d b log layer (get_or ids i 0)) u ≡ true → Led i v
    walk u v j =
        along (unites d b e.changed log layer) b.supervoxels (λ x y. (i : ℕ) → i < length ids → has (leaves d b log layer (get_or ids i 0)) x ≡ true → Led i y)
        (λ x hx i li h. (i, li, leads_self i li, h))
        (λ x y z hx hy s ih i li h.
        elim (unites_cases x y s) [
          | inl k ↦ ih i li (next i x y h k)
          | inr p ↦
              let q = led i x y li h p.0 p.1 in
              let r = ih q.0 q.1 q.2 in
              (r.0, r.1, leads_trans i q.0 r.0 q.3 r.2, r.3)
        ]) u v j

    -- representatives that are joined after the entry
    pub joined_leads : (i j : ℕ) → i < length ids → j < length ids → Joined d b (e ∷ log) layer (get_or ids i 0) (get_or ids j 0) → Leads i j
    joined_leads i j li lj w =
        let r = walk (get_or ids i 0) (get_or ids j 0) ((unite_iff d b valid.layout e log on layer (get_or ids i 0) (get_or ids j 0) two low).0 w) i li (leaves_self d b valid.layout log layer (get_or ids i 0) (known_at i li)) in
        leads_trans i r.0 j r.2 (here_leads r.0 j r.1 lj r.3)

    -- and nothing else is joined by the pairs
    one_joined : (u v : ℕ) → has b.supervoxels u ≡ true → has b.supervoxels v ≡ true → unites d b e.changed log layer u v ≡ true → Joined d b (e ∷ log) layer u v
    one_joined u v hu hv s =
        (unite_iff d b valid.layout e log on layer u v two low).1
        (Joined_cons (unites d b e.changed log layer) b.supervoxels u v v hu s (Joined_one (unites d b e.changed log layer) b.supervoxels v hv))

    pair_joined : (i j : ℕ) → meet pairs i j ≡ true → Joined d b (e ∷ log) layer (get_or ids i 0) (get_or ids j 0)
    pair_joined i j m =
        elim (met _ pairs join.given i j m) [
          | inl p ↦ one_joined (get_or ids i 0) (get_or ids j 0) (known_at i p.0) (known_at j p.1) p.2
          | inr p ↦ joined_sym d b valid.layout (e ∷ log) layer (get_or ids j 0) (get_or ids i 0) (one_joined (get_or ids j 0) (get_or ids i 0) (known_at j p.0) (known_at i p.1) p.2)
        ]

    leads_joined : (i j : ℕ) → Leads i j → Joined d b (e ∷ log) layer (get_or ids i 0) (get_or ids j 0)
    leads_joined i j w =
        along (meet pairs) all (λ x y. Joined d b (e ∷ log) layer (get_or ids x 0) (get_or ids y 0))
        (λ x h. joined_self d b valid.layout (e ∷ log) layer (get_or ids x 0) (known_at x (below_has (length ids) x h)))
        (λ x y z hx hy m k. joined_trans d b valid.layout (e ∷ log) layer (get_or ids x 0) (get_or ids y 0) (get_or ids z 0) (pair_joined x y m) k) i j w

    -- the least leaf of a representative's new node is a representative
    least_held : (v : ℕ) → has ids v ≡ true → has ids (least_leaf d b (e ∷ log) layer v) ≡ true
    unfolding least_leaf
    least_held v hv = split (touches e.changed (leaves d b log layer v)) refl
      where
        split : (t : Bool) → touches e.changed (leaves d b log layer v) ≡ t → has ids (least_leaf d b (e ∷ log) layer v) ≡ true
        split true t = touched_least layer v two high (are.known v hv) t
        split false t =
            let kept : least_leaf d b (e ∷ log) layer v ≡ least_leaf d b log layer v = ap (head_or v) (same_leaves d b valid.layout e log layer v (are.known v hv) t) in
            subst (λ x. has ids x ≡ true) (sym (kept ∙ are.own v hv layer (omega (arith, two)) high t)) hv

    -- so the components of the pairs give the least leaves
    pub united_firsts : (lows : List ℕ) → AreLeastMembers (length ids) pairs lows → AreFirstsOf d b (e ∷ log) ids layer lows
    united_firsts lows labels = record { count = labels.count; small = small; leaf = leaf }
      where
        small : (i : ℕ) → i < length ids → get_or lows i 0 < length ids
        small i l = let q = labels.lowest i i l (leads_self i l) in omega (arith, q, l)

        leaf : (i : ℕ) → i < length ids → get_or ids (get_or lows i 0) 0 ≡ least_leaf d b (e ∷ log) layer (get_or ids i 0)
        leaf i l =
            let v : ℕ = get_or ids i 0 in
            let m : ℕ = least_leaf d b (e ∷ log) layer (get_or ids i 0) in
            let k = index_at ids m (least_held v (get_has ids i l)) in
            let in_v : has (leaves d b (e ∷ log) layer v) m ≡ true = leaf_in d b valid.layout base.ascending (e ∷ log) layer v (known_at i l) in
            let j : Joined d b (e ∷ log) layer v m = (leaves_iff d b valid.layout (e ∷ log) layer v m two).0 in_v in
            let w = joined_leads i (index_of ids m) l k.0 (subst (λ x. Joined d b (e ∷ log) layer v x) (sym k.1) j) in
            let up : get_or ids (get_or lows i 0) 0 ≤ get_or ids (index_of ids m) 0 = at_order ids (get_or lows i 0) (index_of ids m) are.ascending (labels.lowest i (index_of ids m) l w) k.0 in
            let there = (leaves_iff d b valid.layout (e ∷ log) layer v (get_or ids (get_or lows i 0) 0) two).1 (leads_joined i (get_or lows i 0) (labels.joined i l)) in
            let down : m ≤ get_or ids (get_or lows i 0) 0 = leaf_least d b valid.layout base.ascending (e ∷ log) layer v (get_or ids (get_or lows i 0) 0) there in
            same (get_or ids (get_or lows i 0) 0) m (get_or ids (index_of ids m) 0) up down k.1
          where
            same : (x m y : ℕ) → x ≤ y → m ≤ x → y ≡ m → x ≡ m
            same x m y p q r = omega arith

  -- in layer 1 each is the least leaf of its own
  pub lowest_firsts : (lows : List ℕ) → lows ≡ range_with_len 0 (length ids) → AreFirstsOf d b (e ∷ log) ids 1 lows
  unfolding least_leaf head_or
  lowest_firsts lows q = record {
    count = ap length q ∙ length-range_with_len 0 (length ids);
    small = λ i l. subst (λ x. x < length ids) (sym (place i l)) l;
    leaf = λ i l. ap (λ k. get_or ids k 0) (place i l) ∙ sym (ap (head_or (get_or ids i 0)) (leaves_one d b valid.layout (e ∷ log) 1 (get_or ids i 0) (omega arith)));
  }
    where
      place : (i : ℕ) → i < length ids → get_or lows i 0 ≡ i
      place i l = ap (λ xs. get_or xs i 0) q ∙ (get_or-range_with_len 0 (length ids) i 0 l ∙ (let z : 0 + i ≡ i = omega arith in z))

module _ (d : Dataset) (b : Base) (valid : IsDataset d) (base : IsBase d b) (e : Entry) where
  -- the list has the least leaves of all children of new nodes
  pub represented_hold : (log : List Entry) → is_empty log ≡ false → HaveState true e.changed → (ids : List ℕ) → AreRepresentatives d b e.changed log ids → (layer : ℕ) → 2 ≤ layer → layer ≤ top d → HoldsChildren d b (e ∷ log) layer ids
  unfolding is_new least_leaf
  represented_hold log some on ids are layer two high = record { ascending = are.ascending; known = are.known; children = children }
    where
      children : (v : ℕ) → has b.supervoxels v ≡ true → is_new d b (e ∷ log) layer v ≡ true → has ids (least_leaf d b (e ∷ log) (layer - 1) v) ≡ true
      children v hv n = split (touches e.changed (leaves d b log (layer - 1) v)) refl
        where
          touched : touches e.changed (leaves d b log layer v) ≡ true
          touched =
              sym (told_before d b valid.layout e log layer v hv)
              ∙ (ap (touches e.changed) (leaves_node d b valid.layout (e ∷ log) layer v two) ∙ (sym (ap (λ k. k || touches e.changed (component d b (e ∷ log) layer v)) some) ∙ n))

          below : has ids (least_leaf d b log (layer - 1) v) ≡ true
          below = are.children layer v two high hv touched

          split : (t : Bool) → touches e.changed (leaves d b log (layer - 1) v) ≡ t → has ids (least_leaf d b (e ∷ log) (layer - 1) v) ≡ true
          split false t = subst (λ x. has ids x ≡ true) (sym (ap (head_or v) (same_leaves d b valid.layout e log (layer - 1) v hv t))) below
          split true t = elim (cases_lt 1 (layer - 1)) [
            | inl m ↦ touched_least d b valid base e log on ids are (layer - 1) v (omega (arith, m)) (omega (arith, high)) hv t
            | inr m ↦
                subst (λ x. has ids x ≡ true)
                (ap (head_or v) (leaves_one d b valid.layout log (layer - 1) v (omega (arith, m)) ∙ sym (leaves_one d b valid.layout (e ∷ log) (layer - 1) v (omega (arith, m))))) below
          ]
