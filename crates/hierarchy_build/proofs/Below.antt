-- The children of a node are the nodes below whose least leaf leads to its own.
use Rattle.std.proofs.Common.{◌≡◌, ℕ, ◌+◌, ◌-◌, ◌<◌, ◌≤◌, Bool, true, false, cond, eqb, List, [], ◌∷◌, length, map, get_or, refl, sym, ◌∙◌, ap, subst, inl, inr, ◌⊎◌, arith}
use Rattle.std.specs.List.{AllByRecursion, filter, range_with_len}
use Rattle.std.proofs.lemmas.Bool.{ne_eqb}
use Rattle.std.proofs.lemmas.List.Elements.{recursion_from_All}
use Rattle.op_model.specs.declared.base.Dataset.{Dataset}
use Rattle.op_model.specs.declared.base.Base.{Base}
use Rattle.op_model.specs.declared.entry.Entry.{Entry}
use Rattle.graph_model.specs.Lists.{has}
use Rattle.op_model.specs.Chunks.{chunk, top}
use Rattle.op_model.specs.Labels.{node, label}
use Rattle.op_model.specs.Operations.{ascending, first_entry}
use Rattle.op_model.specs.Valid.{IsBase, IsDataset}
use Rattle.graph_model.proofs.ListLemmas.{contra, has_head, has_tail, has_cases, has_none, filter_has, filter_only}
use Rattle.op_model.proofs.LegalLemmas.{ascending_has, map_has}
use Rattle.op_model.proofs.MadeLemmas.{map_only}
use Rattle.op_model.proofs.LabelLemmas.{joined_label}
use Rattle.record_rows.specs.LogRows.{children_of}
use Rattle.record_rows.proofs.DifferLemmas.{Differ, all_both, differ_map, differ_filter}
use Rattle.record_rows.proofs.OnceLemmas.{ascending_differ, ascending_lists}
use Rattle.record_rows.proofs.SumLemmas.{sorted_same, of_ascending}
use Rattle.components.proofs.Least.{has_below}
use Rattle.layer_laws.specs.Levels.{leaves}
use Rattle.layer_laws.proofs.StepLemmas.{leaves_iff, leaves_above, joined_known}
use Rattle.layer_laws.proofs.OrderLemmas.{get_has}
use Rattle.layer_laws.proofs.PlaceLemmas.{at_one}
use Rattle.layer_laws.proofs.BuildLemmas.{leaf_in, leaf_same}
use Rattle.op_model.specs.Ingest.{ingested}
use Rattle.op_model.proofs.ChunkLemmas.{top_low}
use Rattle.octree_layers.specs.declared.numbering.Made.{Made}
use Rattle.octree_layers.specs.declared.layers.Layer.{Layer}
use Rattle.octree_layers.specs.Numbers.{IsOwn, leaves_at}
use Rattle.octree_layers.specs.Layers.{IsLayer}
use Rattle.hierarchy_build.specs.Children.{ChildrenLead}
use Rattle.octree_layers.proofs.Leaves.{range_in}

all_ids : (i : ℕ) (ms : List Made) → AllByRecursion (λ x. i < x) (map (λ (m : Made). m.id) ms) → AllByRecursion (λ (m : Made). i < m.id) ms
all_ids i [] a = tt
all_ids i (m ∷ ms) a = (a.0, all_ids i ms a.1)

ids_differ : (ms : List Made) → Differ (λ x y. x < y) (map (λ (m : Made). m.id) ms) → Differ (λ (m n : Made). m.id < n.id) ms
ids_differ [] a = tt
ids_differ (m ∷ ms) a = (all_ids m.id ms a.0, ids_differ ms a.1)

module _ (t : ℕ → Bool) (name : ℕ → ℕ) where
  kept : Made → Bool
  kept c = t c.least

  -- a node by its least leaf
  there : (p : ℕ) (ms : List Made) → AllByRecursion (λ (m : Made). m.id ≡ name m.least) ms → has (map (λ (m : Made). m.least) ms) p ≡ true → t p ≡ true
      → has (map (λ (m : Made). m.id) (filter (λ (c : Made). t c.least) ms)) (name p) ≡ true
  there p [] a h e = has_none p h
  there p (m ∷ ms) a h e = go (t m.least) refl (has_cases m.least (map (λ (n : Made). n.least) ms) p h) (λ g. there p ms a.1 g e)
    where
      go : (k : Bool) → t m.least ≡ k → (m.least ≡ p) ⊎ (has (map (λ (n : Made). n.least) ms) p ≡ true)
          → (has (map (λ (n : Made). n.least) ms) p ≡ true → has (map (λ (n : Made). n.id) (filter (λ (c : Made). t c.least) ms)) (name p) ≡ true)
          → has (map (λ (n : Made). n.id) (cond k (m ∷ filter (λ (c : Made). t c.least) ms) (filter (λ (c : Made). t c.least) ms))) (name p) ≡ true
      go true f (inl q) ih =
          subst (λ x. has (m.id ∷ map (λ (n : Made). n.id) (filter (λ (c : Made). t c.least) ms)) x ≡ true) (a.0 ∙ ap name q) (has_head m.id (map (λ (n : Made). n.id) (filter (λ (c : Made). t c.least) ms)))
      go true f (inr g) ih = has_tail m.id (map (λ (n : Made). n.id) (filter (λ (c : Made). t c.least) ms)) (name p) (ih g)
      go false f (inl q) ih = contra (t m.least) (ap t q ∙ e) f
      go false f (inr g) ih = ih g

  back : (P : ℕ → Type 0) (i : ℕ) (ms : List Made) → AllByRecursion (λ (m : Made). P m.least × (m.id ≡ name m.least)) ms → has (map (λ (m : Made). m.id) (filter (λ (c : Made). t c.least) ms)) i ≡ true
      → (p : ℕ) × P p × (t p ≡ true) × (name p ≡ i)
  back P i [] a h = has_none i h
  back P i (m ∷ ms) a h = go (t m.least) refl h (back P i ms a.1)
    where
      go : (k : Bool) → t m.least ≡ k → has (map (λ (n : Made). n.id) (cond k (m ∷ filter (λ (c : Made). t c.least) ms) (filter (λ (c : Made). t c.least) ms))) i ≡ true
          → (has (map (λ (n : Made). n.id) (filter (λ (c : Made). t c.least) ms)) i ≡ true → (p : ℕ) × P p × (t p ≡ true) × (name p ≡ i))
          → (p : ℕ) × P p × (t p ≡ true) × (name p ≡ i)
      go true f g ih = elim (has_cases m.id (map (λ (n : Made). n.id) (filter (λ (c : Made). t c.least) ms)) i g) [ inl q ↦ (m.least, a.0.0, f, sym a.0.1 ∙ q) | inr r ↦ ih r ]
      go false f g ih = ih g

module _ (d : Dataset) (b : Base) (now layer : ℕ) (below above : Layer) (valid : IsDataset d) (base : IsBase d b) (two : 2 ≤ layer) (high : layer + 1 ≤ top d)
    (low : IsLayer d b (ingested d b now) layer below) (up : IsLayer d b (ingested d b now) (layer + 1) above) where
  abbrev log : List Entry
  log = ingested d b now

  sv : ℕ → ℕ
  sv i = get_or b.supervoxels i 0

  lower : ℕ → ℕ
  lower i = get_or below.firsts.items i 0

  upper : ℕ → ℕ
  upper i = get_or above.firsts.items i 0

  -- a place and the one that it leads to below are of one node, in both layers
  with_least : (i : ℕ) → i < length b.supervoxels → has (leaves d b (ingested d b now) layer (sv i)) (sv (lower i)) ≡ true
  unfolding sv lower
  with_least i l =
      subst (λ x. has (leaves d b (ingested d b now) layer (get_or b.supervoxels i 0)) x ≡ true) (sym (low.firsts.leaf i l))
      (leaf_in d b valid.layout base.ascending (ingested d b now) layer (get_or b.supervoxels i 0) (get_has b.supervoxels i l))

  same_name : (i : ℕ) → i < length b.supervoxels → node d b (ingested d b now) layer (sv (lower i)) ≡ node d b (ingested d b now) layer (sv i)
  unfolding node
  same_name i l =
      let j = (leaves_iff d b valid.layout (ingested d b now) layer (sv i) (sv (lower i)) two).0 (with_least i l) in
      let k = joined_known d b valid.layout (ingested d b now) layer (sv i) (sv (lower i)) j in
      let e : label d b (ingested d b now) layer (sv i) ≡ label d b (ingested d b now) layer (sv (lower i)) = joined_label d b (first_entry d b now) [] layer (sv i) (sv (lower i)) k.0 k.1 k.2 j in
      let c : chunk d layer (sv i) ≡ chunk d layer (sv (lower i)) = k.2 in
      omega (arith, e, c)

  same_upper : (i : ℕ) → i < length b.supervoxels → upper (lower i) ≡ upper i
  unfolding sv lower upper
  same_upper i l =
      let u : ℕ = get_or b.supervoxels i 0 in
      let p : ℕ = get_or below.firsts.items i 0 in
      let w : ℕ = get_or b.supervoxels p 0 in
      let lp : p < length b.supervoxels = low.firsts.small i l in
      let s : layer + 1 - 1 ≡ layer = omega arith in
      let h : has (leaves d b (ingested d b now) (layer + 1 - 1) u) w ≡ true = subst (λ n. has (leaves d b (ingested d b now) n u) w ≡ true) (sym s) (with_least i l) in
      let j = leaves_above d b valid.layout (ingested d b now) (layer + 1) u w (omega arith) (let t = top_low d in omega arith) (get_has b.supervoxels i l) h in
      let k = (leaves_iff d b valid.layout (ingested d b now) (layer + 1) u w (omega arith)).1 j in
      let e = leaf_same d b valid.layout base.ascending (ingested d b now) (layer + 1) u w (get_has b.supervoxels p lp) k in
      at_one b.supervoxels (get_or above.firsts.items p 0) (get_or above.firsts.items i 0) base.ascending (up.firsts.small p lp) (up.firsts.small i l) (up.firsts.leaf p lp ∙ (sym e ∙ sym (up.firsts.leaf i l)))

  module _ (top_place : ℕ) where
    to : ℕ → Bool
    to j = eqb (get_or above.firsts.items j 0) top_place

    name : ℕ → ℕ
    name p = node d b (ingested d b now) layer (get_or b.supervoxels p 0)

    lists : (i : ℕ) → has (ascending (map (node d b (ingested d b now) layer) (leaves_at b above.firsts.items top_place))) i ≡ true
        → has (map (λ (m : Made). m.id) (filter (λ (c : Made). eqb (get_or above.firsts.items c.least 0) top_place) below.made.items)) i ≡ true
    unfolding sv lower upper to name
    lists i h =
        let v = map_only (node d b (ingested d b now) layer) (leaves_at b above.firsts.items top_place) i (of_ascending _ i h) in
        let j = map_only (λ k. get_or b.supervoxels k 0) (filter to (range_with_len 0 (length b.supervoxels))) v.0 v.1 in
        let q = filter_only to (range_with_len 0 (length b.supervoxels)) j.0 j.1 in
        let l : j.0 < length b.supervoxels = (let r = range_in 0 (length b.supervoxels) j.0 q.0 in omega arith) in
        let e : name (lower j.0) ≡ i = same_name j.0 l ∙ (ap (node d b (ingested d b now) layer) j.2 ∙ v.2) in
        subst (λ x. has (map (λ (m : Made). m.id) (filter (λ (c : Made). to c.least) below.made.items)) x ≡ true) e
        (there to name (lower j.0) below.made.items (recursion_from_All (λ (m : Made). m.id ≡ name m.least) below.made.items low.ids) (low.each j.0 l)
        (ap (λ k. eqb k top_place) (same_upper j.0 l) ∙ q.1))

    listed : (i : ℕ) → has (map (λ (m : Made). m.id) (filter (λ (c : Made). eqb (get_or above.firsts.items c.least 0) top_place) below.made.items)) i ≡ true
        → has (ascending (map (node d b (ingested d b now) layer) (leaves_at b above.firsts.items top_place))) i ≡ true
    unfolding to name
    listed i h =
        let Own : ℕ → Type 0 = IsOwn b below.firsts.items in
        let p = back to name Own i below.made.items
        (all_both (λ (m : Made). Own m.least) (λ (m : Made). m.id ≡ name m.least) below.made.items (recursion_from_All (λ (m : Made). Own m.least) below.made.items low.least)
        (recursion_from_All (λ (m : Made). m.id ≡ name m.least) below.made.items low.ids)) h in
        let q = filter_has to (range_with_len 0 (length b.supervoxels)) p.0 (has_below (length b.supervoxels) p.0 p.1.0) p.2 in
        let r = map_has (λ k. get_or b.supervoxels k 0) (filter to (range_with_len 0 (length b.supervoxels))) p.0 q in
        let s = map_has (node d b (ingested d b now) layer) (leaves_at b above.firsts.items top_place) (get_or b.supervoxels p.0 0) r in
        ascending_has (map (node d b (ingested d b now) layer) (leaves_at b above.firsts.items top_place)) i
        (subst (λ x. has (map (node d b (ingested d b now) layer) (leaves_at b above.firsts.items top_place)) x ≡ true) p.3 s)

    one_node : children_of d b (ingested d b now) (layer + 1) (leaves_at b above.firsts.items top_place)
        ≡ map (λ (c : Made). c.id) (filter (λ (c : Made). eqb (get_or above.firsts.items c.least 0) top_place) below.made.items)
    unfolding children_of
    one_node =
        let s : layer + 1 - 1 ≡ layer = omega arith in
        let f : eqb (layer + 1) 2 ≡ false = ne_eqb (layer + 1) 2 (λ e. absurd (omega arith)) in
        ap (λ k. cond k (leaves_at b above.firsts.items top_place) (ascending (map (node d b (ingested d b now) (layer + 1 - 1)) (leaves_at b above.firsts.items top_place)))) f
        ∙ (ap (λ n. ascending (map (node d b (ingested d b now) n) (leaves_at b above.firsts.items top_place))) s
        ∙ sorted_same (ascending (map (node d b (ingested d b now) layer) (leaves_at b above.firsts.items top_place)))
        (map (λ (c : Made). c.id) (filter (λ (c : Made). eqb (get_or above.firsts.items c.least 0) top_place) below.made.items))
        (ascending_lists (map (node d b (ingested d b now) layer) (leaves_at b above.firsts.items top_place)))
        (differ_map (λ (c : Made). c.id) (λ x y. x < y) (filter (λ (c : Made). eqb (get_or above.firsts.items c.least 0) top_place) below.made.items)
        (differ_filter (λ (c : Made). eqb (get_or above.firsts.items c.least 0) top_place) (λ (m n : Made). m.id < n.id) below.made.items
        (ids_differ below.made.items (ascending_differ (map (λ (m : Made). m.id) below.made.items) low.ascending))))
        lists listed)

pub children : ChildrenLead
children d b now layer below above valid base two high low up = λ k m l. one_node d b now layer below above valid base two high low up (get_or above.made.items k m).least
