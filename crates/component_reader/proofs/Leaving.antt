-- The edges out of a supervoxel's node at a prefix.
use Rattle.std.proofs.Common.{◌≡◌, ℕ, zero, suc, ◌-◌, ◌<◌, ◌≤◌, true, false, cond, ◌&&◌, ◌||◌, leb, ltb, List, [], ◌∷◌, ◌++◌, length, take, drop, sym, ◌∙◌, ap, subst, arith}
use Rattle.std.specs.Prelude.{IsPermutation, IsSortedBy}
use Rattle.std.specs.List.{AllByRecursion, filter, flat_map}
use Rattle.std.proofs.lemmas.Bool.{and_parts, ltb-true}
use Rattle.std.proofs.lemmas.List.{take-append-drop}
use Rattle.std.proofs.lemmas.List.Sorted.{IsPermutation-sym, IsPermutation-trans}
use Rattle.node_ids.specs.Ids.{parts_of}
use Rattle.op_model.specs.declared.base.Dataset.{Dataset}
use Rattle.op_model.specs.declared.base.Base.{Base}
use Rattle.op_model.specs.declared.base.Edge.{Edge}
use Rattle.op_model.specs.declared.entry.Entry.{Entry}
use Rattle.graph_model.specs.Lists.{has}
use Rattle.op_model.specs.Chunks.{layers}
use Rattle.op_model.specs.Edges.{pair_before}
use Rattle.op_model.specs.Labels.{component, edges, node}
use Rattle.op_model.specs.Laws.{IsKnown}
use Rattle.op_model.specs.Legal.{Legal}
use Rattle.op_model.specs.Transcript.{log_at}
use Rattle.op_model.specs.Valid.{IsDataset, IsBase, IsSupervoxel}
use Rattle.op_model.proofs.EdgeOrders.{sorted_same}
use Rattle.op_model.proofs.HistoryLemmas.{legal_prefix}
use Rattle.op_model.proofs.KnownLemmas.{legal_known}
use Rattle.op_model.proofs.LegalLemmas.{all_has}
use Rattle.op_model.proofs.OrderLemmas.{after_sorted, filter_sorted}
use Rattle.layer_laws.specs.Levels.{leads_out, leaves, leaving, level}
use Rattle.layer_laws.proofs.LevelLemmas.{level_chunk}
use Rattle.record_rows.specs.Rows.{Node}
use Rattle.record_rows.specs.Readings.{HoldsNode}
use Rattle.record_rows.specs.Walks.{edges_at, is_end}
use Rattle.record_rows.proofs.CountLemmas.{component_differ}
use Rattle.record_rows.proofs.DifferLemmas.{all_each, all_filter, all_more}
use Rattle.record_rows.proofs.LinkLemmas.{layer_down, of_component}
use Rattle.record_rows.proofs.OnceLemmas.{layer_low}
use Rattle.node_reader.proofs.LeafLaws.{leaves_joined}
use Rattle.node_reader.proofs.LeafMeaning.{node_id_layer}
use Rattle.component_reader.specs.Crossing.{AreInGrid, goes_out}
use Rattle.component_reader.proofs.Out.{NotInside, ends_among, out_once}

module _ (d : Dataset) (b : Base) (valid : IsDataset d) (base : IsBase d b) (log : List Entry) (legal : Legal d b log) (prefix : ℕ) (low : 1 ≤ prefix) where
  -- what holds of each legal log that is not empty holds of the one at the prefix
  at_prefix : (P : List Entry → Type 0) → ((e : Entry) (older : List Entry) → Legal d b (e ∷ older) → P (e ∷ older)) → P (log_at d b log prefix)
  unfolding log_at
  at_prefix P f = go (take k log) (drop k log) (sym (take-append-drop k log)) (some k log (left log legal))
    where
      k : ℕ
      k = length log - prefix

      left : (older : List Entry) → Legal d b older → length older - prefix < length older
      left [] l = absurd l
      left (e ∷ older) l = omega arith

      some : (j : ℕ) (older : List Entry) → j < length older → 0 < length (drop j older)
      some j [] l = absurd (omega arith)
      some zero (e ∷ older) l = omega arith
      some (suc j) (e ∷ older) l = some j older (omega arith)

      go : (newer older : List Entry) → log ≡ newer ++ older → 0 < length older → P older
      go newer [] e s = absurd (omega arith)
      go newer (g ∷ older) e s = f g older (legal_prefix d b newer g older (subst (Legal d b) e legal))

  -- the ends of its edges lie in the grid
  pub own_in_grid : (v : ℕ) → AreInGrid d (edges_at (edges d b (log_at d b log prefix)) v)
  unfolding edges_at
  own_in_grid v =
      let known : AllByRecursion (λ e. IsKnown b e.pair) (edges d b (log_at d b log prefix)) = at_prefix (λ g. AllByRecursion (λ e. IsKnown b e.pair) (edges d b g)) (λ e older l. (legal_known d b base (e ∷ older) l).1) in
      all_more (λ e. IsKnown b e.pair × (is_end v e ≡ true)) (λ e. IsSupervoxel d e.pair.a × IsSupervoxel d e.pair.b) (filter (is_end v) (edges d b (log_at d b log prefix)))
      (λ e k. (all_has (IsSupervoxel d) b.supervoxels e.pair.a base.supervoxels k.0.0, all_has (IsSupervoxel d) b.supervoxels e.pair.b base.supervoxels k.0.1))
      (all_filter (is_end v) (λ e. IsKnown b e.pair) (edges d b (log_at d b log prefix)) known)

  module _ (layer v : ℕ) (hl : has (layers d) layer ≡ true) (hv : has b.supervoxels v ≡ true) where
    abbrev older : List Entry
    older = log_at d b log prefix

    -- a node's id tells its layer
    pub layer_is : (id : ℕ) → id ≡ node d b (log_at d b log prefix) layer v → (parts_of d.layout id).layer ≡ layer
    layer_is id q = ap (λ i. (parts_of d.layout i).layer) q ∙ at_prefix (λ g. (parts_of d.layout (node d b g layer v)).layer ≡ layer) (λ e o l. node_id_layer d b valid base e o l layer v hl hv)

    -- an edge that leads out of a chunk has no two ends in it
    apart : (e : Edge) → NotInside (goes_out d layer) (component d b older layer v) e
    unfolding goes_out
    apart e t p q =
        let two = (layer_down d layer hl).0 in
        let one = of_component d b valid base older layer v e.pair.a p in
        let other = of_component d b valid base older layer v e.pair.b q in
        let m = (level_chunk d valid.layout layer e.pair.a e.pair.b two (layer_low d layer hl)).0 (sym one.1 ∙ other.1) in
        let n : layer < level d e.pair.a e.pair.b = ltb-true layer (level d e.pair.a e.pair.b) (and_parts _ _ t).1 in
        omega (arith, m, n)

    leaving_among : filter (ends_among (goes_out d layer) (component d b older layer v)) (edges d b older) ≡ leaving d b older layer v
    unfolding leaving leads_out goes_out leaves
    leaving_among =
        let two = (layer_down d layer hl).0 in
        let no : leb layer 1 ≡ false = grind (arith, two) in
        ap (λ t. filter (λ e. (e.active && ltb layer (level d e.pair.a e.pair.b)) && (has (cond t (v ∷ []) (component d b older layer v)) e.pair.a || has (cond t (v ∷ []) (component d b older layer v)) e.pair.b)) (edges d b older)) (sym no)

    -- the edges found at the leaves of its node, sorted, are those that lead out of it
    pub found_leaving : (place : ℕ) (n : Node) → HoldsNode d b log place n → n.id ≡ node d b (log_at d b log prefix) layer v → (found sorted : List Edge)
        → found ≡ flat_map (λ u. filter (goes_out d layer) (edges_at (edges d b (log_at d b log prefix)) u)) n.leaves → IsPermutation found sorted → IsSortedBy (λ (e : Edge) (f : Edge). pair_before e.pair f.pair) sorted
        → sorted ≡ leaving d b (log_at d b log prefix) layer v
    unfolding edges
    found_leaving place n h q found sorted f p s =
        let vs : List ℕ = component d b older layer v in
        let es : List Edge = edges d b older in
        let own : n.leaves ≡ vs = leaves_joined d b log prefix layer v place n valid base legal low h hl hv q in
        let once = out_once (goes_out d layer) vs es (component_differ d b valid base older layer v) (all_each (NotInside (goes_out d layer) vs) es apart) in
        let made : List Edge = filter (ends_among (goes_out d layer) vs) es in
        let all : found ≡ flat_map (λ u. filter (goes_out d layer) (edges_at es u)) vs = f ∙ ap (flat_map (λ u. filter (goes_out d layer) (edges_at es u))) own in
        let turned : IsPermutation made sorted = IsPermutation-trans _ _ _ (IsPermutation-sym _ _ once) (subst (λ xs. IsPermutation xs sorted) all p) in
        sorted_same made sorted turned s (filter_sorted (ends_among (goes_out d layer) vs) es (after_sorted b.edges d.merge_affinity older)) ∙ leaving_among
