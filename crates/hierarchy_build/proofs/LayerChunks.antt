-- The chunks of all layers are those that their nodes lie in, and they ascend.
use Rattle.std.proofs.Common.{◌≡◌, ℕ, ◌+◌, ◌-◌, ◌<◌, ◌≤◌, ◌^◌, true, ◌&&◌, eqb, List, [], ◌∷◌, ◌++◌, length, map, refl, sym, ◌∙◌, ap, subst, arith, eq-eqb}
use Rattle.std.specs.List.{AllByRecursion, flat_map}
use Rattle.std.proofs.lemmas.Bool.{and_from}
use Rattle.node_ids.specs.Ids.{id_of, id_over}
use Rattle.op_model.specs.declared.base.Dataset.{Dataset}
use Rattle.op_model.specs.declared.base.Base.{Base}
use Rattle.graph_model.specs.Lists.{has}
use Rattle.op_model.specs.Chunks.{chunk, members, layers, layers_from, top}
use Rattle.op_model.specs.Labels.{least, is_new, is_empty, new_among}
use Rattle.op_model.specs.Valid.{IsDataset, IsBase, IsAscending}
use Rattle.graph_model.proofs.ListLemmas.{filter_has, has_none}
use Rattle.op_model.proofs.LabelLemmas.{least_in, least_component, least_same}
use Rattle.base_rows.specs.Lists.{IsOnce}
use Rattle.record_rows.specs.Rows.{Node}
use Rattle.record_rows.specs.LogRows.{layer_chunks, chunks, new_node, layer_nodes}
use Rattle.record_rows.proofs.BaseRows.{chunks_ascend}
use Rattle.record_rows.proofs.DifferLemmas.{Differ, all_more, all_each, all_map, all_both, all_flat}
use Rattle.record_rows.proofs.LinkLemmas.{all_ascending, of_component}
use Rattle.record_rows.proofs.OnceLemmas.{all_has_self, ascending_lists, layers_from_differ, least_all}
use Rattle.op_model.specs.Ingest.{ingested}
use Rattle.op_model.proofs.ChunkLemmas.{chunk_small, top_low}
use Rattle.layer_laws.proofs.PlaceLemmas.{at_one}
use Rattle.octree_layers.specs.declared.numbering.Made.{Made}
use Rattle.octree_layers.specs.declared.layers.Layer.{Layer}
use Rattle.octree_layers.specs.Numbers.{node_of}
use Rattle.octree_layers.specs.Layers.{IsLayer, AreLayers}
use Rattle.hierarchy_build.specs.Chunked.{fresh, chunks_behind, all_chunks}
use Rattle.octree_layers.proofs.Leaves.{map_twice}
use Rattle.octree_layers.proofs.Grouping.{map_flat}
use Rattle.hierarchy_build.proofs.Fresh.{Run, fresh_runs}

pub differ_ascends : (xs : List ℕ) → Differ (λ x y. x < y) xs → IsAscending xs
differ_ascends [] a = tt
differ_ascends (x ∷ []) a = tt
differ_ascends (x ∷ y ∷ xs) a = (a.0.0, differ_ascends (y ∷ xs) a.1)

pub ascending_once : (xs : List ℕ) → IsAscending xs → IsOnce xs
ascending_once xs a i j l m e = at_one xs i j a l m e

-- ascending numbers from one up to another are no more than lie between them
pub few_between : (low high : ℕ) (xs : List ℕ) → low ≤ high → AllByRecursion (λ x. (low ≤ x) × (x < high)) xs → Differ (λ x y. x < y) xs → low + length xs ≤ high
few_between low high [] l a d = omega (arith, l)
few_between low high (x ∷ xs) l a d =
    let p = a.0 in
    let n = few_between (x + 1) high xs (omega (arith, p)) (all_more (λ y. ((low ≤ y) × (y < high)) × (x < y)) (λ y. (x + 1 ≤ y) × (y < high)) xs (λ y q. (omega (arith, q.1), q.0.1)) (all_both (λ y. (low ≤ y) × (y < high)) (λ y. x < y) xs a.1 d.0)) d.1 in
    omega (arith, n, p)

module _ (d : Dataset) (b : Base) (valid : IsDataset d) (base : IsBase d b) where
  pub chunks_once : IsOnce (chunks d b)
  chunks_once = ascending_once (chunks d b) (differ_ascends (chunks d b) (chunks_ascend d b valid base))

  few_below : 0 + length (chunks d b) ≤ 2 ^ 62
  unfolding chunks layer_chunks layers
  few_below =
      few_between 0 (2 ^ 62) (chunks d b) (omega arith)
      (all_flat (layer_chunks d b) (λ c. (0 ≤ c) × (c < 2 ^ 62)) (layers d)
      (all_more (λ l. (2 ≤ l) × (l < 2 + (top d - 1))) (λ l. AllByRecursion (λ c. (0 ≤ c) × (c < 2 ^ 62)) (layer_chunks d b l)) (layers d)
      (λ l p. all_ascending (λ c. (0 ≤ c) × (c < 2 ^ 62)) (map (chunk d l) b.supervoxels) (all_map (chunk d l) (λ c. (0 ≤ c) × (c < 2 ^ 62)) b.supervoxels
      (all_each (λ v. (0 ≤ chunk d l v) × (chunk d l v < 2 ^ 62)) b.supervoxels (λ v. (omega arith, chunk_small d valid.layout l (let t = top_low d in let q = p.1 in let two = p.0 in omega (arith, t, q, two)) v)))))
      (layers_from_differ 2 (top d - 1)).0))
      (chunks_ascend d b valid base)

  -- their ids fit into 62 bits, so there are no more
  pub chunks_few : length (chunks d b) ≤ 2 ^ 62
  chunks_few = let f = few_below in omega (arith, f)

  module _ (now layer : ℕ) (two : 2 ≤ layer) where
    abbrev news : ℕ → List ℕ
    news c = new_among d b (ingested d b now) layer (members d b layer c)

    -- the chunks of the nodes of a chunk
    abbrev run : ℕ → List ℕ
    run c = map (λ (n : Node). n.chunk) (map (new_node d b (ingested d b now) 0 layer) (news c))

    chunk_some : (v : ℕ) → 0 < chunk d layer v
    unfolding chunk id_of id_over
    chunk_some v = omega arith

    -- the chunk of a supervoxel holds the least one of its node
    first_there : (v : ℕ) → has b.supervoxels v ≡ true → has (news (chunk d layer v)) (least d b (ingested d b now) layer v) ≡ true
    unfolding new_among members is_new is_empty
    first_there v h =
        let u : ℕ = least d b (ingested d b now) layer v in
        let m = of_component d b valid base (ingested d b now) layer v u (least_in d b (ingested d b now) layer v h) in
        filter_has (λ w. eqb (least d b (ingested d b now) layer w) w && is_new d b (ingested d b now) layer w) (members d b layer (chunk d layer v)) u
        (filter_has (λ w. eqb (chunk d layer w) (chunk d layer v)) b.supervoxels u m.0 (eq-eqb _ _ (sym m.1)))
        (and_from _ _ (eq-eqb _ _ (least_same d b (ingested d b now) layer u v h (least_component d b (ingested d b now) layer v h))) refl)

    same_chunk : (c : ℕ) → AllByRecursion (λ z. z ≡ c) (run c)
    unfolding new_node
    same_chunk c =
        all_map (λ (n : Node). n.chunk) (λ z. z ≡ c) (map (new_node d b (ingested d b now) 0 layer) (news c))
        (all_map (new_node d b (ingested d b now) 0 layer) (λ (n : Node). n.chunk ≡ c) (news c)
        (all_more _ (λ v. chunk d layer v ≡ c) (news c) (λ v p. p.1) (least_all d b valid base (ingested d b now) layer c)))

    map_some : (f : ℕ → ℕ) (c v : ℕ) (xs : List ℕ) → has xs v ≡ true → AllByRecursion (λ z. z ≡ c) (map f xs) → Run c (map f xs)
    map_some f c v [] h a = has_none v h
    map_some f c v (x ∷ xs) h a = a

    run_there : (c v : ℕ) → has b.supervoxels v ≡ true → chunk d layer v ≡ c → Run c (run c)
    run_there c v h e =
        let there : has (news c) (least d b (ingested d b now) layer v) ≡ true = subst (λ x. has (news x) (least d b (ingested d b now) layer v) ≡ true) e (first_there v h) in
        let twice = map_twice (λ (n : Node). n.chunk) (new_node d b (ingested d b now) 0 layer) (news c) in
        subst (Run c) (sym twice) (map_some (λ w. (new_node d b (ingested d b now) 0 layer w).chunk) c (least d b (ingested d b now) layer v) (news c) there (subst (AllByRecursion (λ z. z ≡ c)) twice (same_chunk c)))

    runs : AllByRecursion (λ c. Run c (run c)) (layer_chunks d b layer)
    unfolding layer_chunks
    runs =
        all_ascending (λ c. Run c (run c)) (map (chunk d layer) b.supervoxels)
        (all_map (chunk d layer) (λ c. Run c (run c)) b.supervoxels (all_more (λ v. has b.supervoxels v ≡ true) (λ v. Run (chunk d layer v) (run (chunk d layer v))) b.supervoxels (λ v h. run_there (chunk d layer v) v h refl) (all_has_self b.supervoxels)))

    some_chunks : AllByRecursion (λ c. 0 < c) (layer_chunks d b layer)
    unfolding layer_chunks
    some_chunks = all_ascending (λ c. 0 < c) (map (chunk d layer) b.supervoxels) (all_map (chunk d layer) (λ c. 0 < c) b.supervoxels (all_each (λ v. 0 < chunk d layer v) b.supervoxels chunk_some))

    module _ (l : Layer) (is : IsLayer d b (ingested d b now) layer l) where
      made_chunks : map (λ (m : Made). m.chunk) l.made.items ≡ flat_map run (layer_chunks d b layer)
      unfolding layer_nodes
      made_chunks =
          sym (map_twice (λ (n : Node). n.chunk) (node_of b l.firsts.items) l.made.items)
          ∙ (ap (map (λ (n : Node). n.chunk)) is.nodes
          ∙ map_flat (λ (n : Node). n.chunk) (λ c. map (new_node d b (ingested d b now) 0 layer) (news c)) (layer_chunks d b layer))

      pub chunks_here : chunks_behind 0 l.made.items ≡ layer_chunks d b layer
      unfolding layer_chunks
      chunks_here = ap (fresh 0) made_chunks ∙ fresh_runs run 0 (layer_chunks d b layer) some_chunks (ascending_lists (map (chunk d layer) b.supervoxels)) runs

      pub made_some : AllByRecursion (λ (m : Made). 0 < m.chunk) l.made.items
      made_some = back l.made.items (subst (AllByRecursion (λ c. 0 < c)) (sym made_chunks) (flat (layer_chunks d b layer) some_chunks))
        where
          back : (ms : List Made) → AllByRecursion (λ c. 0 < c) (map (λ (m : Made). m.chunk) ms) → AllByRecursion (λ (m : Made). 0 < m.chunk) ms
          back [] a = tt
          back (m ∷ ms) a = (a.0, back ms a.1)

          flat : (cs : List ℕ) → AllByRecursion (λ c. 0 < c) cs → AllByRecursion (λ c. 0 < c) (flat_map run cs)
          flat cs a = all_flat run (λ c. 0 < c) cs (all_more (λ c. 0 < c) (λ c. AllByRecursion (λ x. 0 < x) (run c)) cs (λ c p. all_more (λ z. z ≡ c) (λ z. 0 < z) (run c) (λ z e. omega (arith, e, p)) (same_chunk c)) a)

  chunks_from : (now : ℕ) (ls : List Layer) (k : ℕ) → 2 ≤ k → AreLayers d b (ingested d b now) k ls → all_chunks ls ≡ flat_map (layer_chunks d b) (layers_from k (length ls))
  unfolding layers_from
  chunks_from now [] k two a = refl
  chunks_from now (l ∷ ls) k two a =
      ap (λ cs. cs ++ all_chunks ls) (chunks_here now k two l a.0)
      ∙ ap (λ cs. layer_chunks d b k ++ cs) (chunks_from now ls (k + 1) (omega (arith, two)) a.1)

  -- the chunks of all layers
  pub chunks_are : (now : ℕ) (ls : List Layer) → length ls ≡ top d - 1 → AreLayers d b (ingested d b now) 2 ls → all_chunks ls ≡ chunks d b
  unfolding chunks layers
  chunks_are now ls c a = chunks_from now ls 2 (omega arith) a ∙ ap (λ n. flat_map (layer_chunks d b) (layers_from 2 n)) c
