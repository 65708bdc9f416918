-- How many nodes each layer has, and how many records a base.
use Rattle.std.proofs.Common.{◌≡◌, ℕ, zero, suc, ◌+◌, ◌-◌, ◌*◌, ◌^◌, ◌<◌, ◌≤◌, true, ◌&&◌, eqb, List, [], ◌∷◌, length, map, get_or, Some, refl, sym, ◌∙◌, ap, arith}
use Rattle.std.specs.List.{flat_map, slice_get}
use Rattle.std.specs.Prelude.{sum_by}
use Rattle.std.proofs.lemmas.List.{length-map}
use Rattle.std.proofs.lemmas.List.Sums.{sum_by-cons}
use Rattle.std.proofs.lemmas.Option.{slice_get-get_or}
use Rattle.chunk_geometry.proofs.LayerLemmas.{top_low}
use Rattle.op_model.specs.declared.base.Dataset.{Dataset}
use Rattle.op_model.specs.declared.base.Base.{Base}
use Rattle.graph_model.specs.Lists.{has}
use Rattle.graph_model.proofs.ListLemmas.{filter_length}
use Rattle.op_model.specs.Chunks.{chunk, layers, layers_from, members, top}
use Rattle.op_model.specs.Labels.{least, is_new, new_among}
use Rattle.op_model.specs.Operations.{ascending}
use Rattle.op_model.specs.Records.{total, chunk_count, nodes_in, node_count, records}
use Rattle.op_model.proofs.LegalLemmas.{ascending_has, map_has}
use Rattle.record_rows.specs.LogRows.{chunks, layer_chunks, layer_nodes, new_node}
use Rattle.record_rows.proofs.BaseCounts.{chunks_length}
use Rattle.record_rows.proofs.DifferLemmas.{all_each, all_more}
use Rattle.record_rows.proofs.OnceLemmas.{all_has_self, ascending_lists}
use Rattle.record_rows.proofs.SumLemmas.{length-flat, parted, total_ones, total_same}
use Rattle.op_model.specs.Ingest.{ingested}
use Rattle.layer_laws.proofs.IngestLemmas.{new_firsts, records_ingested, sum_told}
use Rattle.op_model.proofs.ChunkLemmas.{top_low as top_high}
use Rattle.octree_layers.specs.declared.layers.Layer.{Layer}
use Rattle.octree_layers.specs.Numbers.{node_of}
use Rattle.octree_layers.specs.Layers.{IsLayer, AreLayers, all_nodes}
use Rattle.hierarchy_build.specs.Links.{AreBuilt}
use Rattle.hierarchy_build.proofs.AllLinks.{layer_at, nodes_first}

pub nodes_summed : (b : Base) (ls : List Layer) → sum_by (λ l. length l.made.items) ls ≡ length (all_nodes b ls)
nodes_summed b [] = refl
nodes_summed b (l ∷ ls) = sum_by-cons (λ (l : Layer). length l.made.items) l ls ∙ (ap (λ n. length l.made.items + n) (nodes_summed b ls) ∙ sym (nodes_first b l ls))

module _ (d : Dataset) (b : Base) (now : ℕ) where
  -- the least supervoxels of a layer's nodes, chunk by chunk
  by_chunks : (l : ℕ) → total (map (λ c. length (new_among d b (ingested d b now) l (members d b l c))) (layer_chunks d b l)) ≡ length (new_among d b (ingested d b now) l b.supervoxels)
  unfolding new_among members layer_chunks
  by_chunks l =
      let here : ℕ → List ℕ = λ c. new_among d b (ingested d b now) l (members d b l c) in
      total_same (λ c. length (here c)) (λ c. total (map (λ v. 1) (here c))) (layer_chunks d b l) (all_each (λ c. length (here c) ≡ total (map (λ v. 1) (here c))) (layer_chunks d b l) (λ c. sym (total_ones (here c))))
      ∙ (parted (λ v. 1) (λ v. eqb (least d b (ingested d b now) l v) v && is_new d b (ingested d b now) l v) (chunk d l) (layer_chunks d b l) b.supervoxels (ascending_lists (map (chunk d l) b.supervoxels))
      (all_more (λ v. has b.supervoxels v ≡ true) (λ v. has (layer_chunks d b l) (chunk d l v) ≡ true) b.supervoxels
      (λ v h. ascending_has (map (chunk d l) b.supervoxels) (chunk d l v) (map_has (chunk d l) b.supervoxels v h)) (all_has_self b.supervoxels))
      ∙ total_ones (new_among d b (ingested d b now) l b.supervoxels))

  layer_count : (l : ℕ) → length (layer_nodes d b (ingested d b now) 0 l) ≡ nodes_in d b (ingested d b 0) l
  unfolding layer_nodes nodes_in
  layer_count l =
      let here : ℕ → List ℕ = λ c. new_among d b (ingested d b now) l (members d b l c) in
      length-flat (λ c. map (new_node d b (ingested d b now) 0 l) (here c)) (layer_chunks d b l)
      ∙ (total_same (λ c. length (map (new_node d b (ingested d b now) 0 l) (here c))) (λ c. length (here c)) (layer_chunks d b l)
      (all_each (λ c. length (map (new_node d b (ingested d b now) 0 l) (here c)) ≡ length (here c)) (layer_chunks d b l) (λ c. length-map (here c) (new_node d b (ingested d b now) 0 l)))
      ∙ (by_chunks l ∙ ap length (new_firsts d b now l b.supervoxels)))

  made_count : (layer : ℕ) (l : Layer) → IsLayer d b (ingested d b now) layer l → length l.made.items ≡ nodes_in d b (ingested d b 0) layer
  made_count layer l is = sym (length-map l.made.items (node_of b l.firsts.items)) ∙ (ap length is.nodes ∙ layer_count layer)

  layers_counted : (layer : ℕ) (ls : List Layer) → AreLayers d b (ingested d b now) layer ls → sum_by (λ l. length l.made.items) ls ≡ total (map (nodes_in d b (ingested d b 0)) (layers_from layer (length ls)))
  unfolding layers_from total
  layers_counted layer [] a = refl
  layers_counted layer (l ∷ ls) a =
      let s = sum_by-cons (λ (l : Layer). length l.made.items) l ls in
      let m = made_count layer l a.0 in
      let ih = layers_counted (layer + 1) ls a.1 in
      omega (arith, s, m, ih)

layers_few : (f : ℕ → ℕ) → ((l : ℕ) → f l < 2 ^ 32) → (layer n : ℕ) → total (map f (layers_from layer n)) ≤ n * 2 ^ 32
unfolding layers_from total
layers_few f low layer zero = omega arith
layers_few f low layer (suc n) = let l = low layer in let ih = layers_few f low (layer + 1) n in omega (arith, l, ih)

-- at most 17 layers of nodes, each of no more than there are supervoxels
pub few_nodes : (d : Dataset) (b : Base) (ls : List Layer) → AreBuilt d b ls → length b.supervoxels < 2 ^ 32 → sum_by (λ l. length l.made.items) ls < 2 ^ 40
unfolding nodes_in
few_nodes d b ls built few =
    let s = layers_counted d b 0 2 ls (built.layers 0) in
    let t = layers_few (nodes_in d b (ingested d b 0)) (λ l. let f = filter_length (λ v. eqb (least d b (ingested d b 0) l v) v) b.supervoxels in omega (arith, f, few)) 2 (length ls) in
    let c = built.count in
    let h = top_high d in
    omega (arith, s, t, c, h)

some_layer : (ls : List Layer) → 0 < length ls → Layer
some_layer [] l = absurd (omega arith)
some_layer (x ∷ ls) l = x

-- the records are the counted ones
pub records_told : (d : Dataset) (b : Base) (ls : List Layer) (now supervoxels held edges nodes roots : ℕ) → AreBuilt d b ls → supervoxels ≡ length b.supervoxels → held ≡ length (chunks d b) → edges ≡ length b.edges
    → nodes ≡ sum_by (λ l. length l.made.items) ls → ((l : Layer) → slice_get ls (length ls - 1) ≡ Some l → roots ≡ length l.made.items)
    → 1 + supervoxels + held + edges + nodes + (supervoxels + nodes - roots) + 1 ≡ records d b (ingested d b now)
unfolding node_count layers top chunk_count
records_told d b ls now supervoxels held edges nodes roots built s h e n r =
    let c = built.count in
    let two : 2 ≤ top d = top_low d.grid in
    let last : ℕ = length ls - 1 in
    let l : Layer = get_or ls last none in
    let high : 2 + last ≡ top d = omega (arith, c, two) in
    let all : nodes ≡ node_count d b (ingested d b 0) = n ∙ (layers_counted d b now 2 ls (built.layers now) ∙ ap (λ k. total (map (nodes_in d b (ingested d b 0)) (layers_from 2 k))) c) in
    let ends : roots ≡ nodes_in d b (ingested d b 0) (top d) =
    r l (slice_get-get_or ls last none (omega (arith, c, two))) ∙ (made_count d b now (2 + last) l (layer_at d b now 2 ls last none (built.layers now) (omega (arith, c, two))) ∙ ap (nodes_in d b (ingested d b 0)) high) in
    sum_told supervoxels held edges nodes roots (length b.supervoxels) (length (ascending (flat_map (λ layer. map (chunk d layer) b.supervoxels) (layers d)))) (length b.edges) (node_count d b (ingested d b 0)) (nodes_in d b (ingested d b 0) (top d))
    s (h ∙ chunks_length d b built.dataset built.base) e all ends
    ∙ records_ingested d b now
  where
    none : Layer
    none = some_layer ls (let c = built.count in let two : 2 ≤ top d = top_low d.grid in omega (arith, c, two))
