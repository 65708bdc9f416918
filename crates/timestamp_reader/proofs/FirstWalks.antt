-- The walk over the nodes of a chunk that the first entry made.
use Rattle.std.proofs.Common.{◌≡◌, ℕ, zero, suc, ◌+◌, ◌-◌, ◌^◌, ◌<◌, true, false, ◌&&◌, eqb, List, [], ◌∷◌, ◌++◌, length, map, Option, Some, None, IfSome, Ok, refl, sym, ◌∙◌, ap, subst, eq-eqb, arith}
use Rattle.std.specs.List.{slice_get, filter_map, cons_option, list_any}
use Rattle.std.proofs.lemmas.Bool.{cond-true, and_from, or_left, or_right, le-leb, eqb-true, false≢true}
use Rattle.std.proofs.lemmas.Option.{same_Some}
use Rattle.node_ids.specs.declared.Parts.{Parts}
use Rattle.node_ids.specs.Ids.{LayoutForm, width, greatest, id_of}
use Rattle.node_ids.specs.Packing.{packed}
use Rattle.op_model.specs.declared.base.Dataset.{Dataset}
use Rattle.op_model.specs.declared.base.Base.{Base}
use Rattle.op_model.specs.declared.entry.Entry.{Entry}
use Rattle.graph_model.specs.Lists.{has}
use Rattle.op_model.specs.Chunks.{top, layers, chunk}
use Rattle.record_rows.specs.Rows.{Row, HeaderRow, ChunkRow, NodeRow, Node}
use Rattle.record_rows.specs.Chains.{node_in}
use Rattle.record_rows.specs.LogRows.{layer_chunks, chunks, rows_of}
use Rattle.record_rows.specs.Readings.{HoldsChunk, HoldsNode, ParentImage, first_place, next_place}
use Rattle.record_rows.specs.Walks.{is_chunk, first_in}
use Rattle.record_rows.proofs.WalkLemmas.{LeadsTo, Behind, steps_left, from_spot, first_leads, next_leads, gather_first, gather_step}
use Rattle.record_rows.proofs.ToldLaws.{headed}
use Rattle.record_rows.proofs.BaseCounts.{flat_has}
use Rattle.record_rows.proofs.BaseRows.{place_in, chunk_at_place}
use Rattle.op_model.proofs.LegalLemmas.{ascending_has, map_has}
use Rattle.op_model.proofs.HistoryLemmas.{legal_prefix}
use Rattle.op_model.specs.Labels.{root}
use Rattle.op_model.specs.Operations.{ascending}
use Rattle.op_model.specs.Valid.{IsDataset, IsBase}
use Rattle.op_model.specs.Legal.{Legal}
use Rattle.graph_model.proofs.ListLemmas.{has_head}
use Rattle.record_rows.proofs.FirstRoots.{first_made}
use Rattle.op_model.proofs.LocalLemmas.{top_in_layers}
use Rattle.change_reader.proofs.RowSearches.{none_passes, stands_there}
use Rattle.timestamp_reader.specs.Places.{NodeAt, first_from}

-- the id of a layer's first chunk
pub zero_packs : (f : LayoutForm) (layer : ℕ) → let p : Parts = record { layer = layer; x = 0; y = 0; z = 0; segment = 0 } in packed f p ≡ Ok (id_of f p)
unfolding packed
zero_packs f layer = rw (le-leb 0 (2 ^ width f layer - 1) (omega arith), le-leb 0 (greatest f layer) (omega arith)) refl

-- a record that is no node of the chunk is none that the first entry made there
pub other_node : (c : ℕ) (row : Row) → node_in c row ≡ false → first_in c row ≡ None
unfolding node_in first_in
other_node c (NodeRow n) h = rw h refl
other_node c row h = refl

module _ (d : Dataset) (b : Base) (log : List Entry) (c : ℕ) where
  abbrev rows : List Row
  rows = rows_of d b log

  leads_node : (at : Option ℕ) → LeadsTo (node_in c) rows at → NodeAt d b log c at
  unfolding node_in
  leads_node None l = tt
  leads_node (Some p) (low, NodeRow n, h, t) = (low, n, h, eqb-true n.chunk c t)
  leads_node (Some p) (low, row, h, t) = absurd (false≢true t)

  same_from : (at : Option ℕ) → filter_map (first_in c) (from_spot rows at) ≡ first_from d b log c at
  unfolding from_spot first_from
  same_from None = refl
  same_from (Some p) = refl

  header_skips : node_in c (HeaderRow d (length b.supervoxels) (length (chunks d b))) ≡ false
  unfolding node_in
  header_skips = refl

  -- the chain begins with a node of the chunk, and from there on all are found
  pub first_at : NodeAt d b log c (first_place (node_in c) rows)
  first_at = leads_node (first_place (node_in c) rows) (first_leads (node_in c) rows (HeaderRow d (length b.supervoxels) (length (chunks d b))) (headed d b log) header_skips)

  pub first_all : first_from d b log c (first_place (node_in c) rows) ≡ filter_map (first_in c) rows
  first_all =
      sym (gather_first (node_in c) (first_in c) (other_node c) rows (HeaderRow d (length b.supervoxels) (length (chunks d b))) (headed d b log) header_skips
      ∙ same_from (first_place (node_in c) rows))

  -- behind a node comes another one of the chunk, or none
  pub next_at : (p : ℕ) → NodeAt d b log c (next_place (node_in c) rows p)
  next_at p = leads_node (next_place (node_in c) rows p) (next_leads (node_in c) rows p)

  -- from a node of the first entry on, it is found, and then those from the next one on
  pub next_all : (p : ℕ) (n : Node) → HoldsNode d b log p n → n.chunk ≡ c → n.made ≡ 0 → first_from d b log c (Some p) ≡ n.id ∷ first_from d b log c (next_place (node_in c) rows p)
  unfolding first_in
  next_all p n h e z =
      let t : eqb n.chunk c && eqb n.made 0 ≡ true = and_from _ _ (eq-eqb n.chunk c e) (eq-eqb n.made 0 z) in
      sym (same_from (Some p))
      ∙ (gather_step (node_in c) (first_in c) (other_node c) rows p (NodeRow n) h
      ∙ (ap (λ o. cons_option o (filter_map (first_in c) (from_spot rows (next_place (node_in c) rows p)))) (cond-true _ (Some n.id) None t)
      ∙ ap (λ ids. n.id ∷ ids) (same_from (next_place (node_in c) rows p))))

-- one step further on there are fewer left, also where the walk ends there
pub fewer : (n p : ℕ) → p < n → (next result : Option ℕ) → Behind p next → IfSome result (λ q. next ≡ Some q) → steps_left n result < steps_left n (Some p)
unfolding steps_left
fewer n p l next None b s = omega arith
fewer n p l None (Some q) b s = cc
fewer n p l (Some r) (Some q) b s = let e : r ≡ q = same_Some _ _ s in let k : p < r = b in omega arith

module _ (d : Dataset) (b : Base) (log : List Entry) (k : ℕ) where
  -- where the search for a chunk ends there is its record
  pub chunk_at : (p : ℕ) → first_place (is_chunk k) (rows_of d b log) ≡ Some p → HoldsChunk d b log p k
  unfolding is_chunk
  chunk_at p h = let s = stands_there d b log (is_chunk k) refl p h in from s.0 s.1 s.2
    where
      from : (row : Row) → slice_get (rows_of d b log) p ≡ Some row → is_chunk k row ≡ true → HoldsChunk d b log p k
      from (ChunkRow c) g t = subst (λ c. slice_get (rows_of d b log) p ≡ Some (ChunkRow c)) (eqb-true c k t) g
      from row g t = absurd (false≢true t)

  any_here : (rows : List Row) (p : ℕ) (row : Row) → slice_get rows p ≡ Some row → is_chunk k row ≡ true → list_any (is_chunk k) rows ≡ true
  any_here [] p row h t = cc
  any_here (r ∷ rows) zero row h t = let e : r ≡ row = cc in or_left (is_chunk k r) _ (ap (is_chunk k) e ∙ t)
  any_here (r ∷ rows) (suc p) row h t = or_right (is_chunk k r) _ (any_here rows p row h t)

  -- where it ends nowhere, there is no record of the chunk
  pub no_chunk : first_place (is_chunk k) (rows_of d b log) ≡ None → (p : ℕ) → HoldsChunk d b log p k → ⊥
  unfolding is_chunk
  no_chunk h p g = none_passes d b log (is_chunk k) refl h (any_here (rows_of d b log) p (ChunkRow k) g (eq-eqb k k refl))

module _ (d : Dataset) (b : Base) (log : List Entry) (words : List ℕ) (i : ParentImage d b log words) where
  -- a supervoxel's chunk of the top layer has a record
  pub top_held : (v : ℕ) → has b.supervoxels v ≡ true → (p : ℕ) × HoldsChunk d b log p (chunk d (top d) v)
  unfolding chunks layer_chunks
  top_held v h =
      let c : ℕ = chunk d (top d) v in
      let m : has (chunks d b) c ≡ true = flat_has (layer_chunks d b) (layers d) (top d) c (top_in_layers d) (ascending_has (map (chunk d (top d)) b.supervoxels) c (map_has (chunk d (top d)) b.supervoxels v h)) in
      let k = place_in (chunks d b) c m in
      (1 + length b.supervoxels + k.0, subst (λ x. HoldsChunk d b log (1 + length b.supervoxels + k.0) x) k.2 (chunk_at_place d b log words i k.0 k.1))

-- without supervoxels the first entry made no root
pub no_roots : (d : Dataset) (b : Base) → IsDataset d → IsBase d b → (newer : List Entry) (e : Entry) → Legal d b (newer ++ e ∷ []) → ((v : ℕ) → has b.supervoxels v ≡ true → ⊥) → [] ≡ e.made
unfolding ascending
no_roots d b valid base newer e legal none =
    sym (first_made d b valid base e (legal_prefix d b newer e [] legal) ∙ ap (λ vs. ascending (map (root d b (e ∷ [])) vs)) (empty b.supervoxels none))
  where
    empty : (vs : List ℕ) → ((v : ℕ) → has vs v ≡ true → ⊥) → vs ≡ []
    empty [] n = refl
    empty (v ∷ vs) n = absurd (n v (has_head v vs))
