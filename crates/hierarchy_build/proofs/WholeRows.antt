-- The records of a base and its first entry, by the lists of their places.
use Rattle.std.proofs.Common.{◌≡◌, ℕ, ◌+◌, ◌++◌, ◌<◌, ◌≤◌, ◌^◌, List, [], ◌∷◌, length, length-append, map, Result, Ok, Err, refl, sym, ◌∙◌, ap, subst, append_assoc, arith}
use Rattle.op_model.specs.declared.base.Dataset.{Dataset}
use Rattle.op_model.specs.declared.base.Base.{Base}
use Rattle.op_model.specs.declared.entry.Entry.{Entry}
use Rattle.op_model.specs.Operations.{first_entry}
use Rattle.op_model.specs.Labels.{edges}
use Rattle.op_model.specs.Legal.{Legal, LabelsFit}
use Rattle.op_model.specs.Records.{records}
use Rattle.record_rows.specs.Rows.{Row, NodeRow, LinkRow, EdgeRow, EntryRow, Node, Link}
use Rattle.record_rows.specs.LogRows.{chunks, new_nodes, new_links, new_edges, marks, entry_rows, base_rows, rows_of}
use Rattle.record_rows.specs.Readings.{Image}
use Rattle.record_rows.specs.Words.{words_of}
use Rattle.record_rows.proofs.BaseCounts.{counted}
use Rattle.record_rows.proofs.ImageLemmas.{length-map}
use Rattle.row_append.specs.Tails.{IsIngest}
use Rattle.base_rows.specs.declared.lists.BaseEdge.{BaseEdge}
use Rattle.base_rows.specs.declared.lists.BaseLink.{BaseLink}
use Rattle.base_rows.specs.declared.lists.BaseLists.{BaseLists}
use Rattle.base_rows.specs.declared.lists.BaseNode.{BaseNode}
use Rattle.base_rows.specs.Lists.{AreNodes, IsOnce, link_of}
use Rattle.pcg_base.specs.declared.traits.NoMemory.{NoMemory}
use Rattle.pcg_base.specs.declared.vec_words.VecWords.{VecWords}
use Rattle.std.specs.Result.{IfOk}
use Rattle.base_rows.specs.BaseRows.{all_rows, linked_rows, noded_rows, edged_rows, owner_rows, ids_of}
use Rattle.base_rows.proofs.LinkBegin.{before_nodes}
use Rattle.base_rows.proofs.NodeSteps.{node_ids}
use Rattle.op_model.specs.Ingest.{ingested, IsFirstSpent}
use Rattle.octree_layers.specs.declared.layers.Layer.{Layer}
use Rattle.hierarchy_build.specs.declared.errors.BuildError.{BuildError}
use Rattle.octree_layers.specs.declared.errors.LayersError.{LayersError}
use Rattle.octree_layers.specs.declared.errors.LayersError.TheVariants as layers
use Rattle.octree_layers.specs.Layers.{all_nodes}
use Rattle.octree_layers.specs.Numbers.{OfSpent}
use Rattle.hierarchy_build.specs.Links.{AreBuilt}
use Rattle.hierarchy_build.specs.Built.{AreLists, IsRefused, Tells}
use Rattle.octree_layers.proofs.AllLayers.{nodes_all}
use Rattle.hierarchy_build.proofs.LayerChunks.{chunks_once}
use Rattle.hierarchy_build.proofs.OwnersOnce.{owners_once}

map_twice : {X Y Z : Type 0} (g : Y → Z) (f : X → Y) (xs : List X) → map (λ x. g (f x)) xs ≡ map g (map f xs)
map_twice g f [] = refl
map_twice g f (x ∷ xs) = ap (λ ys. g (f x) ∷ ys) (map_twice g f xs)

module _ (d : Dataset) (b : Base) (at : ℕ) where
  abbrev log : List Entry
  log = ingested d b at

  -- the first entry of the log is that of an ingest
  pub is_ingest : IsIngest (first_entry d b at) at
  unfolding first_entry
  is_ingest = (refl, refl, refl, refl, refl)

  module _ (es : List BaseEdge) (links : List BaseLink) (edged : map (λ x. x.edge) es ≡ edges d b [])
      (linked : map (link_of (b.supervoxels ++ ids_of (new_nodes d b log 0)) (ids_of (new_nodes d b log 0))) links ≡ new_links d b log 0) where
    abbrev ns : List Node
    ns = new_nodes d b log 0

    abbrev own : BaseLink → Link
    own = link_of (b.supervoxels ++ ids_of ns) (ids_of ns)

    edge_part : map (λ (x : BaseEdge). EdgeRow 0 x.edge) es ≡ map (EdgeRow 0) (edges d b [])
    edge_part = map_twice (EdgeRow 0) (λ (x : BaseEdge). x.edge) es ∙ ap (map (EdgeRow 0)) edged

    link_part : map (λ x. LinkRow (own x)) links ≡ map LinkRow (new_links d b log 0)
    link_part = map_twice LinkRow own links ∙ ap (map LinkRow) linked

    -- they are the records of the log
    pub whole_rows : all_rows d b.supervoxels (chunks d b) es ns links (first_entry d b at) ≡ rows_of d b log
    unfolding all_rows linked_rows noded_rows edged_rows owner_rows rows_of base_rows entry_rows new_edges marks first_entry
    whole_rows =
        let o : List Row = owner_rows d b.supervoxels (chunks d b) in
        let e : List Row = map (λ (x : BaseEdge). EdgeRow 0 x.edge) es in
        let n : List Row = map NodeRow ns in
        let l : List Row = map (λ x. LinkRow (own x)) links in
        let z : List Row = EntryRow (first_entry d b at) ∷ [] in
        append_assoc ((o ++ e) ++ n) l z
        ∙ (append_assoc (o ++ e) n (l ++ z)
        ∙ (append_assoc o e (n ++ (l ++ z))
        ∙ (ap (λ rs. o ++ (rs ++ (n ++ (l ++ z)))) edge_part ∙ ap (λ rs. o ++ (map (EdgeRow 0) (edges d b []) ++ (n ++ (rs ++ z)))) link_part)))

  -- the log of a base whose labels fit is legal
  pub is_legal : at < 2 ^ 62 → LabelsFit d b log → Legal d b log
  unfolding first_entry
  is_legal l f = (refl, l, f)

-- how many they are
pub whole_length : (d : Dataset) (ids cs : List ℕ) (es : List BaseEdge) (ns : List Node) (links : List BaseLink) (e : Entry)
    → length (all_rows d ids cs es ns links e) ≡ 2 + length ids + length cs + length es + length ns + length links
unfolding all_rows linked_rows noded_rows
whole_length d ids cs es ns links e =
    let own : BaseLink → Link = link_of (ids ++ ids_of ns) (ids_of ns) in
    let o : List Row = edged_rows d ids cs es in
    let n : List Row = map NodeRow ns in
    let l : List Row = map (λ x. LinkRow (own x)) links in
    let first : length (o ++ []) ≡ 1 + length ids + length cs + length es = before_nodes d ids cs es in
    let w = length-append o [] in
    let x = length-append o n in
    let y = length-append (o ++ n) l in
    let z = length-append ((o ++ n) ++ l) (EntryRow e ∷ []) in
    let p = length-map NodeRow ns in
    let q = length-map (λ x. LinkRow (own x)) links in
    omega (arith, first, w, x, y, z, p, q)

module _ (d : Dataset) (b : Base) (ls : List Layer) (at : ℕ) (built : AreBuilt d b ls) (fit : (now : ℕ) → LabelsFit d b (ingested d b now)) (lists : BaseLists) (are : AreLists d b ls lists) where
  same_nodes : all_nodes b ls ≡ new_nodes d b (ingested d b at) 0
  same_nodes = nodes_all d b (ingested d b at) ls built.count (built.layers at)

  -- the lists give the records of the log
  pub lists_rows : all_rows d b.supervoxels lists.chunks.items lists.edges.items (all_nodes b ls) lists.links.items (first_entry d b at) ≡ rows_of d b (ingested d b at)
  lists_rows =
      ap (λ cs. all_rows d b.supervoxels cs lists.edges.items (all_nodes b ls) lists.links.items (first_entry d b at)) are.chunks_are
      ∙ (ap (λ ns. all_rows d b.supervoxels (chunks d b) lists.edges.items ns lists.links.items (first_entry d b at)) same_nodes
      ∙ whole_rows d b at lists.edges.items lists.links.items are.edges_are
      (subst (λ ns. map (link_of (b.supervoxels ++ ids_of ns) (ids_of ns)) lists.links.items ≡ new_links d b (ingested d b at) 0) same_nodes (are.links_are at)))

  legal : at < 2 ^ 62 → Legal d b (ingested d b at)
  legal l = is_legal d b at l (fit at)

  -- as many as are counted
  pub lists_count : at < 2 ^ 62 → 2 + length b.supervoxels + length lists.chunks.items + length lists.edges.items + length lists.nodes.items + length lists.links.items ≡ records d b (ingested d b at)
  lists_count l =
      let n = are.nodes_are.count in
      let whole = whole_length d b.supervoxels lists.chunks.items lists.edges.items (all_nodes b ls) lists.links.items (first_entry d b at) in
      let same = ap length lists_rows in
      let all = counted d b (ingested d b at) built.dataset built.base (legal l) in
      omega (arith, n, whole, same, all)

  -- each supervoxel and node stands at one place
  pub lists_once : IsOnce (b.supervoxels ++ map (λ (n : BaseNode). n.id) lists.nodes.items)
  lists_once =
      subst (λ xs. IsOnce (b.supervoxels ++ xs)) (sym (node_ids (chunks d b) lists.nodes.items (all_nodes b ls) are.nodes_are ∙ ap ids_of same_nodes))
      (owners_once d b built.dataset built.base at (fit at))

  -- and each chunk
  pub lists_chunks : IsOnce lists.chunks.items
  lists_chunks = subst IsOnce (sym are.chunks_are) (chunks_once d b built.dataset built.base)

  -- the words of these records, if there are any, are the image of the log
  pub lists_image : (words : List ℕ) → at < 2 ^ 62 → records d b (ingested d b at) ≤ d.capacity
      → words ≡ words_of (all_rows d b.supervoxels lists.chunks.items lists.edges.items (all_nodes b ls) lists.links.items (first_entry d b at)) → Image d b (ingested d b at) words
  unfolding first_entry
  lists_image words l fits w = record {
    dataset = built.dataset;
    base = built.base;
    legal = legal l;
    numbers = ((omega arith, omega arith), tt);
    fits = fits;
    stands = w ∙ ap words_of lists_rows;
  }

  pub words_image : (ids : List ℕ) (result : Result VecWords NoMemory) → ids ≡ b.supervoxels → at < 2 ^ 62 → records d b (ingested d b at) ≤ d.capacity
      → IfOk result (λ w. (ns : List Node) (e : Entry) → AreNodes lists.chunks.items lists.nodes.items ns → IsIngest e at
      → w.words ≡ words_of (all_rows d ids lists.chunks.items lists.edges.items ns lists.links.items e))
      → IfOk result (λ w. Image d b (ingested d b at) w.words)
  words_image ids (Ok w) i l fits f =
      lists_image w.words l fits
      (f (all_nodes b ls) (first_entry d b at) (subst (λ cs. AreNodes cs lists.nodes.items (all_nodes b ls)) (sym are.chunks_are) are.nodes_are) (is_ingest d b at)
      ∙ ap (λ xs. words_of (all_rows d xs lists.chunks.items lists.edges.items (all_nodes b ls) lists.links.items (first_entry d b at))) i)
  words_image ids (Err e) i l fits f = tt

-- why the layers aren't built is why the records aren't
pub refused_so : (d : Dataset) (b : Base) (error : LayersError) (result : BuildError) → Tells d error result → OfSpent (λ layer c. (now : ℕ) → IsFirstSpent d b (ingested d b now) layer c) error → IsRefused d b result
unfolding OfSpent
refused_so d b (layers.IdsSpent layer c) result t f = subst (IsRefused d b) (sym t) (c, f, (refl, refl, refl))
refused_so d b layers.NoMemory result t f = subst (IsRefused d b) (sym t) tt
