-- The links of all layers, one layer behind the other, are those of the records.
use Rattle.std.proofs.Common.{◌≡◌, ℕ, zero, suc, ◌+◌, ◌<◌, ◌≤◌, Bool, eqb, List, [], ◌∷◌, ◌++◌, length, map, get_or, drop, refl, sym, ◌∙◌, ap, subst, arith, append_assoc, append-nil, length-append}
use Rattle.std.specs.List.{All, filter, flat_map, range_with_len}
use Rattle.std.proofs.lemmas.List.{map-append, length-map, get_or-map, get_or_append_left, get_or-append-add, at_drop_more}
use Rattle.std.proofs.lemmas.List.FromFn.{length-range_with_len, get_or-range_with_len}
use Rattle.std.proofs.lemmas.List.Elements.{All-append, All-from_recursion, recursion_from_All}
use Rattle.std.proofs.lemmas.Grind.{flat_map-append}
use Rattle.chunk_geometry.proofs.LayerLemmas.{top_low}
use Rattle.op_model.specs.declared.base.Dataset.{Dataset}
use Rattle.op_model.specs.declared.base.Base.{Base}
use Rattle.op_model.specs.Chunks.{top, layers, layers_from}
use Rattle.op_model.specs.Labels.{node}
use Rattle.op_model.specs.Valid.{IsBase, IsDataset}
use Rattle.record_rows.specs.Rows.{Node}
use Rattle.record_rows.proofs.DifferLemmas.{all_map}
use Rattle.record_rows.specs.LogRows.{children_of, links_of, layer_nodes, new_links}
use Rattle.base_rows.specs.declared.lists.BaseLink.{BaseLink}
use Rattle.base_rows.specs.Lists.{IsWithin, link_of}
use Rattle.op_model.specs.Ingest.{ingested}
use Rattle.octree_layers.specs.declared.numbering.Made.{Made}
use Rattle.octree_layers.specs.declared.layers.Layer.{Layer}
use Rattle.octree_layers.specs.Numbers.{leaves_at, node_of}
use Rattle.octree_layers.specs.Layers.{IsLayer, AreLayers, all_nodes}
use Rattle.hierarchy_build.specs.Links.{AreBuilt, AreLayerLinks}
use Rattle.octree_layers.proofs.AllLayers.{firsts_within}
use Rattle.hierarchy_build.proofs.Below.{children}
use Rattle.octree_layers.proofs.Joining.{kept_all}
use Rattle.octree_layers.proofs.Leaves.{filter_of_map, map_twice}
use Rattle.hierarchy_build.proofs.Linked.{layer_linked, layer_within, map_all_same}
use Rattle.octree_layers.proofs.Steps.{none_left}

-- the links of layers one behind the other, of the first of them with these children
abbrev pub AreLinks : ℕ → List ℕ → ℕ → ℕ → List Layer → List BaseLink → Type 0
AreLinks n leads first_child first_parent [] links = links ≡ []
AreLinks n leads first_child first_parent (l ∷ ls) links =
    (here rest : List BaseLink) × AreLayerLinks first_child first_parent leads l here × (links ≡ here ++ rest)
    × AreLinks n (map (λ m. m.least) l.made.items) (n + first_parent) (first_parent + length l.made.items) ls rest

pub links_step : (n : ℕ) (leads leads' : List ℕ) (child child' parent parent' : ℕ) (ls : List Layer) (i : ℕ) (l : Layer) (start : List ℕ) (done more links : List BaseLink) → i < length ls → l ≡ get_or ls i l
    → AreLayerLinks child parent leads l more → leads' ≡ map (λ m. m.least) l.made.items → child' ≡ n + parent → parent' ≡ parent + length l.made.items → links ≡ done ++ more
    → ((rest : List BaseLink) → AreLinks n leads child parent (drop i ls) rest → AreLinks n start 0 0 ls (done ++ rest))
    → (rest : List BaseLink) → AreLinks n leads' child' parent' (drop (i + 1) ls) rest → AreLinks n start 0 0 ls (links ++ rest)
links_step n leads leads' child child' parent parent' ls i l start done more links less is are e c p m f rest r =
    let next : drop i ls ≡ l ∷ drop (i + 1) ls = at_drop_more (λ ys. ys) ls i l less ∙ ap (λ (x : Layer). x ∷ drop (i + 1) ls) (sym is) in
    let r1 = subst (λ xs. AreLinks n xs child' parent' (drop (i + 1) ls) rest) e r in
    let r2 = subst (λ k. AreLinks n (map (λ m. m.least) l.made.items) k parent' (drop (i + 1) ls) rest) c r1 in
    let r3 = subst (λ k. AreLinks n (map (λ m. m.least) l.made.items) (n + parent) k (drop (i + 1) ls) rest) p r2 in
    subst (AreLinks n start 0 0 ls) (sym (ap (λ xs. xs ++ rest) m ∙ append_assoc done more rest)) (f (more ++ rest) (subst (λ xs. AreLinks n leads child parent xs (more ++ rest)) (sym next) (more, rest, are, refl, r3)))

pub links_end : (n : ℕ) (leads : List ℕ) (child parent : ℕ) (ls : List Layer) (i : ℕ) (start : List ℕ) (done : List BaseLink) → length ls ≤ i
    → ((rest : List BaseLink) → AreLinks n leads child parent (drop i ls) rest → AreLinks n start 0 0 ls (done ++ rest)) → AreLinks n start 0 0 ls done
links_end n leads child parent ls i start done less f =
    subst (AreLinks n start 0 0 ls) (append-nil done) (f [] (subst (λ xs. AreLinks n leads child parent xs []) (sym (none_left ls i less)) refl))

nodes_append : (b : Base) (xs ys : List Layer) → all_nodes b (xs ++ ys) ≡ all_nodes b xs ++ all_nodes b ys
nodes_append b xs ys = flat_map-append (λ (l : Layer). map (node_of b l.firsts.items) l.made.items) xs ys

pub nodes_first : (b : Base) (l : Layer) (ls : List Layer) → length (all_nodes b (l ∷ ls)) ≡ length l.made.items + length (all_nodes b ls)
nodes_first b l ls =
    let a = length-append (map (node_of b l.firsts.items) l.made.items) (all_nodes b ls) in
    let m = length-map l.made.items (node_of b l.firsts.items) in
    omega (arith, a, m)

module _ (d : Dataset) (b : Base) (valid : IsDataset d) (base : IsBase d b) (now : ℕ) (built : List Layer) where
  nodes : List ℕ
  nodes = map (λ (n : Node). n.id) (all_nodes b built)

  owners : List ℕ
  owners = b.supervoxels ++ nodes

  -- the children of a layer, told by their least leaves
  record Kids (layer : ℕ) (leads : List ℕ) (first : ℕ) : Type 0 where
    name : ℕ → ℕ
    named : (j : ℕ) → j < length leads → get_or owners (first + j) 0 ≡ name (get_or leads j 0)
    low : (j : ℕ) → j < length leads → get_or leads j 0 < length b.supervoxels
    kids : (l : Layer) → layer ≤ top d → IsLayer d b (ingested d b now) layer l
        → All (λ m. children_of d b (ingested d b now) layer (leaves_at b l.firsts.items m.least) ≡ map name (filter (λ i. eqb (get_or l.firsts.items i 0) m.least) leads)) l.made.items

  -- at first they are the supervoxels
  first_kids : Kids 2 (range_with_len 0 (length b.supervoxels)) 0
  unfolding owners children_of
  first_kids = record {
    name = λ i. get_or b.supervoxels i 0;
    named = λ j m.
        let n = low_place j m in
        let e : get_or (range_with_len 0 (length b.supervoxels)) j 0 ≡ 0 + j = get_or-range_with_len 0 (length b.supervoxels) j 0 n in
        let z : 0 + j ≡ j = omega arith in
        ap (λ k. get_or (b.supervoxels ++ nodes) k 0) z ∙ (get_or_append_left b.supervoxels nodes 0 j n ∙ ap (λ k. get_or b.supervoxels k 0) (sym (e ∙ z)));
    low = λ j m.
        let n = low_place j m in
        let e = get_or-range_with_len 0 (length b.supervoxels) j 0 n in
        omega (arith, n, e);
    kids = λ l high is i e m. refl;
  }
    where
      low_place : (j : ℕ) → j < length (range_with_len 0 (length b.supervoxels)) → j < length b.supervoxels
      low_place j m = let n = length-range_with_len 0 (length b.supervoxels) in omega (arith, n)

  module _ (done ls : List Layer) (l : Layer) (all : built ≡ done ++ l ∷ ls) where
    -- the nodes of a layer stand behind those of the layers before
    own : (i : ℕ) (e : Made) → i < length l.made.items → get_or nodes (length (all_nodes b done) + i) 0 ≡ (get_or l.made.items i e).id
    unfolding nodes
    own i e less =
        let id : Node → ℕ = λ n. n.id in
        let before : List Node = all_nodes b done in
        let here : List Node = map (node_of b l.firsts.items) l.made.items in
        let m : length (map id before) ≡ length before = length-map before id in
        let k : length here ≡ length l.made.items = length-map l.made.items (node_of b l.firsts.items) in
        let k2 : length (map id here) ≡ length here = length-map here id in
        let split : map id (all_nodes b built) ≡ map id before ++ (map id here ++ map id (all_nodes b ls)) =
        ap (λ xs. map id (all_nodes b xs)) all ∙ (ap (map id) (nodes_append b done (l ∷ ls)) ∙ (map-append id before (here ++ all_nodes b ls) ∙ ap (λ ys. map id before ++ ys) (map-append id here (all_nodes b ls)))) in
        ap (λ xs. get_or xs (length before + i) 0) split
        ∙ (ap (λ x. get_or (map id before ++ (map id here ++ map id (all_nodes b ls))) (x + i) 0) (sym m)
        ∙ (get_or-append-add (map id before) (map id here ++ map id (all_nodes b ls)) i 0
        ∙ (get_or_append_left (map id here) (map id (all_nodes b ls)) 0 i (omega (arith, k, k2))
        ∙ (get_or-map id here i (node_of b l.firsts.items e) 0 (omega (arith, k)) ∙ ap id (get_or-map (node_of b l.firsts.items) l.made.items i e (node_of b l.firsts.items e) less)))))

    next_kids : (layer : ℕ) → 2 ≤ layer → IsLayer d b (ingested d b now) layer l → Kids (layer + 1) (map (λ m. m.least) l.made.items) (length b.supervoxels + length (all_nodes b done))
    unfolding owners
    next_kids layer two is = record {
      name = name;
      named = λ j m.
          let n = low_place j m in
          let s : length b.supervoxels + length (all_nodes b done) + j ≡ length b.supervoxels + (length (all_nodes b done) + j) = omega arith in
          ap (λ k. get_or (b.supervoxels ++ nodes) k 0) s
          ∙ (get_or-append-add b.supervoxels nodes (length (all_nodes b done) + j) 0
          ∙ (own j nobody n ∙ (is.ids j nobody n ∙ ap name (sym (get_or-map (λ (m : Made). m.least) l.made.items j nobody 0 n)))));
      low = λ j m.
          let n = low_place j m in
          let e = get_or-map (λ (m : Made). m.least) l.made.items j nobody 0 n in
          let own = (is.least j nobody n).0 in
          omega (arith, e, own);
      kids = λ up high above i e m.
          children d b now layer l up valid base two high is above i e m ∙ sym (named_ids (λ p. eqb (get_or up.firsts.items p 0) (get_or up.made.items i e).least));
    }
      where
        nobody : Made
        nobody = record { id = 0; chunk = 0; least = 0 }

        name : ℕ → ℕ
        name p = node d b (ingested d b now) layer (get_or b.supervoxels p 0)

        low_place : (j : ℕ) → j < length (map (λ (m : Made). m.least) l.made.items) → j < length l.made.items
        low_place j m = let n = length-map l.made.items (λ (m : Made). m.least) in omega (arith, n)

        named_ids : (t : ℕ → Bool) → map name (filter t (map (λ (m : Made). m.least) l.made.items)) ≡ map (λ (m : Made). m.id) (filter (λ (m : Made). t m.least) l.made.items)
        named_ids t =
            let kept : List Made = filter (λ (m : Made). t m.least) l.made.items in
            ap (map name) (filter_of_map t (λ (m : Made). m.least) l.made.items)
            ∙ (map_twice name (λ (m : Made). m.least) kept
            ∙ sym (map_all_same (λ (m : Made). m.id) (λ (m : Made). name m.least) kept
            (recursion_from_All (λ (m : Made). m.id ≡ name m.least) kept (kept_all (λ (m : Made). m.id ≡ name m.least) (λ (m : Made). t m.least) l.made.items is.ids))))

  all_linked : (done ls : List Layer) (layer : ℕ) (leads : List ℕ) (child parent : ℕ) (links : List BaseLink) → built ≡ done ++ ls → 2 ≤ layer → layer + length ls ≤ top d + 1 → AreLayers d b (ingested d b now) layer ls
      → parent ≡ length (all_nodes b done) → child + length leads ≤ length b.supervoxels + parent → Kids layer leads child → AreLinks (length b.supervoxels) leads child parent ls links
      → (map (link_of owners nodes) links ≡ flat_map (λ k. flat_map (links_of d b (ingested d b now) k) (layer_nodes d b (ingested d b now) 0 k)) (layers_from layer (length ls))) × All (IsWithin owners nodes) links
  unfolding layers_from owners nodes
  all_linked done [] layer leads child parent links all two high are p c kids a = (ap (map (link_of owners nodes)) a, subst (All (IsWithin owners nodes)) (sym a) (λ i d l. absurd (omega arith)))
  all_linked done (l ∷ ls) layer leads child parent links all two high are p c kids a =
      let before : ℕ = length (all_nodes b done) in
      let here : List BaseLink = a.0 in
      let rest : List BaseLink = a.1 in
      let mine : AreLayerLinks child before leads l here = subst (λ k. AreLayerLinks child k leads l here) p a.2 in
      let ids : (i : ℕ) (e : Made) → i < length l.made.items → get_or nodes (before + i) 0 ≡ (get_or l.made.items i e).id = own done ls l all in
      let few : length nodes ≡ before + (length l.made.items + length (all_nodes b ls)) =
      length-map (all_nodes b built) (λ (n : Node). n.id) ∙ (ap (λ xs. length (all_nodes b xs)) all ∙ (ap length (nodes_append b done (l ∷ ls)) ∙ (length-append (all_nodes b done) (all_nodes b (l ∷ ls)) ∙ ap (λ k. before + k) (nodes_first b l ls)))) in
      let both : length owners ≡ length b.supervoxels + length nodes = length-append b.supervoxels nodes in
      let more : before + length l.made.items ≡ length (all_nodes b (done ++ l ∷ [])) =
      (let e = ap length (nodes_append b done (l ∷ [])) in let f = length-append (all_nodes b done) (all_nodes b (l ∷ [])) in let g = nodes_first b l [] in omega (arith, e, f, g)) in
      let next = subst (λ k. AreLinks (length b.supervoxels) (map (λ m. m.least) l.made.items) (length b.supervoxels + k) (k + length l.made.items) ls rest) p a.4 in
      let same : length (map (λ (m : Made). m.least) l.made.items) ≡ length l.made.items = length-map l.made.items (λ (m : Made). m.least) in
      let ih = all_linked (done ++ l ∷ []) ls (layer + 1) (map (λ m. m.least) l.made.items) (length b.supervoxels + before) (before + length l.made.items) rest
      (all ∙ sym (append_assoc done (l ∷ []) ls)) (omega arith) (omega arith) are.1 more (omega (arith, same)) (next_kids done ls l all layer two are.0) next in
      let kin = kids.kids l (omega arith) are.0 in (
        ap (map (link_of owners nodes)) a.3
            ∙ (map-append (link_of owners nodes) here rest
            ∙ (ap (λ xs. xs ++ map (link_of owners nodes) rest) (layer_linked d b now layer l are.0 leads kids.name child before owners nodes kids.named kids.low kin ids here mine)
            ∙ ap (λ xs. flat_map (links_of d b (ingested d b now) layer) (layer_nodes d b (ingested d b now) 0 layer) ++ xs) ih.0)),
        subst (All (IsWithin owners nodes)) (sym a.3) (All-append (IsWithin owners nodes) here rest
            (layer_within d b now layer l are.0 leads kids.name child before owners nodes kids.named kids.low kin ids here mine (omega (arith, p, c, both, few)) (omega (arith, few))) ih.1),
      )

pub base_linked : (d : Dataset) (b : Base) (now : ℕ) (ls : List Layer) (links : List BaseLink) → AreBuilt d b ls → AreLinks (length b.supervoxels) (range_with_len 0 (length b.supervoxels)) 0 0 ls links
    → (map (link_of (b.supervoxels ++ map (λ n. n.id) (all_nodes b ls)) (map (λ n. n.id) (all_nodes b ls))) links ≡ new_links d b (ingested d b now) 0)
    × All (IsWithin (b.supervoxels ++ map (λ n. n.id) (all_nodes b ls)) (map (λ n. n.id) (all_nodes b ls))) links
unfolding new_links layers top owners nodes
base_linked d b now ls links built a =
    let n = length-range_with_len 0 (length b.supervoxels) in
    let c = built.count in
    let two : 2 ≤ top d = top_low d.grid in
    let r = all_linked d b built.dataset built.base now ls [] ls 2 (range_with_len 0 (length b.supervoxels)) 0 0 links refl (omega arith) (omega (arith, c, two)) (built.layers now) refl (omega (arith, n)) (first_kids d b built.dataset built.base now ls) a in
    (r.0 ∙ ap (λ k. flat_map (λ layer. flat_map (links_of d b (ingested d b now) layer) (layer_nodes d b (ingested d b now) 0 layer)) (layers_from 2 k)) c, r.1)

pub layer_at : (d : Dataset) (b : Base) (now layer : ℕ) (ls : List Layer) (i : ℕ) (e : Layer) → AreLayers d b (ingested d b now) layer ls → i < length ls → IsLayer d b (ingested d b now) (layer + i) (get_or ls i e)
layer_at d b now layer [] i e a l = absurd (omega arith)
layer_at d b now layer (x ∷ ls) zero e a l = let z : layer ≡ layer + 0 = omega arith in subst (λ k. IsLayer d b (ingested d b now) k x) z a.0
layer_at d b now layer (x ∷ ls) (suc i) e a l =
    let s : layer + 1 + i ≡ layer + suc i = omega arith in subst (λ k. IsLayer d b (ingested d b now) k (get_or ls i e)) s (layer_at d b now (layer + 1) ls i e a.1 (omega arith))

pub range_low : (n : ℕ) (xs : List ℕ) → xs ≡ range_with_len 0 n → All (λ p. p < n) xs
range_low n xs e = subst (All (λ p. p < n)) (sym e) (λ i d l. let m = length-range_with_len 0 n in let g = get_or-range_with_len 0 n i d (omega (arith, m)) in omega (arith, m, g))

-- a layer as its links need it
pub record IsSound (n : ℕ) (l : Layer) : Type 0 where
  pub count : length l.firsts.items ≡ n
  pub firsts : All (λ p. p < n) l.firsts.items
  pub made : All (λ m. m.least < n) l.made.items

pub sound_layer : (d : Dataset) (b : Base) (ls : List Layer) (i : ℕ) (l : Layer) → AreBuilt d b ls → i < length ls → l ≡ get_or ls i l → IsSound (length b.supervoxels) l
sound_layer d b ls i l built less is = subst (IsSound (length b.supervoxels)) (sym is) (let a = layer_at d b 0 2 ls i l (built.layers 0) less in record {
  count = a.firsts.count;
  firsts = subst (λ n. All (λ p. p < n) (get_or ls i l).firsts.items) a.firsts.count (firsts_within d b (ingested d b 0) (2 + i) (get_or ls i l).firsts.items a.firsts);
  made = λ k e m. (a.least k e m).0;
})

pub leasts_low : (n : ℕ) (l : Layer) (leads : List ℕ) → IsSound n l → leads ≡ map (λ m. m.least) l.made.items → All (λ p. p < n) leads
leasts_low n l leads sound e =
    subst (All (λ p. p < n)) (sym e) (All-from_recursion (λ p. p < n) (map (λ (m : Made). m.least) l.made.items)
    (all_map (λ (m : Made). m.least) (λ p. p < n) l.made.items (recursion_from_All (λ (m : Made). m.least < n) l.made.items sound.made)))

pub nodes_left : (b : Base) (ls : List Layer) (i : ℕ) (l : Layer) → i < length ls → l ≡ get_or ls i l → length (all_nodes b (drop i ls)) ≡ length l.made.items + length (all_nodes b (drop (i + 1) ls))
nodes_left b ls i l less is = ap (λ xs. length (all_nodes b xs)) (at_drop_more (λ ys. ys) ls i l less ∙ ap (λ (x : Layer). x ∷ drop (i + 1) ls) (sym is)) ∙ nodes_first b l (drop (i + 1) ls)
