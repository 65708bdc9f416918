-- The nodes of all layers stand with the places of their chunks.
use Rattle.std.proofs.Common.{◌≡◌, ℕ, zero, suc, ◌+◌, ◌-◌, ◌<◌, ◌≤◌, Bool, true, false, cond, eqb, List, [], ◌∷◌, ◌++◌, length, map, drop, get_or, Some, None, Option, refl, sym, ◌∙◌, ap, ap₂, subst, arith, length-append, append_assoc}
use Rattle.std.specs.List.{AllByRecursion, slice_get}
use Rattle.std.proofs.lemmas.Bool.{eqb-true, false≢true}
use Rattle.std.proofs.lemmas.List.{length-map, drop_more}
use Rattle.std.proofs.lemmas.Option.{same_Some}
use Rattle.op_model.specs.declared.base.Dataset.{Dataset}
use Rattle.op_model.specs.declared.base.Base.{Base}
use Rattle.op_model.specs.declared.entry.Entry.{Entry}
use Rattle.graph_model.specs.Lists.{head_or}
use Rattle.op_model.specs.Chunks.{top}
use Rattle.op_model.specs.Valid.{IsDataset, IsBase}
use Rattle.record_rows.specs.Rows.{Node}
use Rattle.record_rows.specs.LogRows.{chunks}
use Rattle.base_rows.specs.declared.lists.BaseNode.{BaseNode}
use Rattle.base_rows.specs.Lists.{IsNode, AreNodes}
use Rattle.op_model.specs.Ingest.{ingested}
use Rattle.octree_layers.specs.declared.numbering.Made.{Made}
use Rattle.octree_layers.specs.declared.layers.Layer.{Layer}
use Rattle.octree_layers.specs.Numbers.{leaves_at, node_of, told, told_node}
use Rattle.octree_layers.specs.Layers.{IsLayer, AreLayers, all_nodes}
use Rattle.hierarchy_build.specs.Chunked.{fresh, chunks_behind, all_chunks, base_node, nodes_behind, all_behind}
use Rattle.octree_layers.proofs.Steps.{none_left}
use Rattle.hierarchy_build.proofs.Fresh.{fresh_few, behind_end}
use Rattle.hierarchy_build.proofs.LayerChunks.{chunks_are, made_some}

-- these numbers stand in a list from a place on
abbrev Stands : List ℕ → ℕ → List ℕ → Type 0
Stands cs from [] = Unit {0}
Stands cs from (x ∷ xs) = ((from < length cs) × (get_or cs from 0 ≡ x)) × Stands cs (from + 1) xs

stands_from : (cs : List ℕ) (from : ℕ) (xs : List ℕ) → ((k : ℕ) → k < length xs → (from + k < length cs) × (get_or cs (from + k) 0 ≡ get_or xs k 0)) → Stands cs from xs
stands_from cs from [] f = tt
stands_from cs from (x ∷ xs) f =
    let z : from + 0 ≡ from = omega arith in (
      subst (λ n. (n < length cs) × (get_or cs n 0 ≡ x)) z (f 0 (omega arith)),
      stands_from cs (from + 1) xs (λ k l. let e : from + suc k ≡ from + 1 + k = omega arith in subst (λ n. (n < length cs) × (get_or cs n 0 ≡ get_or xs k 0)) e (f (suc k) (omega arith))),
    )

stands_whole : (cs : List ℕ) → Stands cs 0 cs
stands_whole cs = stands_from cs 0 cs (λ k l. let e : k ≡ 0 + k = omega arith in subst (λ n. (n < length cs) × (get_or cs n 0 ≡ get_or cs k 0)) e (l, refl))

stands_parts : (cs : List ℕ) (from : ℕ) (xs ys : List ℕ) → Stands cs from (xs ++ ys) → Stands cs from xs × Stands cs (from + length xs) ys
stands_parts cs from [] ys s = (tt, subst (λ n. Stands cs n ys) (let e : from ≡ from + 0 = omega arith in e) s)
stands_parts cs from (x ∷ xs) ys s =
    let p = stands_parts cs (from + 1) xs ys s.1 in
    ((s.0, p.0), subst (λ n. Stands cs n ys) (let e : from + 1 + length xs ≡ from + suc (length xs) = omega arith in e) p.1)

-- each is that node
abbrev OneByOne : List ℕ → List BaseNode → List Node → Type 0
OneByOne cs [] [] = Unit {0}
OneByOne cs [] (n ∷ ns) = ⊥
OneByOne cs (x ∷ xs) [] = ⊥
OneByOne cs (x ∷ xs) (n ∷ ns) = IsNode cs x n × OneByOne cs xs ns

one_append : (cs : List ℕ) (xs ys : List BaseNode) (ns ms : List Node) → OneByOne cs xs ns → OneByOne cs ys ms → OneByOne cs (xs ++ ys) (ns ++ ms)
one_append cs [] ys [] ms a c = c
one_append cs [] ys (n ∷ ns) ms a c = absurd a
one_append cs (x ∷ xs) ys [] ms a c = absurd a
one_append cs (x ∷ xs) ys (n ∷ ns) ms a c = (a.0, one_append cs xs ys ns ms a.1 c)

one_count : (cs : List ℕ) (xs : List BaseNode) (ns : List Node) → OneByOne cs xs ns → length xs ≡ length ns
one_count cs [] [] a = refl
one_count cs [] (n ∷ ns) a = absurd a
one_count cs (x ∷ xs) [] a = absurd a
one_count cs (x ∷ xs) (n ∷ ns) a = ap suc (one_count cs xs ns a.1)

some : {X : Type 0} → Option X → Bool
some (Some x) = true
some None = false

one_at : (cs : List ℕ) (xs : List BaseNode) (ns : List Node) → OneByOne cs xs ns → (i : ℕ) (x : BaseNode) (n : Node) → slice_get xs i ≡ Some x → slice_get ns i ≡ Some n → IsNode cs x n
unfolding some
one_at cs [] [] a i x n e f = absurd (false≢true (ap some e))
one_at cs [] (m ∷ ns) a i x n e f = absurd a
one_at cs (y ∷ xs) [] a i x n e f = absurd a
one_at cs (y ∷ xs) (m ∷ ns) a zero x n e f = subst (λ w. IsNode cs w n) (same_Some y x e) (subst (λ w. IsNode cs y w) (same_Some m n f) a.0)
one_at cs (y ∷ xs) (m ∷ ns) a (suc i) x n e f = one_at cs xs ns a.1 i x n e f

one_nodes : (cs : List ℕ) (xs : List BaseNode) (ns : List Node) → OneByOne cs xs ns → AreNodes cs xs ns
one_nodes cs xs ns a = record { count = one_count cs xs ns a; each = one_at cs xs ns a }

first_of : (ℕ × ℕ × ℕ) → List (ℕ × ℕ × ℕ) → ℕ × ℕ × ℕ
first_of p [] = p
first_of p (q ∷ qs) = q

others : List (ℕ × ℕ × ℕ) → List (ℕ × ℕ × ℕ)
others [] = []
others (q ∷ qs) = qs

module _ (b : Base) where
  -- the least leaf of a node stands first among its leaves
  abbrev Least : List ℕ → Made → Type 0
  Least firsts m = head_or 0 (leaves_at b firsts m.least) ≡ get_or b.supervoxels m.least 0

  least_told : (firsts : List ℕ) (ms : List Made) → map (told b) ms ≡ map told_node (map (node_of b firsts) ms) → AllByRecursion (Least firsts) ms
  unfolding first_of others
  least_told firsts [] e = tt
  least_told firsts (m ∷ ms) e = (sym (ap (λ qs. (first_of (told b m) qs).2) e), least_told firsts ms (ap others e))

  -- the nodes of a layer
  placed_here : (cs firsts : List ℕ) (last count : ℕ) (ms : List Made) → AllByRecursion (Least firsts) ms → AllByRecursion (λ (m : Made). 0 < m.chunk) ms
      → (0 < last → (1 ≤ count) × (count - 1 < length cs) × (get_or cs (count - 1) 0 ≡ last)) → Stands cs count (chunks_behind last ms)
      → OneByOne cs (nodes_behind b.supervoxels last count ms) (map (node_of b firsts) ms)
  unfolding fresh nodes_behind
  placed_here cs firsts last count [] least more f s = tt
  placed_here cs firsts last count (m ∷ ms) least more f s = go (eqb m.chunk last) refl s (λ n p t. placed_here cs firsts m.chunk n ms least.1 more.1 (λ l. p) t)
    where
      rest : List ℕ
      rest = chunks_behind m.chunk ms

      is : (n : ℕ) → (n - 1 < length cs) × (get_or cs (n - 1) 0 ≡ m.chunk) → IsNode cs (base_node b.supervoxels n m) (node_of b firsts m)
      is n p = record { id = refl; least = least.0; made = refl; chunk = p.0; chunk_is = p.1 }

      go : (k : Bool) → eqb m.chunk last ≡ k → Stands cs count (cond k rest (m.chunk ∷ rest))
          → ((n : ℕ) → (1 ≤ n) × (n - 1 < length cs) × (get_or cs (n - 1) 0 ≡ m.chunk) → Stands cs n rest → OneByOne cs (nodes_behind b.supervoxels m.chunk n ms) (map (node_of b firsts) ms))
          → OneByOne cs (base_node b.supervoxels (cond k count (count + 1)) m ∷ nodes_behind b.supervoxels m.chunk (cond k count (count + 1)) ms) (node_of b firsts m ∷ map (node_of b firsts) ms)
      go true e t ih =
          let q : last ≡ m.chunk = sym (eqb-true m.chunk last e) in
          let p = f (let l = more.0 in omega (arith, q, l)) in
          let r : (1 ≤ count) × (count - 1 < length cs) × (get_or cs (count - 1) 0 ≡ m.chunk) = (p.0, p.1, p.2 ∙ q) in
          (is count (r.1, r.2), ih count r t)
      go false e t ih =
          let z : count ≡ count + 1 - 1 = omega arith in
          let r : (count + 1 - 1 < length cs) × (get_or cs (count + 1 - 1) 0 ≡ m.chunk) = subst (λ n. (n < length cs) × (get_or cs n 0 ≡ m.chunk)) z t.0 in
          (is (count + 1) r, ih (count + 1) (omega arith, r.0, r.1) t.1)

  module _ (d : Dataset) (valid : IsDataset d) (base : IsBase d b) (now : ℕ) where
    placed_all : (cs : List ℕ) (count k : ℕ) (ls : List Layer) → 2 ≤ k → AreLayers d b (ingested d b now) k ls → Stands cs count (all_chunks ls) → OneByOne cs (all_behind b.supervoxels count ls) (all_nodes b ls)
    unfolding all_behind
    placed_all cs count k [] two a s = tt
    placed_all cs count k (l ∷ ls) two a s =
        let p = stands_parts cs count (chunks_behind 0 l.made.items) (all_chunks ls) s in
        one_append cs (nodes_behind b.supervoxels 0 count l.made.items) (all_behind b.supervoxels (count + length (chunks_behind 0 l.made.items)) ls) (map (node_of b l.firsts.items) l.made.items) (all_nodes b ls)
        (placed_here cs l.firsts.items 0 count l.made.items (least_told l.firsts.items l.made.items (a.0.made ∙ ap (map told_node) (sym a.0.nodes))) (made_some d b valid base now k two l a.0) (λ m. absurd (omega (arith, m))) p.0)
        (placed_all cs (count + length (chunks_behind 0 l.made.items)) (k + 1) ls (omega (arith, two)) a.1 p.1)

    -- the nodes of all layers
    pub nodes_placed : (ls : List Layer) → length ls ≡ top d - 1 → AreLayers d b (ingested d b now) 2 ls → AreNodes (chunks d b) (all_behind b.supervoxels 0 ls) (all_nodes b ls)
    nodes_placed ls c a =
        let e = chunks_are d b valid base now ls c a in
        one_nodes (chunks d b) (all_behind b.supervoxels 0 ls) (all_nodes b ls)
        (placed_all (chunks d b) 0 2 ls (omega arith) a (subst (Stands (chunks d b) 0) (sym e) (stands_whole (chunks d b))))

-- Layer by layer.
module _ (ls : List Layer) (i : ℕ) (l : Layer) (less : i < length ls) (here : l ≡ get_or ls i l) where
  left : drop i ls ≡ l ∷ drop (i + 1) ls
  left = drop_more ls i l less ∙ ap (λ (x : Layer). x ∷ drop (i + 1) ls) (sym here)

  -- one layer more
  pub layer_more : (ids same : List ℕ) (ms : List Made) (count n : ℕ) (done more whole : List BaseNode) → same ≡ ids → ms ≡ l.made.items → n ≡ count + length (chunks_behind 0 ms)
      → done ++ all_behind ids count (drop i ls) ≡ whole → more ≡ done ++ nodes_behind same 0 count ms → more ++ all_behind ids n (drop (i + 1) ls) ≡ whole
  unfolding all_behind
  layer_more ids same ms count n done more whole e f c p m =
      let nodes : List BaseNode = nodes_behind ids 0 count l.made.items in
      let next : ℕ = count + length (chunks_behind 0 l.made.items) in
      ap (λ xs. xs ++ all_behind ids n (drop (i + 1) ls)) (m ∙ ap₂ (λ (ks : List ℕ) (ns : List Made). done ++ nodes_behind ks 0 count ns) e f)
      ∙ (append_assoc done nodes (all_behind ids n (drop (i + 1) ls))
      ∙ (ap (λ k. done ++ (nodes ++ all_behind ids k (drop (i + 1) ls))) (c ∙ ap (λ ns. count + length (chunks_behind 0 ns)) f)
      ∙ (ap (λ xs. done ++ all_behind ids count xs) (sym left) ∙ p)))

  pub nodes_left : (b : Base) → length (all_nodes b (drop i ls)) ≡ length l.made.items + length (all_nodes b (drop (i + 1) ls))
  nodes_left b =
      let a = length-append (map (node_of b l.firsts.items) l.made.items) (all_nodes b (drop (i + 1) ls)) in
      let n = length-map l.made.items (node_of b l.firsts.items) in
      ap (λ xs. length (all_nodes b xs)) left ∙ omega (arith, a, n)

  pub chunks_left : length (all_chunks (drop i ls)) ≡ length (chunks_behind 0 l.made.items) + length (all_chunks (drop (i + 1) ls))
  chunks_left = ap (λ xs. length (all_chunks xs)) left ∙ length-append (chunks_behind 0 l.made.items) (all_chunks (drop (i + 1) ls))

pub chunks_within : (ms : List Made) → length (chunks_behind 0 ms) ≤ length ms
chunks_within ms =
    let f = fresh_few 0 (map (λ (m : Made). m.chunk) ms) in
    let m = length-map ms (λ (m : Made). m.chunk) in
    omega (arith, f, m)

pub layer_at : (d : Dataset) (b : Base) (log : List Entry) (ls : List Layer) (k i : ℕ) (l : Layer) → AreLayers d b log k ls → i < length ls → l ≡ get_or ls i l → IsLayer d b log (k + i) l
layer_at d b log [] k i l a less e = absurd (omega (arith, less))
layer_at d b log (x ∷ ls) k zero l a less e = subst (IsLayer d b log (k + 0)) (sym e) (subst (λ n. IsLayer d b log n x) (let z : k ≡ k + 0 = omega arith in z) a.0)
layer_at d b log (x ∷ ls) k (suc i) l a less e = subst (λ n. IsLayer d b log n l) (let z : k + 1 + i ≡ k + suc i = omega arith in z) (layer_at d b log ls (k + 1) i l a.1 (omega arith) e)

pub all_behind-end : (ids : List ℕ) (count : ℕ) (ls : List Layer) (i : ℕ) (done whole : List BaseNode) → length ls ≤ i → done ++ all_behind ids count (drop i ls) ≡ whole → done ≡ whole
unfolding all_behind
all_behind-end ids count ls i done whole l p = behind_end done (all_behind ids count (drop i ls)) whole (ap (all_behind ids count) (none_left ls i l)) p

pub chunks_gone : (count : ℕ) (ls : List Layer) (i : ℕ) → length ls ≤ i → count + length (all_chunks (drop i ls)) ≡ count
chunks_gone count ls i l = ap (λ xs. count + length (all_chunks xs)) (none_left ls i l) ∙ (let e : count + 0 ≡ count = omega arith in e)
