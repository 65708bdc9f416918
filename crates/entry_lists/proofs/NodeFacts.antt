-- The nodes that an entry makes, by the places of their chunks.
use Rattle.std.proofs.Common.{◌≡◌, ℕ, zero, suc, ◌<◌, true, List, [], ◌∷◌, length, map, get_or, Some, refl, sym, ◌∙◌, ap, subst, inl, inr}
use Rattle.std.specs.List.{All, AllByRecursion, flat_map, slice_get}
use Rattle.std.proofs.lemmas.Bool.{or_left, or_right}
use Rattle.std.proofs.lemmas.List.Elements.{All-from_recursion}
use Rattle.op_model.specs.declared.base.Dataset.{Dataset}
use Rattle.op_model.specs.declared.base.Base.{Base}
use Rattle.op_model.specs.declared.entry.Entry.{Entry}
use Rattle.graph_model.specs.Lists.{has, head_or}
use Rattle.graph_model.proofs.Computed.{has_append}
use Rattle.graph_model.proofs.ListLemmas.{has_cases, has_head, has_none, has_tail}
use Rattle.op_model.specs.Chunks.{chunk, layers}
use Rattle.op_model.specs.Legal.{Legal}
use Rattle.op_model.specs.Operations.{ascending}
use Rattle.op_model.specs.Valid.{IsBase, IsDataset}
use Rattle.op_model.proofs.LegalLemmas.{ascending_has, map_has}
use Rattle.record_rows.specs.Rows.{Node}
use Rattle.record_rows.specs.LogRows.{chunks, layer_chunks, layer_nodes, new_nodes, rows_of}
use Rattle.record_rows.proofs.DifferLemmas.{all_flat, all_more}
use Rattle.record_rows.proofs.ImageLemmas.{length-map}
use Rattle.record_rows.proofs.NodeOrder.{layer_made}
use Rattle.record_rows.proofs.OnceLemmas.{layers_low}
use Rattle.record_rows.proofs.RowFacts.{nodes_made}
use Rattle.row_append.specs.declared.tail.Tail.{Tail}
use Rattle.row_append.specs.Ends.{NodesIn}
use Rattle.base_rows.specs.declared.lists.BaseNode.{BaseNode}
use Rattle.base_rows.specs.States.{AreTails}
use Rattle.entry_parts.specs.declared.made.MadeNode.{MadeNode}
use Rattle.entry_parts.specs.Made.{AreMade as AreMadeNodes, told_made, told_node}
use Rattle.entry_rows.specs.States.{ArePointers, IsFresh, IsMade}
use Rattle.octree_layers.proofs.Placing.{place_at}
use Rattle.new_ids.specs.NewIds.{IsNewNode}
use Rattle.new_ids.proofs.NodeFacts.{new_ids_are_free}
use Rattle.entry_lists.specs.Parts.{AreNodesPlaced, IsBehind, base_node}
use Rattle.entry_lists.proofs.Ascents.{ascending_holds, ascending_once}

has_flat : (f : ℕ → List ℕ) (ls : List ℕ) (l x : ℕ) → has ls l ≡ true → has (f l) x ≡ true → has (flat_map f ls) x ≡ true
has_flat f [] l x h g = has_none l h
has_flat f (k ∷ ls) l x h g =
    elim (has_cases k ls l h) [
      | inl e ↦ has_append (f k) (flat_map f ls) x ∙ or_left (has (f k) x) _ (subst (λ j. has (f j) x ≡ true) (sym e) g)
      | inr m ↦ has_append (f k) (flat_map f ls) x ∙ or_right (has (f k) x) _ (has_flat f ls l x m g)
    ]

-- each new node lies in a chunk of the base
pub new_chunks : (d : Dataset) (b : Base) → IsDataset d → IsBase d b → (log : List Entry) (k : ℕ) → AllByRecursion (λ (n : Node). has (chunks d b) n.chunk ≡ true) (new_nodes d b log k)
unfolding new_nodes chunks layer_chunks
new_chunks d b valid base log k =
    all_flat (layer_nodes d b log k) (λ (n : Node). has (chunks d b) n.chunk ≡ true) (layers d)
    (all_more (λ l. (has (layers d) l ≡ true) × (l < 256)) (λ l. AllByRecursion (λ (n : Node). has (chunks d b) n.chunk ≡ true) (layer_nodes d b log k l)) (layers d)
    (λ l p. all_more _ (λ (n : Node). has (chunks d b) n.chunk ≡ true) (layer_nodes d b log k l)
    (λ n q. has_flat (layer_chunks d b) (layers d) l n.chunk p.0
    (subst (λ c. has (layer_chunks d b l) c ≡ true) (q.1.2 ∙ sym q.1.4) (ascending_has (map (chunk d l) b.supervoxels) (chunk d l q.1.0) (map_has (chunk d l) b.supervoxels q.1.0 q.1.1))))
    (layer_made d b valid base log k l)) (layers_low d))

-- nodes that are told alike
abbrev Alike : MadeNode → Node → Type 0
Alike m n = (n.id ≡ m.id) × (n.chunk ≡ m.chunk) × (head_or 0 n.leaves ≡ m.least)

cons_parts : {X : Type 0} (x y : X) (xs ys : List X) → (x ∷ xs) ≡ (y ∷ ys) → (x ≡ y) × (xs ≡ ys)
cons_parts x y xs ys e = (cc, cc)

told_parts : (m : MadeNode) (n : Node) → told_made m ≡ told_node n → Alike m n
told_parts m n e = (sym (ap (λ (t : ℕ × ℕ × ℕ). t.0) e), sym (ap (λ (t : ℕ × ℕ × ℕ). t.1) e), sym (ap (λ (t : ℕ × ℕ × ℕ). t.2) e))

alike_at : (ms : List MadeNode) (ns : List Node) → map told_made ms ≡ map told_node ns → (i : ℕ) (m : MadeNode) (n : Node) → slice_get ms i ≡ Some m → slice_get ns i ≡ Some n → Alike m n
alike_at [] ns e i m n h g = cc
alike_at (x ∷ ms) [] e i m n h g = cc
alike_at (x ∷ ms) (y ∷ ns) e zero m n h g =
    let p : x ≡ m = cc in
    let q : y ≡ n = cc in
    let c = cons_parts (told_made x) (told_node y) (map told_made ms) (map told_node ns) e in
    told_parts m n (sym (ap told_made p) ∙ (c.0 ∙ ap told_node q))
alike_at (x ∷ ms) (y ∷ ns) e (suc i) m n h g = alike_at ms ns (cons_parts (told_made x) (told_node y) (map told_made ms) (map told_node ns) e).1 i m n h g

alike_length : (ms : List MadeNode) (ns : List Node) → map told_made ms ≡ map told_node ns → length ms ≡ length ns
alike_length ms ns e = sym (length-map told_made ms) ∙ (ap length e ∙ length-map told_node ns)

-- a property of the chunks of nodes is one of the chunks of the nodes that are told alike
chunk_holds : (P : ℕ → Type 0) (ms : List MadeNode) (ns : List Node) → map told_made ms ≡ map told_node ns → AllByRecursion (λ (n : Node). P n.chunk) ns → (c : ℕ) → has (map (λ (m : MadeNode). m.chunk) ms) c ≡ true → P c
chunk_holds P [] ns e a c h = has_none c h
chunk_holds P (m ∷ ms) [] e a c h = cc
chunk_holds P (m ∷ ms) (n ∷ ns) e a c h =
    let p = cons_parts (told_made m) (told_node n) (map told_made ms) (map told_node ns) e in
    let t = told_parts m n p.0 in
    elim (has_cases m.chunk (map (λ (x : MadeNode). x.chunk) ms) c h) [
      | inl q ↦ subst P (t.1 ∙ q) a.0
      | inr g ↦ chunk_holds P ms ns p.1 a.1 c g
    ]

-- the chunks of the nodes
abbrev pub ids : List MadeNode → List ℕ
ids ms = ascending (map (λ (m : MadeNode). m.chunk) ms)

own_chunk : (ms : List MadeNode) → AllByRecursion (λ (m : MadeNode). has (map (λ (x : MadeNode). x.chunk) ms) m.chunk ≡ true) ms
own_chunk [] = tt
own_chunk (m ∷ ms) = (
  has_head m.chunk (map (λ (x : MadeNode). x.chunk) ms),
  all_more (λ (y : MadeNode). has (map (λ (x : MadeNode). x.chunk) ms) y.chunk ≡ true) (λ (y : MadeNode). has (map (λ (x : MadeNode). x.chunk) (m ∷ ms)) y.chunk ≡ true) ms
      (λ y h. has_tail m.chunk (map (λ (x : MadeNode). x.chunk) ms) y.chunk h) (own_chunk ms),
)

-- each node's chunk is among them
pub chunks_known : (ms : List MadeNode) → All (λ (m : MadeNode). has (ids ms) m.chunk ≡ true) ms
chunks_known ms =
    All-from_recursion (λ (m : MadeNode). has (ids ms) m.chunk ≡ true) ms
    (all_more (λ (m : MadeNode). has (map (λ (x : MadeNode). x.chunk) ms) m.chunk ≡ true) (λ (m : MadeNode). has (ids ms) m.chunk ≡ true) ms (λ m h. ascending_has (map (λ (x : MadeNode). x.chunk) ms) m.chunk h) (own_chunk ms))

all_at : {X : Type 0} (P : X → Type 0) (xs : List X) → AllByRecursion P xs → (i : ℕ) (x : X) → slice_get xs i ≡ Some x → P x
all_at P [] a i x h = cc
all_at P (y ∷ xs) a zero x h = let q : y ≡ x = cc in subst P q a.0
all_at P (y ∷ xs) a (suc i) x h = all_at P xs a.1 i x h

known_at : (ys : List MadeNode) (j : ℕ) (m : MadeNode) → slice_get ys j ≡ Some m → has (ids ys) m.chunk ≡ true
known_at ys j m h =
    all_at (λ (y : MadeNode). has (ids ys) y.chunk ≡ true) ys
    (all_more (λ (y : MadeNode). has (map (λ (x : MadeNode). x.chunk) ys) y.chunk ≡ true) (λ (y : MadeNode). has (ids ys) y.chunk ≡ true) ys (λ y g. ascending_has (map (λ (x : MadeNode). x.chunk) ys) y.chunk g) (own_chunk ys)) j m h

-- and each of them is a chunk of the base
pub chunks_stand : (d : Dataset) (b : Base) → IsDataset d → IsBase d b → (log : List Entry) (e : Entry) (ms : List MadeNode) → AreMadeNodes d b log e ms → All (λ c. has (chunks d b) c ≡ true) (ids ms)
chunks_stand d b valid base log e ms are =
    ascending_holds (λ c. has (chunks d b) c ≡ true) (map (λ (m : MadeNode). m.chunk) ms) (chunk_holds (λ c. has (chunks d b) c ≡ true) ms (new_nodes d b (e ∷ log) e.number) are (new_chunks d b valid base (e ∷ log) e.number))

get_map : {X Y : Type 0} (f : X → Y) (xs : List X) (i : ℕ) (y : Y) → slice_get (map f xs) i ≡ Some y → (x : X) × (slice_get xs i ≡ Some x) × (y ≡ f x)
get_map f [] i y h = cc
get_map f (x ∷ xs) zero y h = (x, refl, cc)
get_map f (x ∷ xs) (suc i) y h = get_map f xs i y h

pub nodes_placed : (d : Dataset) (b : Base) (log : List Entry) (e : Entry) (words : List ℕ) (ms : List MadeNode) (xs : List BaseNode) (tails : List Tail) → IsBehind d b log e words → AreMadeNodes d b log e ms → xs ≡ map (base_node (ids ms)) ms
    → AreTails NodesIn (ids ms) (rows_of d b log) tails → ArePointers tails → AreNodesPlaced e.number (rows_of d b log) xs tails (new_nodes d b (e ∷ log) e.number)
unfolding base_node
nodes_placed d b log e words ms xs tails i are same ends pointers = record {
  chunks = ids ms;
  once = ascending_once (map (λ (m : MadeNode). m.chunk) ms);
  ends_are = ends;
  pointers = pointers;
  made = record {
    count = ap length same ∙ (length-map (base_node (ids ms)) ms ∙ alike_length ms (new_nodes d b (e ∷ log) e.number) are);
    each = λ k x n h g. each k x n (subst (λ ys. slice_get ys k ≡ Some x) same h) g;
  };
}
  where
    fresh : (old : List Entry) → Legal d b old → Legal d b (e ∷ old) → AllByRecursion (IsNewNode (rows_of d b old)) (new_nodes d b (e ∷ old) e.number)
    fresh [] l m = absurd l
    fresh (f ∷ old) l m = (new_ids_are_free d b i.image.dataset i.image.base e f old m).nodes

    each : (k : ℕ) (x : BaseNode) (n : Node) → slice_get (map (base_node (ids ms)) ms) k ≡ Some x → slice_get (new_nodes d b (e ∷ log) e.number) k ≡ Some n → IsMade e.number (ids ms) x n × IsFresh (rows_of d b log) n
    each k x n h g =
        let m = get_map (base_node (ids ms)) ms k x h in
        let t = alike_at ms (new_nodes d b (e ∷ log) e.number) are k m.0 n m.1 g in
        let new = all_at (IsNewNode (rows_of d b log)) (new_nodes d b (e ∷ log) e.number) (fresh log i.image.legal i.legal) k n g in
        let made = all_at (λ (y : Node). y.made ≡ e.number) (new_nodes d b (e ∷ log) e.number) (nodes_made d b (e ∷ log) e.number) k n g in
        let known : has (ids ms) m.0.chunk ≡ true = known_at ms k m.0 m.1 in
        let p = place_at (ids ms) m.0.chunk known in (
          record {
            id = t.0 ∙ sym (ap (λ (y : BaseNode). y.id) m.2);
            least = t.2 ∙ sym (ap (λ (y : BaseNode). y.least) m.2);
            made_is = made;
            chunk = subst (λ c. c < length (ids ms)) (sym (ap (λ (y : BaseNode). y.chunk) m.2)) p.0;
            chunk_is = ap (λ c. get_or (ids ms) c 0) (ap (λ (y : BaseNode). y.chunk) m.2) ∙ (p.1 ∙ sym t.1);
          },
          (new.no_children, new.no_versions, new.unretired),
        )
