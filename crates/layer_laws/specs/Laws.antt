-- Inner: no clause of `run` is made of it.
-- Laws over the layers.
use Rattle.std.specs.Prelude.{◌≡◌, ℕ, ◌+◌, ◌-◌, ◌≤◌, ◌<◌, ◌^◌, ◌↔◌, ◌&&◌, ◌==◌, false, List, [], ◌∷◌, length, map, slice_index_or, IsTrue}
use Rattle.std.specs.List.{range_with_len, list_any, AllByRecursion}
use Rattle.op_model.specs.declared.base.Dataset.{Dataset}
use Rattle.op_model.specs.declared.base.Base.{Base}
use Rattle.op_model.specs.declared.entry.Entry.{Entry}
use Rattle.graph_model.specs.Lists.{has}
use Rattle.graph_model.specs.Components.{Joined as JoinedBy}
use Rattle.op_model.specs.Chunks.{chunk, members}
use Rattle.op_model.specs.Labels.{component, touches, least, used, label, node, Joined}
use Rattle.op_model.specs.Valid.{IsAscending}
use Rattle.op_model.specs.Operations.{ends}
use Rattle.op_model.specs.Edges.{joins}
use Rattle.op_model.specs.declared.base.Edge.{Edge}
use Rattle.op_model.specs.declared.entry.Changed.{Changed}
use Rattle.node_ids.specs.Ids.{IsLayout}
use Rattle.components.specs.Joining.{JoinedBelow, AreLeastMembers}
use Rattle.layer_laws.specs.Building.{at, least_leaf, AreLeastLeaves, ArePairs}
use Rattle.layer_laws.specs.Remaking.{found_in, AreNodes, AreFromChanged}
use Rattle.layer_laws.specs.Levels.{level, chunk_above, meets, steps, leaves, leads_out, leaving, IsClosed, IsNumbered, IsSearched, AreChanged, AreFirsts}

-- the chunk of the next layer is told by the chunk; layers 1 and 2 have one chunk; two supervoxels lie in one chunk of a layer just where their level is at most the layer
pub record ChunksNest : Type 0 where
  pub above : (d : Dataset) (layer v : ℕ) → IsLayout d.layout → 2 ≤ layer → layer + 1 < 2 ^ 8 → chunk d (layer + 1) v ≡ chunk_above d layer (chunk d layer v)
  pub lowest : (d : Dataset) (u v : ℕ) → IsLayout d.layout → (chunk d 1 u ≡ chunk d 1 v) ↔ (chunk d 2 u ≡ chunk d 2 v)
  pub told_by_level : (d : Dataset) (layer u v : ℕ) → IsLayout d.layout → 2 ≤ layer → layer < 2 ^ 8 → (chunk d layer u ≡ chunk d layer v) ↔ (level d u v ≤ layer)
  pub higher : (d : Dataset) (layer more u v : ℕ) → IsLayout d.layout → 1 ≤ layer → layer + more < 2 ^ 8 → chunk d layer u ≡ chunk d layer v → chunk d (layer + more) u ≡ chunk d (layer + more) v
  pub from_two : (d : Dataset) (u v : ℕ) → IsLayout d.layout → (2 ≤ level d u v) × (level d u v ≤ 18)

-- what is joined in a layer is joined in every higher one, so that a component is one of whole components of each layer below
pub record ComponentsNest : Type 0 where
  pub joined : (d : Dataset) (b : Base) (log : List Entry) (layer more u v : ℕ) → IsLayout d.layout → 1 ≤ layer → layer + more < 2 ^ 8 → Joined d b log layer u v → Joined d b log (layer + more) u v
  pub whole :
      (d : Dataset) (b : Base) (log : List Entry) (layer more u v w : ℕ) → IsLayout d.layout → 1 ≤ layer → layer + more < 2 ^ 8
      → IsTrue (has (component d b log (layer + more) u) v) → IsTrue (has (component d b log layer v) w) → IsTrue (has (component d b log (layer + more) u) w)

-- Layer 2 joins what active pairs with both ends in one chunk join. Each layer joins what the steps of it join: leaves of one node of the layer below, and active pairs whose level is the layer.
pub record LayersContract : Type 0 where
  pub second : (d : Dataset) (b : Base) (log : List Entry) (u v : ℕ) → IsLayout d.layout → Joined d b log 2 u v ↔ JoinedBy (meets d b log 2) b.supervoxels u v
  pub each :
      (d : Dataset) (b : Base) (log : List Entry) (layer u v : ℕ) → IsLayout d.layout → 2 ≤ layer → layer < 2 ^ 8
      → Joined d b log layer u v ↔ JoinedBy (steps d b log layer) b.supervoxels u v
  pub joined_leaves :
      (d : Dataset) (b : Base) (log : List Entry) (layer u v : ℕ) → IsLayout d.layout → 2 ≤ layer → IsTrue (has (leaves d b log layer u) v) ↔ Joined d b log layer u v
  pub alone : (d : Dataset) (b : Base) (log : List Entry) (u : ℕ) → IsLayout d.layout → leaves d b log 1 u ≡ u ∷ []
  pub inside :
      (d : Dataset) (b : Base) (log : List Entry) (layer u v : ℕ) → IsLayout d.layout → 2 ≤ layer → layer < 2 ^ 8
      → Joined d b log layer u v ↔ JoinedBy (steps d b log layer) (members d b layer (chunk d layer u)) u v

-- Supervoxels of a closed list are joined just where the numbers of their nodes below are joined by the pairs, and nothing outside the list is joined to them.
pub record NumbersContract : Type 0 where
  pub whole :
      (d : Dataset) (b : Base) (log : List Entry) (layer : ℕ) (found : List ℕ) (u v : ℕ) → IsLayout d.layout → 2 ≤ layer → layer < 2 ^ 8
      → IsClosed d b log layer found → IsTrue (has found u) → Joined d b log layer u v → IsTrue (has found v)
  pub joined :
      (d : Dataset) (b : Base) (log : List Entry) (layer : ℕ) (found : List ℕ) (n : ℕ) (number : ℕ → ℕ) (pairs : List (ℕ × ℕ)) (u v : ℕ)
      → IsLayout d.layout → 2 ≤ layer → layer < 2 ^ 8 → IsClosed d b log layer found → IsNumbered d b log layer found n number pairs
      → IsTrue (has found u) → IsTrue (has found v)
      → Joined d b log layer u v ↔ JoinedBelow n pairs (number u) (number v)
  pub one_chunk :
      (d : Dataset) (b : Base) (log : List Entry) (layer c : ℕ) → IsLayout d.layout → 2 ≤ layer → layer < 2 ^ 8 → IsClosed d b log layer (members d b layer c)

-- An entry changes a node just where it changes the node that was there before, and leaves the others with their leaves, their ids and the edges that lead out of their chunk.
pub record OthersStay : Type 0 where
  pub told_before :
      (d : Dataset) (b : Base) (e : Entry) (log : List Entry) (layer v : ℕ) → IsLayout d.layout → IsTrue (has b.supervoxels v)
      → touches e.changed (leaves d b (e ∷ log) layer v) ≡ touches e.changed (leaves d b log layer v)
  pub same_leaves :
      (d : Dataset) (b : Base) (e : Entry) (log : List Entry) (layer v : ℕ) → IsLayout d.layout → IsTrue (has b.supervoxels v)
      → touches e.changed (leaves d b log layer v) ≡ false → leaves d b (e ∷ log) layer v ≡ leaves d b log layer v
  pub same_node :
      (d : Dataset) (b : Base) (e f : Entry) (log : List Entry) (layer v : ℕ) → IsLayout d.layout → 2 ≤ layer → IsTrue (has b.supervoxels v)
      → touches e.changed (leaves d b (f ∷ log) layer v) ≡ false → node d b (e ∷ f ∷ log) layer v ≡ node d b (f ∷ log) layer v
  pub same_edges :
      (d : Dataset) (b : Base) (e : Entry) (log : List Entry) (layer v : ℕ) → IsLayout d.layout → IsTrue (has b.supervoxels v)
      → touches e.changed (leaves d b log layer v) ≡ false → leaving d b (e ∷ log) layer v ≡ leaving d b log layer v

-- From the supervoxels of the changed nodes of one layer a search by steps finds those of the next. From one supervoxel it finds the leaves of its node.
pub record SearchesRemake : Type 0 where
  pub first :
      (d : Dataset) (b : Base) (changed : List Changed) (log : List Entry) → IsLayout d.layout → AllByRecursion (λ c. IsTrue (has b.supervoxels c.pair.a) × IsTrue (has b.supervoxels c.pair.b)) changed
      → AreChanged d b changed log 1 (ends changed)
  pub next :
      (d : Dataset) (b : Base) (changed : List Changed) (log : List Entry) (layer : ℕ) (start found : List ℕ) → IsLayout d.layout → 2 ≤ layer → layer < 2 ^ 8
      → AreChanged d b changed log (layer - 1) start → IsSearched d b log layer start found → AreChanged d b changed log layer found
  pub one :
      (d : Dataset) (b : Base) (log : List Entry) (layer u v : ℕ) (found : List ℕ) → IsLayout d.layout → 2 ≤ layer → layer < 2 ^ 8
      → IsTrue (has b.supervoxels u) → IsSearched d b log layer (u ∷ []) found → IsTrue (has found v) ↔ IsTrue (has (leaves d b log layer u) v)
  pub found :
      (d : Dataset) (b : Base) (log : List Entry) (layer u : ℕ) → IsLayout d.layout → 2 ≤ layer → layer < 2 ^ 8
      → IsTrue (has b.supervoxels u) → IsSearched d b log layer (u ∷ []) (leaves d b log layer u)
  pub each :
      (d : Dataset) (b : Base) (changed : List Changed) (log : List Entry) (layer v : ℕ) → IsLayout d.layout → 2 ≤ layer → layer < 2 ^ 8 → IsTrue (has b.supervoxels v)
      → IsTrue (touches changed (leaves d b log layer v))
      ↔ ((w : ℕ) × IsTrue (has (leaves d b log layer v) w) × IsTrue (touches changed (leaves d b log (layer - 1) w)))

-- The edges that lead out of a node's chunk are those of the nodes below it that lead out of its own chunk too, and tell what meets in the next layer.
pub record EdgesRise : Type 0 where
  pub above :
      (d : Dataset) (b : Base) (log : List Entry) (layer v : ℕ) (e : Edge) → IsLayout d.layout → 2 ≤ layer → layer < 2 ^ 8 → IsTrue (has b.supervoxels v)
      → IsTrue (has b.supervoxels e.pair.a) → IsTrue (has b.supervoxels e.pair.b)
      → IsTrue (leads_out d b log layer v e)
      ↔ ((w : ℕ) × IsTrue (has (leaves d b log layer v) w) × IsTrue (leads_out d b log (layer - 1) w e) × (layer < level d e.pair.a e.pair.b))
  pub told_by_edges :
      (d : Dataset) (b : Base) (log : List Entry) (layer u v w : ℕ) → IsLayout d.layout → 2 ≤ layer
      → IsTrue (has (leaves d b log (layer - 1) w) u)
      → meets d b log layer u v ≡ list_any (λ e. joins e.pair u v && level d e.pair.a e.pair.b == layer) (leaving d b log (layer - 1) w)
  pub one_end :
      (d : Dataset) (b : Base) (log : List Entry) (layer v : ℕ) (e : Edge) → IsLayout d.layout → 2 ≤ layer → layer < 2 ^ 8
      → IsTrue (leads_out d b log layer v e) → IsTrue (has (leaves d b log layer v) e.pair.a) → IsTrue (has (leaves d b log layer v) e.pair.b) → ⊥

-- The new nodes of a chunk have the next numbers of it in the order of their least leaf.
pub record NumbersInOrder : Type 0 where
  pub number :
      (d : Dataset) (b : Base) (e : Entry) (log : List Entry) (layer c : ℕ) (firsts : List ℕ) (k v : ℕ) → IsAscending b.supervoxels
      → AreFirsts d b (e ∷ log) layer c firsts → k < length firsts → IsTrue (has b.supervoxels v) → least d b (e ∷ log) layer v ≡ slice_index_or firsts k 0
      → label d b (e ∷ log) layer v ≡ used d b log layer c + (k + 1)
  pub greatest :
      (d : Dataset) (b : Base) (e : Entry) (log : List Entry) (layer c : ℕ) (firsts : List ℕ) → IsAscending b.supervoxels
      → AreFirsts d b (e ∷ log) layer c firsts → used d b (e ∷ log) layer c ≡ used d b log layer c + length firsts

-- In layer 1 the least leaf of each supervoxel is itself. The components of the pairs that meet in a layer take the least leaves of the layer below to those of the layer.
pub record LeastLeavesRise : Type 0 where
  pub first :
      (d : Dataset) (b : Base) (log : List Entry) → IsLayout d.layout → IsAscending b.supervoxels
      → AreLeastLeaves d b log 1 (range_with_len 0 (length b.supervoxels))
  pub next :
      (d : Dataset) (b : Base) (log : List Entry) (layer : ℕ) (firsts : List ℕ) (pairs : List (ℕ × ℕ)) (least : List ℕ) → IsLayout d.layout → IsAscending b.supervoxels
      → 2 ≤ layer → layer < 2 ^ 8 → AreLeastLeaves d b log (layer - 1) firsts → ArePairs d b log layer firsts pairs
      → AreLeastMembers (length b.supervoxels) pairs least → AreLeastLeaves d b log layer (map (λ f. at least f) firsts)
  pub least_at :
      (d : Dataset) (b : Base) (log : List Entry) (layer : ℕ) (firsts : List ℕ) (i : ℕ) → IsLayout d.layout → IsAscending b.supervoxels → 2 ≤ layer
      → AreLeastLeaves d b log layer firsts → i < length b.supervoxels → least d b log layer (at b.supervoxels i) ≡ at b.supervoxels (at firsts i)
  pub own :
      (d : Dataset) (b : Base) (log : List Entry) (layer : ℕ) (firsts : List ℕ) (i : ℕ) → IsLayout d.layout → IsAscending b.supervoxels → 2 ≤ layer
      → AreLeastLeaves d b log layer firsts → i < length b.supervoxels → (at firsts i ≡ i) ↔ (least d b log layer (at b.supervoxels i) ≡ at b.supervoxels i)

-- The leaves of a node are those of the found nodes below that the pairs join to one of its own, and from changed nodes just the changed ones are found.
pub record FoundNodesMake : Type 0 where
  pub children :
      (d : Dataset) (b : Base) (log : List Entry) (layer : ℕ) (nodes : List ℕ) (pairs : List (ℕ × ℕ)) (i w : ℕ) → IsLayout d.layout → IsAscending b.supervoxels
      → 2 ≤ layer → layer < 2 ^ 8 → AreNodes d b log layer nodes pairs → i < length nodes
      → IsTrue (has (leaves d b log layer (at nodes i)) w)
      ↔ ((j : ℕ) × (j < length nodes) × JoinedBelow (length nodes) pairs i j × IsTrue (has (leaves d b log (layer - 1) (at nodes j)) w))
  pub out :
      (d : Dataset) (b : Base) (log : List Entry) (layer : ℕ) (nodes : List ℕ) (pairs : List (ℕ × ℕ)) (i : ℕ) (e : Edge) → IsLayout d.layout → IsAscending b.supervoxels
      → 2 ≤ layer → layer < 2 ^ 8 → AreNodes d b log layer nodes pairs → i < length nodes → IsTrue (has b.supervoxels e.pair.a) → IsTrue (has b.supervoxels e.pair.b)
      → IsTrue (leads_out d b log layer (at nodes i) e)
      ↔ ((j : ℕ) × (j < length nodes) × JoinedBelow (length nodes) pairs i j × IsTrue (leads_out d b log (layer - 1) (at nodes j) e) × (layer < level d e.pair.a e.pair.b))
  pub lowest :
      (d : Dataset) (b : Base) (log : List Entry) (layer : ℕ) (nodes : List ℕ) (pairs : List (ℕ × ℕ)) (i j : ℕ) → IsLayout d.layout → IsAscending b.supervoxels
      → 2 ≤ layer → layer < 2 ^ 8 → AreNodes d b log layer nodes pairs → i < length nodes → j < length nodes → JoinedBelow (length nodes) pairs i j
      → least_leaf d b log layer (at nodes i) ≤ least_leaf d b log (layer - 1) (at nodes j)
  pub lowest_of :
      (d : Dataset) (b : Base) (log : List Entry) (layer : ℕ) (nodes : List ℕ) (pairs : List (ℕ × ℕ)) (i : ℕ) → IsLayout d.layout → IsAscending b.supervoxels
      → 2 ≤ layer → layer < 2 ^ 8 → AreNodes d b log layer nodes pairs → i < length nodes
      → (j : ℕ) × (j < length nodes) × JoinedBelow (length nodes) pairs i j × (least_leaf d b log layer (at nodes i) ≡ least_leaf d b log (layer - 1) (at nodes j))
  pub grouped :
      (d : Dataset) (b : Base) (log : List Entry) (layer : ℕ) (nodes : List ℕ) (pairs : List (ℕ × ℕ)) (lows : List ℕ) (i j : ℕ) → IsLayout d.layout → IsAscending b.supervoxels
      → 2 ≤ layer → layer < 2 ^ 8 → AreNodes d b log layer nodes pairs → AreLeastMembers (length nodes) pairs lows → i < length nodes → j < length nodes
      → (at lows i ≡ at lows j) ↔ IsTrue (has (leaves d b log layer (at nodes i)) (at nodes j))
  pub changed :
      (d : Dataset) (b : Base) (changes : List Changed) (log : List Entry) (layer : ℕ) (nodes : List ℕ) (pairs : List (ℕ × ℕ)) → IsLayout d.layout → IsAscending b.supervoxels
      → 2 ≤ layer → layer < 2 ^ 8 → AreNodes d b log layer nodes pairs → AreFromChanged d b changes log layer nodes pairs
      → AreChanged d b changes log layer (found_in d b log layer nodes)

-- At the ingest the least supervoxels of a chunk's nodes have its next numbers, and at a later entry the least leaves of the nodes over the found ones.
pub record FirstsAreFound : Type 0 where
  pub ingest :
      (d : Dataset) (b : Base) (e : Entry) (layer c : ℕ) (firsts : List ℕ) → IsLayout d.layout → IsAscending b.supervoxels → IsAscending firsts
      → ((x : ℕ) → IsTrue (has firsts x) ↔ (IsTrue (has b.supervoxels x) × (chunk d layer x ≡ c) × (least d b (e ∷ []) layer x ≡ x)))
      → AreFirsts d b (e ∷ []) layer c firsts
  pub later :
      (d : Dataset) (b : Base) (e f : Entry) (log : List Entry) (layer c : ℕ) (nodes : List ℕ) (pairs : List (ℕ × ℕ)) (firsts : List ℕ) → IsLayout d.layout
      → IsAscending b.supervoxels → 2 ≤ layer → layer < 2 ^ 8
      → AreNodes d b (e ∷ f ∷ log) layer nodes pairs → AreFromChanged d b e.changed (e ∷ f ∷ log) layer nodes pairs → IsAscending firsts
      → ((x : ℕ) → IsTrue (has firsts x)
      ↔ ((k : ℕ) × (k < length nodes) × (chunk d layer (at nodes k) ≡ c) × (least_leaf d b (e ∷ f ∷ log) layer (at nodes k) ≡ x)))
      → AreFirsts d b (e ∷ f ∷ log) layer c firsts
