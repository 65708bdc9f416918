-- Inner: no clause of `run` is made of it.
-- The nodes of a layer and their numbers, which they have in their chunks in the order of least leaves.
use Rattle.std.specs.Prelude.{◌≡◌, ℕ, ◌+◌, ◌<◌, ◌==◌, nat_le, if◌then◌else◌, List, [], ◌∷◌, length, map, Option, Some, None, ⊤}
use Rattle.std.specs.List.{AllByRecursion, filter, range_with_len}
use Rattle.std.specs.List.Sorted.{IsPermutation, IsNonDecreasingBy}
use Rattle.node_ids.specs.Ids.{segments}
use Rattle.op_model.specs.declared.base.Dataset.{Dataset}
use Rattle.op_model.specs.declared.base.Base.{Base}
use Rattle.op_model.specs.declared.entry.Entry.{Entry}
use Rattle.graph_model.specs.Lists.{head_or}
use Rattle.op_model.specs.Chunks.{chunk}
use Rattle.op_model.specs.Labels.{label}
use Rattle.record_rows.specs.Rows.{Node}
use Rattle.layer_laws.specs.Building.{at}
use Rattle.octree_layers.specs.declared.numbering.Owner.{Owner}
use Rattle.octree_layers.specs.declared.numbering.Made.{Made}
use Rattle.octree_layers.specs.declared.errors.LayersError.{LayersError}
use Rattle.octree_layers.specs.declared.errors.LayersError.TheVariants.{IdsSpent, NoMemory}

-- the node whose least leaf stands at a place
abbrev pub owner : Dataset → Base → ℕ → ℕ → Owner
owner d b layer i = record { chunk = chunk d layer (at b.supervoxels i); least = i }

-- that node, if the place leads to itself
abbrev pub owner_at : Dataset → Base → ℕ → List ℕ → ℕ → List Owner
owner_at d b layer firsts i = if at firsts i == i then owner d b layer i ∷ [] else []

-- the nodes of a layer, each at the place of its least leaf, which leads to itself
unfoldable pub owners : Dataset → Base → ℕ → List ℕ → List Owner
owners d b layer firsts = map (owner d b layer) (filter (λ i. at firsts i == i) (range_with_len 0 (length b.supervoxels)))

-- the same nodes by ascending chunks, those of one chunk as they stood
pub record AreByChunk (old new : List Owner) : Type 0 where
  pub moved : IsPermutation old new
  pub same : (c : ℕ) → filter (λ o. o.chunk == c) new ≡ filter (λ o. o.chunk == c) old
  pub rising : IsNonDecreasingBy (λ o. o.chunk) new

-- the number of a node behind one of this chunk with this number
abbrev pub number_behind : ℕ → ℕ → ℕ → ℕ
number_behind last label c = if c == last then label + 1 else 1

-- nodes that stand by their chunks, with the next number of its chunk for each
unfoldable pub numbered : ℕ → ℕ → List Owner → List Made
numbered last label [] = []
numbered last label (o ∷ os) =
    record { id = o.chunk + number_behind last label o.chunk; chunk = o.chunk; least = o.least } ∷ numbered o.chunk (number_behind last label o.chunk) os

-- the first chunk with a number that isn't below the limit
unfoldable pub overflow : ℕ → ℕ → ℕ → List Owner → Option ℕ
overflow limit last label [] = None
overflow limit last label (o ∷ os) =
    if nat_le limit (number_behind last label o.chunk) then Some o.chunk else overflow limit o.chunk (number_behind last label o.chunk) os

-- a node by its id, its chunk and its least leaf: one that was made, and one of the records
abbrev pub told : Base → Made → ℕ × ℕ × ℕ
told b m = (m.id, m.chunk, at b.supervoxels m.least)

abbrev pub told_node : Node → ℕ × ℕ × ℕ
told_node n = (n.id, n.chunk, head_or 0 n.leaves)

-- the supervoxels at the places that lead to this one
abbrev pub leaves_at : Base → List ℕ → ℕ → List ℕ
leaves_at b firsts i = map (at b.supervoxels) (filter (λ j. at firsts j == i) (range_with_len 0 (length b.supervoxels)))

-- a node that the first entry made, as one of the records: its leaves lead to its least leaf
abbrev pub node_of : Base → List ℕ → Made → Node
node_of b firsts m = record { id = m.id; chunk = m.chunk; leaves = leaves_at b firsts m.least; made = 0 }

-- the node's least leaf is a supervoxel whose place leads to itself
abbrev pub IsOwn : Base → List ℕ → ℕ → Type 0
IsOwn b firsts i = (i < length b.supervoxels) × (at firsts i ≡ i)

-- each label of a layer fits the segment of an id
abbrev pub LabelsFitIn : Dataset → Base → List Entry → ℕ → Type 0
LabelsFitIn d b log layer = AllByRecursion (λ v. label d b log layer v < segments d.layout layer) b.supervoxels

-- of an error that names a layer and a chunk the fact about them
unfoldable pub OfSpent : (ℕ → ℕ → Type 0) → LayersError → Type 0
OfSpent P (IdsSpent layer c) = P layer c
OfSpent P NoMemory = ⊤
