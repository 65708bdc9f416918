-- Inner: no clause of `run` is made of it.
-- Leaves that were found, and nodes that are still to be opened.
use Rattle.std.specs.Prelude.{ℕ, ◌/◌, ◌^◌, List, [], ◌∷◌, ◌++◌, length}
use Rattle.std.specs.List.{AllByRecursion, flat_map, slice_get, sum_by}
use Rattle.std.specs.Option.{option_map_or}
use Rattle.op_model.specs.declared.base.Dataset.{Dataset}
use Rattle.op_model.specs.declared.base.Base.{Base}
use Rattle.op_model.specs.declared.entry.Entry.{Entry}
use Rattle.record_rows.specs.Rows.{Row, SupervoxelRow, NodeRow, Node}
use Rattle.record_rows.specs.Chains.{has_id}
use Rattle.record_rows.specs.Words.{place_from}
use Rattle.record_rows.specs.Readings.{HoldsNode}
use Rattle.record_rows.specs.Sorted.{id_at}

-- the leaves of a record: a supervoxel is its own
unfoldable pub row_leaves : Row → List ℕ
row_leaves (SupervoxelRow v) = v ∷ []
row_leaves (NodeRow n) = n.leaves
row_leaves row = []

-- the leaves of the record at a place
unfoldable pub place_leaves : List Row → ℕ → List ℕ
place_leaves rows place = option_map_or row_leaves (slice_get rows place) []

-- the leaves of the record of an id
unfoldable pub id_leaves : List Row → ℕ → List ℕ
id_leaves rows id = place_leaves rows (place_from (has_id id) 0 rows)

-- the leaves that were found, with those of the nodes at these places
unfoldable pub spread : List Row → List ℕ → List ℕ → List ℕ
spread rows found places = found ++ flat_map (place_leaves rows) places

-- at each of these places stands a node
abbrev pub AreNodes : Dataset → Base → List Entry → List ℕ → Type 0
AreNodes d b log places = AllByRecursion (λ p. (n : Node) × HoldsNode d b log p n) places

-- the layer that an id tells
unfoldable pub layer_of : ℕ → ℕ
layer_of id = id / 2 ^ 56

-- more than all steps that opening the node of an id may take
unfoldable pub weight : ℕ → ℕ → ℕ
weight size id = size ^ layer_of id

-- and than those that opening the nodes at these places may take
unfoldable pub weights : List ℕ → List ℕ → ℕ
weights words places = sum_by (λ p. weight (length words) (id_at words p)) places
