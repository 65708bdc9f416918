-- Inner: no clause of `run` is made of it.
-- The layers of a base's octree as they are built.
use Rattle.std.specs.Prelude.{◌≡◌, ℕ, ◌+◌, ◌<◌, List, [], ◌∷◌, length, map, IsTrue}
use Rattle.std.specs.List.{All, flat_map}
use Rattle.graph_model.specs.Lists.{has}
use Rattle.op_model.specs.declared.base.Dataset.{Dataset}
use Rattle.op_model.specs.declared.base.Base.{Base}
use Rattle.op_model.specs.declared.entry.Entry.{Entry}
use Rattle.op_model.specs.Labels.{node}
use Rattle.op_model.specs.Valid.{IsAscending}
use Rattle.record_rows.specs.Rows.{Node}
use Rattle.record_rows.specs.LogRows.{layer_nodes}
use Rattle.layer_laws.specs.Building.{AreLeastLeaves, at}
use Rattle.octree_layers.specs.declared.layers.Layer.{Layer}
use Rattle.octree_layers.specs.Numbers.{IsOwn, told, told_node, node_of}

-- The layer has the place of the least leaf for each supervoxel, and its nodes in the order of their records: told by their least leaves, and as they stand in the records.
-- The places that lead to a node's least leaf are those of its leaves, and each place leads to that of some node.
pub record IsLayer (d : Dataset) (b : Base) (log : List Entry) (layer : ℕ) (l : Layer) : Type 0 where
  pub firsts : AreLeastLeaves d b log layer l.firsts.items
  pub made : map (told b) l.made.items ≡ map told_node (layer_nodes d b log 0 layer)
  pub nodes : map (node_of b l.firsts.items) l.made.items ≡ layer_nodes d b log 0 layer
  pub ids : All (λ m. m.id ≡ node d b log layer (at b.supervoxels m.least)) l.made.items
  pub ascending : IsAscending (map (λ m. m.id) l.made.items)
  pub least : All (λ m. IsOwn b l.firsts.items m.least) l.made.items
  pub each : (i : ℕ) → i < length b.supervoxels → IsTrue (has (map (λ m. m.least) l.made.items) (at l.firsts.items i))

-- these are the layers from this one on
abbrev pub AreLayers : Dataset → Base → List Entry → ℕ → List Layer → Type 0
AreLayers d b log layer [] = Unit {0}
AreLayers d b log layer (l ∷ ls) = IsLayer d b log layer l × AreLayers d b log (layer + 1) ls

-- the nodes of all these layers, as they stand in the records
abbrev pub all_nodes : Base → List Layer → List Node
all_nodes b ls = flat_map (λ l. map (node_of b l.firsts.items) l.made.items) ls

-- the least leaves of the last layer, or others where there is none
unfoldable pub last_firsts : List ℕ → List Layer → List ℕ
last_firsts firsts [] = firsts
last_firsts firsts (l ∷ ls) = last_firsts l.firsts.items ls
