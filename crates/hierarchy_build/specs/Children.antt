-- Inner: no clause of `run` is made of it.
-- What stands below a node, from the layers as they are built.
use Rattle.std.specs.Prelude.{◌≡◌, ℕ, ◌+◌, ◌≤◌, ◌==◌, map}
use Rattle.std.specs.List.{filter, All}
use Rattle.op_model.specs.declared.base.Dataset.{Dataset}
use Rattle.op_model.specs.declared.base.Base.{Base}
use Rattle.op_model.specs.Chunks.{top}
use Rattle.op_model.specs.Valid.{IsBase, IsDataset}
use Rattle.record_rows.specs.LogRows.{children_of}
use Rattle.op_model.specs.Ingest.{ingested}
use Rattle.layer_laws.specs.Building.{at}
use Rattle.octree_layers.specs.declared.layers.Layer.{Layer}
use Rattle.octree_layers.specs.Numbers.{leaves_at}
use Rattle.octree_layers.specs.Layers.{IsLayer}

-- The children of a node above layer 2 are the nodes of the layer below whose least leaf leads to that of the node, in their order.
abbrev pub ChildrenLead : Type 0
ChildrenLead =
    (d : Dataset) (b : Base) (now layer : ℕ) (below above : Layer) → IsDataset d → IsBase d b → 2 ≤ layer → layer + 1 ≤ top d
    → IsLayer d b (ingested d b now) layer below → IsLayer d b (ingested d b now) (layer + 1) above
    → All (λ m. children_of d b (ingested d b now) (layer + 1) (leaves_at b above.firsts.items m.least)
    ≡ map (λ c. c.id) (filter (λ c. at above.firsts.items c.least == m.least) below.made.items)) above.made.items
