-- The lists of a base's records, and why they aren't built.
use Rattle.std.specs.Prelude.{◌≡◌, ℕ, ◌<◌, ◌≤◌, ◌++◌, List, [], map, ⊤}
use Rattle.std.specs.List.{All}
use Rattle.node_ids.specs.Ids.{parts_of}
use Rattle.op_model.specs.declared.base.Dataset.{Dataset}
use Rattle.op_model.specs.declared.base.Base.{Base}
use Rattle.op_model.specs.Labels.{edges}
use Rattle.op_model.specs.Legal.{LabelsFit}
use Rattle.op_model.specs.Records.{records}
use Rattle.record_rows.specs.LogRows.{chunks, new_links}
use Rattle.base_rows.specs.declared.lists.BaseLists.{BaseLists}
use Rattle.base_rows.specs.Lists.{AreNodes, IsPlaced, IsWithin, link_of}
use Rattle.base_rows.specs.BaseRows.{ids_of}
use Rattle.op_model.specs.Ingest.{ingested, IsFirstSpent}
use Rattle.octree_layers.specs.declared.layers.Layer.{Layer}
use Rattle.hierarchy_build.specs.Links.{AreBuilt}
use Rattle.hierarchy_build.specs.declared.errors.BuildError.{BuildError}
use Rattle.hierarchy_build.specs.declared.errors.BuildError.TheVariants.{IdsSpent, TooSmall, NoMemory}
use Rattle.octree_layers.specs.declared.errors.LayersError.{LayersError}
use Rattle.octree_layers.specs.declared.errors.LayersError.TheVariants as layers
use Rattle.octree_layers.specs.Layers.{all_nodes}

-- these are the chunks, edges, nodes and links of the base's first entry, by their places
pub record AreLists (d : Dataset) (b : Base) (ls : List Layer) (x : BaseLists) : Type 0 where
  pub chunks_are : x.chunks.items ≡ chunks d b
  pub edges_are : map (λ e. e.edge) x.edges.items ≡ edges d b []
  pub placed : All (IsPlaced b.supervoxels) x.edges.items
  pub nodes_are : AreNodes (chunks d b) x.nodes.items (all_nodes b ls)
  pub links_are : (now : ℕ) → map (link_of (b.supervoxels ++ ids_of (all_nodes b ls)) (ids_of (all_nodes b ls))) x.links.items ≡ new_links d b (ingested d b now) 0
  pub within : All (IsWithin (b.supervoxels ++ ids_of (all_nodes b ls)) (ids_of (all_nodes b ls))) x.links.items

-- the lists of a base whose records can be had
pub record IsListed (d : Dataset) (b : Base) (x : BaseLists) : Type 0 where
  pub layers : List Layer
  pub built : AreBuilt d b layers
  pub lists : AreLists d b layers x
  pub fit : (now : ℕ) → LabelsFit d b (ingested d b now)
  pub fits : (now : ℕ) → records d b (ingested d b now) ≤ d.capacity

-- the chunk that was named by its id is named by its coordinates
abbrev pub Tells : Dataset → LayersError → BuildError → Type 0
Tells d (layers.IdsSpent layer c) result = let p = parts_of d.layout c in result ≡ IdsSpent layer p.x p.y p.z
Tells d layers.NoMemory result = result ≡ NoMemory

-- Why a base's records can't be had: the first chunk with more nodes than its ids have numbers, by layer, x, y and z; else, where there is none, more records than the capacity.
abbrev pub IsFull : Dataset → Base → BuildError → Type 0
IsFull d b (IdsSpent layer x y z) =
    (c : ℕ) × ((now : ℕ) → IsFirstSpent d b (ingested d b now) layer c) × (let p = parts_of d.layout c in (x ≡ p.x) × (y ≡ p.y) × (z ≡ p.z))
IsFull d b (TooSmall need given) =
    ((now : ℕ) → LabelsFit d b (ingested d b now) × (need ≡ records d b (ingested d b now))) × (given ≡ d.capacity) × (given < need)
IsFull d b NoMemory = ⊥

-- that, unless there was no memory
abbrev pub IsRefused : Dataset → Base → BuildError → Type 0
IsRefused d b NoMemory = ⊤
IsRefused d b error = IsFull d b error
