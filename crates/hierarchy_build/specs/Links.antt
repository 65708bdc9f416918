-- Inner: no clause of `run` is made of it.
-- The links of nodes to their children, by places, layer by layer.
use Rattle.std.specs.Prelude.{◌≡◌, ℕ, ◌+◌, ◌-◌, ◌≤◌, ◌<◌, ◌==◌, IsTrue, List, length, map}
use Rattle.std.specs.List.{All, filter, range_with_len}
use Rattle.std.specs.List.Sorted.{IsPermutation, IsNonDecreasingBy}
use Rattle.op_model.specs.declared.base.Dataset.{Dataset}
use Rattle.op_model.specs.declared.base.Base.{Base}
use Rattle.graph_model.specs.Lists.{has}
use Rattle.op_model.specs.Chunks.{top}
use Rattle.op_model.specs.Valid.{IsBase, IsDataset}
use Rattle.base_rows.specs.declared.lists.BaseLink.{BaseLink}
use Rattle.op_model.specs.Ingest.{ingested}
use Rattle.layer_laws.specs.Building.{at}
use Rattle.octree_layers.specs.declared.layers.Layer.{Layer}
use Rattle.octree_layers.specs.Layers.{AreLayers}

-- these are all layers of the base at its first entry
pub record AreBuilt (d : Dataset) (b : Base) (ls : List Layer) : Type 0 where
  pub dataset : IsDataset d
  pub base : IsBase d b
  pub layers : (now : ℕ) → AreLayers d b (ingested d b now) 2 ls
  pub count : length ls ≡ top d - 1

-- for each number of a list, all below the number of places, where it stands in the list
pub record AreRanks (places : ℕ) (leasts ranks : List ℕ) : Type 0 where
  pub count : length ranks ≡ places
  pub low : All (λ r. r ≤ length leasts) ranks
  pub there : (i : ℕ) → IsTrue (has leasts i) → (at ranks i < length leasts) × (at leasts (at ranks i) ≡ i)

-- the j-th child of a layer with its parent: the node of the least leaf that the child's own leads to
abbrev pub child_link : ℕ → ℕ → List ℕ → List ℕ → List ℕ → ℕ → BaseLink
child_link first_child first_parent leads firsts ranks j = record { child = first_child + j; parent = first_parent + at ranks (at firsts (at leads j)) }

-- all children of a layer in their order, told by their least leaves
unfoldable pub child_links : ℕ → ℕ → List ℕ → List ℕ → List ℕ → List BaseLink
child_links first_child first_parent leads firsts ranks = map (child_link first_child first_parent leads firsts ranks) (range_with_len 0 (length leads))

-- the same links by their parents, those of one parent as they stood
pub record AreByParent (old new : List BaseLink) : Type 0 where
  pub moved : IsPermutation old new
  pub same : (p : ℕ) → filter (λ x. x.parent == p) new ≡ filter (λ x. x.parent == p) old
  pub rising : IsNonDecreasingBy (λ x. x.parent) new

-- these are the links of a layer, by its nodes and then by the children
pub record AreLayerLinks (first_child first_parent : ℕ) (leads : List ℕ) (l : Layer) (links : List BaseLink) : Type 0 where
  pub ranks : List ℕ
  pub are_ranks : AreRanks (length l.firsts.items) (map (λ m. m.least) l.made.items) ranks
  pub by_parent : AreByParent (child_links first_child first_parent leads l.firsts.items ranks) links
