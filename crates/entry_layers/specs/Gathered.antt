-- Inner: no clause of `run` is made of it.
-- What is gathered, layer by layer, of the nodes and links that an entry makes.
use Rattle.std.specs.Prelude.{◌≡◌, ℕ, nat_le, Bool, List, ◌∷◌, length, map, Option, None, option_map}
use Rattle.std.specs.List.{All, find, flat_map}
use Rattle.node_ids.specs.Ids.{segments}
use Rattle.op_model.specs.declared.base.Base.{Base}
use Rattle.op_model.specs.declared.base.Dataset.{Dataset}
use Rattle.op_model.specs.declared.entry.Entry.{Entry}
use Rattle.op_model.specs.Chunks.{chunk, layers, layers_from}
use Rattle.op_model.specs.Labels.{new_among, root, used}
use Rattle.op_model.specs.Operations.{ascending, ends}
use Rattle.op_model.specs.Records.{child_count, children, total}
use Rattle.record_rows.specs.LogRows.{layer_nodes, links_of, rows_of}
use Rattle.entry_parts.specs.Made.{AreLinks, AreMade, IsPlacedChild, as_link, told_made, told_node}
use Rattle.entry_layers.specs.declared.gathering.EntryLayers.{EntryLayers}
use Rattle.entry_layers.specs.declared.gathering.SpentChunk.{SpentChunk}

-- the layer and the chunk
abbrev pub told_chunk : SpentChunk → ℕ × ℕ
told_chunk s = (s.layer, s.chunk)

abbrev pub told_spent : Option SpentChunk → Option (ℕ × ℕ)
told_spent o = option_map told_chunk o

module _ (d : Dataset) (b : Base) where
  -- the chunks of a layer that hold a supervoxel, ascending, with the layer
  unfoldable pub layer_places : ℕ → List (ℕ × ℕ)
  layer_places layer = map (λ c. (layer, c)) (ascending (map (chunk d layer) b.supervoxels))

  -- whether a chunk has given a number that the ids of its layer don't hold
  abbrev pub is_spent : List Entry → ℕ × ℕ → Bool
  is_spent log c = nat_le (segments d.layout c.0) (used d b log c.0 c.1)

  module _ (log : List Entry) (e : Entry) where
    -- how many children the new nodes of a layer have, together
    abbrev pub children_in : ℕ → ℕ
    children_in layer = total (map (children d b (e ∷ log) layer) (new_among d b (e ∷ log) layer b.supervoxels))

    -- the links of the first so many layers, from the second on, each child made by the entry or standing at its place
    pub record AreLinksTo (n : ℕ) (x : EntryLayers) : Type 0 where
      pub links_are : map (as_link e.number) x.links.items ≡ flat_map (λ layer. flat_map (links_of d b (e ∷ log) layer) (layer_nodes d b (e ∷ log) e.number layer)) (layers_from 2 n)
      pub placed : All (IsPlacedChild (rows_of d b log) (map (λ m. m.id) x.nodes.items)) x.links.items

    -- the nodes of the first so many layers, how many links they have, and the first chunk without numbers for all; where there is none, the links
    pub record AreGathered (n : ℕ) (x : EntryLayers) : Type 0 where
      pub nodes : map told_made x.nodes.items ≡ map told_node (flat_map (layer_nodes d b (e ∷ log) e.number) (layers_from 2 n))
      pub count : length x.links.items ≡ total (map children_in (layers_from 2 n))
      pub spent : told_spent x.spent ≡ find (is_spent (e ∷ log)) (flat_map layer_places (layers_from 2 n))
      pub links : x.spent ≡ None → AreLinksTo n x

    -- of all layers
    pub record AreEntryLayers (x : EntryLayers) : Type 0 where
      pub nodes : AreMade d b log e x.nodes.items
      pub count : length x.links.items ≡ child_count d b (e ∷ log)
      pub spent : told_spent x.spent ≡ find (is_spent (e ∷ log)) (flat_map layer_places (layers d))
      pub links : x.spent ≡ None → AreLinks d b log e x.nodes.items x.links.items
      pub roots : x.roots ≡ ascending (map (root d b (e ∷ log)) (ends e.changed))
