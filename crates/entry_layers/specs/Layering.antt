-- Inner: no clause of `run` is made of it.
-- What is known of an entry's layers while they are made, one behind the other.
use Rattle.std.specs.Prelude.{◌≡◌, ℕ, ◌+◌, ◌<◌, ◌≤◌, List, [], ◌∷◌, length, map, None, IsTrue}
use Rattle.std.specs.List.{All}
use Rattle.graph_model.specs.Lists.{has}
use Rattle.op_model.specs.declared.base.Base.{Base}
use Rattle.op_model.specs.declared.base.Dataset.{Dataset}
use Rattle.op_model.specs.declared.entry.Entry.{Entry}
use Rattle.op_model.specs.Chunks.{top}
use Rattle.op_model.specs.Ingest.{spent_in}
use Rattle.layer_laws.specs.Building.{at}
use Rattle.record_rows.specs.Readings.{ParentImage}
use Rattle.entry_parts.specs.Made.{AreMadeIn}
use Rattle.entry_parts.specs.Parts.{AreEndsAt, AreFirstsOf, IsPart}
use Rattle.part_layers.specs.Rising.{AreOwnFirsts}
use Rattle.child_counts.specs.Counting.{HoldsChildren}
use Rattle.entry_layers.specs.declared.gathering.EntryLayers.{EntryLayers}
use Rattle.entry_layers.specs.declared.layering.LayerBelow.{LayerBelow}
use Rattle.entry_layers.specs.Gathered.{AreGathered}

-- The words tell of a log, and an entry e is to follow. This is the part of the base that it touches, with the places of the ends of its changed pairs.
pub record IsEntryPart (d : Dataset) (b : Base) (log : List Entry) (e : Entry) (words : List ℕ) (part : Base) (ends : List ℕ) : Type 0 where
  pub image : ParentImage d b log words
  pub part_is : IsPart d b (e ∷ log) part
  pub ends_at : AreEndsAt part.supervoxels e.changed ends

-- The same of supervoxels that hold no more than the least leaf of each child of a node that the entry makes, and the ends of its changed pairs.
pub record IsEntryList (d : Dataset) (b : Base) (log : List Entry) (e : Entry) (words ids ends : List ℕ) : Type 0 where
  pub image : ParentImage d b log words
  pub holds : (layer : ℕ) → 2 ≤ layer → layer ≤ top d → HoldsChildren d b (e ∷ log) layer ids
  pub ends_at : AreEndsAt ids e.changed ends

-- the least leaves in a layer, as the part has them
abbrev pub AreFirstsBelow : Dataset → Base → ℕ → LayerBelow → Type 0
AreFirstsBelow d part layer below = AreOwnFirsts d part layer below.firsts.items

-- the first so many layers from the second on are made, and this is the last one of them, or layer 1
pub record AreLayersTo (d : Dataset) (b : Base) (log : List Entry) (e : Entry) (ids : List ℕ) (n : ℕ) (all : EntryLayers) (below : LayerBelow) : Type 0 where
  pub gathered : AreGathered d b log e n all
  pub firsts_of : AreFirstsOf d b (e ∷ log) ids (n + 1) below.firsts.items
  pub made : 0 < n → AreMadeIn d b log e (n + 1) below.made.nodes.items
  pub none : n ≡ 0 → below.made.nodes.items ≡ []
  pub leasts : map (at ids) below.made.leasts.items ≡ map (λ m. m.least) below.made.nodes.items
  pub places : All (λ p. p < length ids) below.made.leasts.items
  pub known : (i : ℕ) → IsTrue (has (map (λ m. m.id) below.made.nodes.items) i) → IsTrue (has (map (λ m. m.id) all.nodes.items) i)
  pub room : all.spent ≡ None → 0 < n → spent_in d b (e ∷ log) (n + 1) ≡ None
