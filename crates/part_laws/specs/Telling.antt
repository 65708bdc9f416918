-- Inner: no clause of `run` is made of it.
-- A part of a base tells the nodes of its supervoxels.
use Rattle.std.specs.Prelude.{◌≡◌, ℕ, List, IsTrue}
use Rattle.op_model.specs.declared.base.Dataset.{Dataset}
use Rattle.op_model.specs.declared.base.Base.{Base}
use Rattle.op_model.specs.declared.entry.Entry.{Entry}
use Rattle.graph_model.specs.Lists.{has}
use Rattle.op_model.specs.Ingest.{ingested}
use Rattle.op_model.specs.Labels.{component}
use Rattle.op_model.specs.Valid.{IsBase}
use Rattle.layer_laws.specs.Building.{AreLeastLeaves}
use Rattle.entry_parts.specs.Parts.{AreFirstsOf, IsPart, IsWhole}

-- a supervoxel of the part has the same component in the part's own first entry and in the log
abbrev pub PartsTellNodes : Type 0
PartsTellNodes =
    (d : Dataset) (b : Base) → IsBase d b → (log : List Entry) (part : Base) → IsPart d b log part → (now layer v : ℕ) → IsTrue (has part.supervoxels v)
    → component d part (ingested d part now) layer v ≡ component d b log layer v

-- with each supervoxel the part has all that any layer joins to it
abbrev pub PartsAreWhole : Type 0
PartsAreWhole = (d : Dataset) (b : Base) → IsBase d b → (log : List Entry) (part : Base) → IsPart d b log part → IsWhole d b log part.supervoxels

-- the least leaves of the part's first entry are those of the log
abbrev pub PartsTellFirsts : Type 0
PartsTellFirsts =
    (d : Dataset) (b : Base) → IsBase d b → (log : List Entry) (part : Base) → IsPart d b log part → (now layer : ℕ) (firsts : List ℕ)
    → AreLeastLeaves d part (ingested d part now) layer firsts → AreFirstsOf d b log part.supervoxels layer firsts
