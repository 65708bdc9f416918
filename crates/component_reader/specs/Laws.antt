-- Inner: no clause of `run` is made of it.
-- What holds of the active edges among the leaves of a root.
use Rattle.std.specs.Prelude.{◌≡◌, ℕ, List, IsTrue, ◌<◌, length}
use Rattle.std.specs.List.{AllByRecursion}
use Rattle.op_model.specs.declared.base.Dataset.{Dataset}
use Rattle.op_model.specs.declared.base.Base.{Base}
use Rattle.op_model.specs.declared.entry.Entry.{Entry}
use Rattle.graph_model.specs.Lists.{has}
use Rattle.op_model.specs.Cuts.{part}
use Rattle.op_model.specs.Labels.{edges, root}
use Rattle.op_model.specs.Legal.{Legal}
use Rattle.op_model.specs.Valid.{IsDataset, IsBase}
use Rattle.record_rows.specs.Rows.{Node}
use Rattle.record_rows.specs.Readings.{HoldsNode}
use Rattle.component_reader.specs.Among.{active_among}

-- a supervoxel of the base with this root
abbrev pub IsOfRoot : Dataset → Base → List Entry → ℕ → ℕ → Type 0
IsOfRoot d b log r v = IsTrue (has b.supervoxels v) × (root d b log v ≡ r)

-- where all marks have one root, whose record stands at a place, their part of a log is that of the active edges among the root's leaves
abbrev pub PartsAreAmong : Type 0
PartsAreAmong =
    (d : Dataset) (b : Base) (log : List Entry) (place : ℕ) (n : Node) (marks : List ℕ) → IsDataset d → IsBase d b → Legal d b log
    → HoldsNode d b log place n → 0 < length marks → AllByRecursion (IsOfRoot d b log n.id) marks → part d b log marks ≡ active_among (edges d b log) n.leaves
