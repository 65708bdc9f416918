-- Inner: no clause of `run` is made of it.
-- The supervoxels of the roots of some supervoxels.
use Rattle.std.specs.Prelude.{◌≡◌, ℕ, ◌↔◌, List, IsTrue}
use Rattle.op_model.specs.declared.base.Dataset.{Dataset}
use Rattle.op_model.specs.declared.base.Base.{Base}
use Rattle.op_model.specs.declared.entry.Entry.{Entry}
use Rattle.graph_model.specs.Lists.{has}
use Rattle.op_model.specs.Labels.{root}

-- these are the supervoxels whose root one of the others has
abbrev pub AreTouched : Dataset → Base → List Entry → List ℕ → List ℕ → Type 0
AreTouched d b log us vs = (v : ℕ) → IsTrue (has vs v) ↔ (IsTrue (has b.supervoxels v) × ((u : ℕ) × IsTrue (has us u) × (root d b log v ≡ root d b log u)))
