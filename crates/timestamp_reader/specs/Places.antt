-- Inner: no clause of `run` is made of it.
-- Nodes of a chunk that the first entry made, and the entry whose changed pairs are asked of.
use Rattle.std.specs.Prelude.{◌≡◌, ℕ, ◌≤◌, List, [], drop, Option, Some, None}
use Rattle.std.specs.List.{filter_map}
use Rattle.op_model.specs.declared.base.Dataset.{Dataset}
use Rattle.op_model.specs.declared.base.Base.{Base}
use Rattle.op_model.specs.declared.entry.Changed.{Changed}
use Rattle.op_model.specs.declared.entry.Entry.{Entry}
use Rattle.op_model.specs.Operations.{entry_at}
use Rattle.record_rows.specs.Readings.{HoldsNode, ParentImage}
use Rattle.record_rows.specs.Rows.{Node}
use Rattle.record_rows.specs.LogRows.{rows_of}
use Rattle.record_rows.specs.Walks.{first_in}

-- there is no place, or a node of this chunk stands at it
abbrev pub NodeAt : Dataset → Base → List Entry → ℕ → Option ℕ → Type 0
NodeAt d b log c None = Unit {0}
NodeAt d b log c (Some p) = (1 ≤ p) × (n : Node) × HoldsNode d b log p n × (n.chunk ≡ c)

-- and one that the first entry made
abbrev pub FirstNodeAt : Dataset → Base → List Entry → ℕ → Option ℕ → Type 0
FirstNodeAt d b log c None = Unit {0}
FirstNodeAt d b log c (Some p) = (1 ≤ p) × (n : Node) × HoldsNode d b log p n × (n.chunk ≡ c) × (n.made ≡ 0)

-- the nodes of this chunk that the first entry made, of the records from a place on
unfoldable pub first_from : Dataset → Base → List Entry → ℕ → Option ℕ → List ℕ
first_from d b log c None = []
first_from d b log c (Some p) = filter_map (first_in c) (drop p (rows_of d b log))
