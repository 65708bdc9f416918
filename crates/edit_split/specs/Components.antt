-- Inner: no clause of `run` is made of it.
-- The component of a split's marks, and what is cut of it.
use Rattle.std.specs.Prelude.{◌≡◌, ℕ, ◌<◌, ⊤, List, map, Some, None}
use Rattle.op_model.specs.declared.base.Dataset.{Dataset}
use Rattle.op_model.specs.declared.base.Base.{Base}
use Rattle.op_model.specs.declared.request.Edit.{Edit}
use Rattle.op_model.specs.declared.entry.Entry.{Entry}
use Rattle.op_model.specs.declared.entry.Plan.{Plan}
use Rattle.op_model.specs.declared.entry.Shown.{Shown}
use Rattle.op_model.specs.declared.reply.Refusal.{Refusal}
use Rattle.op_model.specs.declared.reply.Refusal.TheVariants as refusal
use Rattle.op_model.specs.Cuts.{Shows}
use Rattle.op_model.specs.Labels.{root}
use Rattle.op_model.specs.Refusals.{refuse_cut, refuse_early}
use Rattle.record_rows.specs.Rows.{Node}
use Rattle.record_rows.specs.Readings.{HoldsNode}
use Rattle.edit_split.specs.Marks.{off}

-- these are the leaves in the record of the supervoxel's root
abbrev pub AreRootLeaves : Dataset → Base → List Entry → ℕ → List ℕ → Type 0
AreRootLeaves d b log v ids = (place : ℕ) × (n : Node) × HoldsNode d b log place n × (n.id ≡ root d b log v) × (ids ≡ n.leaves)

-- there are so many edges, and over 500,000, or there is no memory
abbrev pub IsTooLarge : ℕ → Refusal → Type 0
IsTooLarge count refusal.NoMemory = ⊤
IsTooLarge count r = (500000 < count) × (r ≡ refusal.TooLarge count)

-- why nothing is cut: what the component is refused for, or no memory
abbrev pub IsUncut : Dataset → Base → List Entry → Edit → Refusal → Type 0
IsUncut d b log edit refusal.NoMemory = ⊤
IsUncut d b log edit r = refuse_cut d b log edit ≡ Some r

-- the edit isn't refused before room, ids and time count, and this is what its reply shows
abbrev pub IsCutOf : Dataset → Base → List Entry → Edit → Shown → Type 0
IsCutOf d b log edit s = (refuse_early d b log edit ≡ None) × (refuse_cut d b log edit ≡ None) × Shows d b log edit (Some s)

-- the plan of this edit that cuts these pairs and shows this
abbrev pub IsPlanOf : Edit → Shown → Plan → Type 0
IsPlanOf edit s p = (p.edit ≡ edit) × (p.changed ≡ map off s.cut) × (p.shown ≡ Some s)
