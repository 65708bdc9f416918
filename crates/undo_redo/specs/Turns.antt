-- Inner: no clause of `run` is made of it.
-- Undos and redos, and pairs that others have changed since.
use Rattle.std.specs.Prelude.{ℕ, Bool, not, if◌then◌else◌, List, Option, Some, None, ⊤}
use Rattle.std.specs.Option.{option_map_or}
use Rattle.std.specs.List.{find}
use Rattle.op_model.specs.declared.base.Dataset.{Dataset}
use Rattle.op_model.specs.declared.base.Base.{Base}
use Rattle.op_model.specs.declared.entry.Changed.{Changed}
use Rattle.op_model.specs.declared.base.Edge.{Edge}
use Rattle.op_model.specs.declared.request.Edit.{Edit}
use Rattle.op_model.specs.declared.request.Edit.TheVariants.{Merge, Split, Undo, Redo}
use Rattle.op_model.specs.declared.entry.Entry.{Entry}
use Rattle.op_model.specs.declared.base.Pair.{Pair}
use Rattle.op_model.specs.Edges.{linked}
use Rattle.op_model.specs.Labels.{edges}
use Rattle.op_model.specs.Operations.{opposite}
use Rattle.op_model.specs.Refusals.{changes_pair}

-- the edit is an undo or a redo
abbrev pub IsTurn : Edit → Type 0
IsTurn (Merge pairs) = ⊥
IsTurn (Split sources sinks) = ⊥
IsTurn (Undo n) = ⊤
IsTurn (Redo n) = ⊤

-- the undo or the redo of an operation
unfoldable pub turn : Bool → ℕ → Edit
turn back n = if back then Undo n else Redo n

-- a pair with the state that an undo, or else a redo, gives it
unfoldable pub turned : Bool → Changed → Changed
turned back c = if back then opposite c else c

-- whether a pair isn't in this state
unfoldable pub is_overtaken : List Edge → Changed → Bool
is_overtaken es c = if c.active then not (linked es c.pair.a c.pair.b) else linked es c.pair.a c.pair.b

-- the number of the last entry that changed a pair
unfoldable pub changer : List Entry → Pair → ℕ
changer log p = option_map_or (λ e. e.number) (find (λ e. changes_pair e p) log) 0

-- the last entry that changed the first of these pairs that isn't in its state
unfoldable pub overtaker : Dataset → Base → List Entry → List Changed → Option ℕ
overtaker d b log cs = option_map_or (λ c. Some (changer log c.pair)) (find (is_overtaken (edges d b log)) cs) None
