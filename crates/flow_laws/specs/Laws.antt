-- Inner: no clause of `run` is made of it.
-- Flows of the least cut's weight, and choices and plays that show them.
use Rattle.std.specs.Prelude.{◌≡◌, ℕ, Bool, List, length, ℤ, pos, Option, None, slice_get}
use Rattle.graph_model.specs.Lists.{has}
use Rattle.graph_model.specs.Wires.{Wire, EndsBelow}
use Rattle.graph_model.specs.Cuts.{Separates, weight, least_cut}
use Rattle.graph_model.specs.Flows.{IsFlow, value}
use Rattle.op_model.specs.declared.base.Dataset.{Dataset}
use Rattle.op_model.specs.declared.base.Base.{Base}
use Rattle.op_model.specs.declared.request.Edit.{Edit}
use Rattle.op_model.specs.declared.entry.Entry.{Entry}
use Rattle.op_model.specs.declared.entry.Shown.{Shown}
use Rattle.op_model.specs.Cuts.{Shows}
use Rattle.op_model.specs.Legal.{Legal}
use Rattle.op_model.specs.Refusals.{refuse_cut}
use Rattle.op_model.specs.Valid.{IsBase}
use Rattle.session_machine.specs.Machine.{Choice, State, run, IsAllowedAt, IsRun}
use Rattle.session_machine.specs.Play.{scheduled, finishing, play, work, AllEnded}
use Rattle.session_machine.specs.Laws.{AfterEachRun}

-- if some set separates, some flow is worth what the least cut weighs
abbrev pub FlowsExist : Type 0
FlowsExist =
    (n : ℕ) (ws : List Wire) (sources sinks : List ℕ) (x : ℕ → Bool) → EndsBelow n ws → Separates ws sources sinks x
    → (fs : List ℤ) × (length fs ≡ length ws) × IsFlow n ws sources sinks fs
    × (value ws fs sources ≡ pos (weight ws (has (least_cut ws sources sinks))))

-- an edit that a legal log doesn't refuse for its component can be shown: a split's least cut has a flow
abbrev pub EditsAreShown : Type 0
EditsAreShown =
    (d : Dataset) (b : Base) → IsBase d b → (log : List Entry) (edit : Edit) → Legal d b log → refuse_cut d b log edit ≡ None
    → (shown : Option Shown) × Shows d b log edit shown

-- whatever else a client's choice says, some flow makes it an allowed one; so also if it says that memory isn't wanting
abbrev pub ChoicesExist : Type 0
ChoicesExist =
    AfterEachRun (λ d b w. (k : ℕ) (c : Choice)
    → (shown : Option Shown) × IsAllowedAt d b (record c { shown = shown }) w.shared (slice_get w.clients k))

-- these choices, with these flows
abbrev pub showing : (ℕ → Choice) → (ℕ → Option Shown) → ℕ → Choice
showing choose shown n = let c = choose n in record c { shown = shown n }

-- the choices of a schedule from this state are allowed, and so are those behind it, until all clients have ended
pub record IsAllowedPlay (d : Dataset) (b : Base) (choose later : ℕ → Choice) (schedule : List ℕ) (w : State) : Type 0 where
  pub before : IsRun d b (scheduled d b choose schedule) w
  pub behind :
      let v = run d b (scheduled d b choose schedule) w in
      IsRun d b (finishing d b later (work v) v) v
  pub ended : AllEnded (play d b choose later schedule w)

-- each schedule has a play by allowed choices, whatever else these choices say
abbrev pub PlaysExist : Type 0
PlaysExist =
    AfterEachRun (λ d b w. (schedule : List ℕ) (choose later : ℕ → Choice)
    → (shown : ℕ → Option Shown) × (more : ℕ → Option Shown) × IsAllowedPlay d b (showing choose shown) (showing later more) schedule w)
