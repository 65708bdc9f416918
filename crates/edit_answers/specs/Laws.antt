-- Inner: no clause of `run` is made of it.
-- What the crates of edits answer is what the core asks.
use Rattle.std.specs.Prelude.{ℕ, List, Result}
use Rattle.op_model.specs.declared.base.Dataset.{Dataset}
use Rattle.op_model.specs.declared.base.Base.{Base}
use Rattle.op_model.specs.declared.request.Edit.{Edit}
use Rattle.op_model.specs.declared.entry.Entry.{Entry}
use Rattle.op_model.specs.declared.entry.Plan.{Plan}
use Rattle.op_model.specs.declared.reply.Refusal.{Refusal}
use Rattle.client_events.specs.Calls.{Locks, Planned}
use Rattle.root_masks.specs.Plans.{AnswersLocks, AnswersPlan}

-- the locks of an edit, or its refusal, are the core's
abbrev pub LocksAnswer : Type 0
LocksAnswer =
    (d : Dataset) (b : Base) (log : List Entry) (edit : Edit) (answer : Result ℕ Refusal)
    → AnswersLocks d b log edit answer → Locks d b log edit answer

-- and so is its plan, or why there is none
abbrev pub PlansAnswer : Type 0
PlansAnswer =
    (d : Dataset) (b : Base) (log : List Entry) (edit : Edit) (answer : Result Plan Refusal)
    → AnswersPlan d b log edit answer → Planned d b log edit answer
