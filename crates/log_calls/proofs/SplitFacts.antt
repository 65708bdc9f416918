-- The locks and the plan of a split in the words that all forms share.
use Rattle.std.proofs.Common.{◌≡◌, ℕ, List, Some, Result, Ok, Err, MatchResult}
use Rattle.op_model.specs.declared.base.Dataset.{Dataset}
use Rattle.op_model.specs.declared.base.Base.{Base}
use Rattle.op_model.specs.declared.entry.Entry.{Entry}
use Rattle.op_model.specs.declared.entry.Plan.{Plan}
use Rattle.op_model.specs.declared.request.Edit.{Edit}
use Rattle.op_model.specs.declared.reply.Refusal.{Refusal}
use Rattle.op_model.specs.Refusals.{refuse_early}
use Rattle.root_masks.specs.Plans.{AnswersLocks, AnswersPlan, AreLocks, IsPlan, IsUnplanned}

pub locks_same : (d : Dataset) (b : Base) (log : List Entry) (edit : Edit) (r : Result ℕ Refusal) → MatchResult r (AreLocks d b log edit) (λ x. refuse_early d b log edit ≡ Some x) → AnswersLocks d b log edit r
locks_same d b log edit (Ok mask) h = h
locks_same d b log edit (Err x) h = h

pub plan_same : (d : Dataset) (b : Base) (log : List Entry) (edit : Edit) (r : Result Plan Refusal) → MatchResult r (IsPlan d b log edit) (IsUnplanned d b log edit) → AnswersPlan d b log edit r
plan_same d b log edit (Ok plan) h = h
plan_same d b log edit (Err x) h = h
