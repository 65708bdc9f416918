-- What the crates of edits answer is what the core asks.
use Rattle.std.proofs.Common.{◌≡◌, ℕ, List, [], ◌∷◌, Option, Some, None, Result, Ok, Err}
use Rattle.op_model.specs.declared.base.Dataset.{Dataset}
use Rattle.op_model.specs.declared.base.Base.{Base}
use Rattle.op_model.specs.declared.request.Edit.{Edit}
use Rattle.op_model.specs.declared.entry.Entry.{Entry}
use Rattle.op_model.specs.declared.entry.Plan.{Plan}
use Rattle.op_model.specs.declared.reply.Refusal.{Refusal}
use Rattle.op_model.specs.declared.reply.Refusal.TheVariants.{NoMemory}
use Rattle.op_model.specs.Operations.{touched}
use Rattle.op_model.specs.Refusals.{first_of, refuse_cut, refuse_early}
use Rattle.client_events.specs.Calls.{Locks, Planned}
use Rattle.root_masks.specs.Plans.{AnswersLocks, AnswersPlan}
use Rattle.edit_answers.proofs.Bits.{masks_list}

-- the first of one refusal is that one
only : (o : Option Refusal) (r : Refusal) → first_of (o ∷ []) ≡ Some r → o ≡ Some r
unfolding first_of
only None r h = h
only (Some x) r h = h

-- of an edit that isn't refused early the first refusal is that of its component
cut_first : (early cut : Option Refusal) (r : Refusal) → first_of (early ∷ cut ∷ []) ≡ Some r → early ≡ None → cut ≡ Some r
unfolding first_of
cut_first None cut r h n = only cut r h
cut_first (Some x) cut r h n = cc

pub locks_are : (d : Dataset) (b : Base) (log : List Entry) (edit : Edit) (answer : Result ℕ Refusal) → AnswersLocks d b log edit answer → Locks d b log edit answer
locks_are d b log edit (Ok mask) h = (h.0, masks_list d.layout (touched d b log edit) mask h.1)
locks_are d b log edit (Err r) h = h

pub plans_are : (d : Dataset) (b : Base) (log : List Entry) (edit : Edit) (answer : Result Plan Refusal) → AnswersPlan d b log edit answer → Planned d b log edit answer
plans_are d b log edit (Ok plan) h = (h.0, h.1.1, h.1.2, h.2)
plans_are d b log edit (Err NoMemory) h = tt
plans_are d b log edit (Err r) h = cut_first (refuse_early d b log edit) (refuse_cut d b log edit) r h
