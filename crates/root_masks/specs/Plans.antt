-- Inner: no clause of `run` is made of it.
-- What the locks and the plan of an edit are.
use Rattle.std.specs.Prelude.{◌≡◌, ℕ, true, List, [], ◌∷◌, ⊤, Some, None, Result, Ok, Err}
use Rattle.std.specs.List.{AllByRecursion}
use Rattle.op_model.specs.declared.base.Dataset.{Dataset}
use Rattle.op_model.specs.declared.base.Base.{Base}
use Rattle.op_model.specs.declared.request.Edit.{Edit}
use Rattle.op_model.specs.declared.entry.Changed.{Changed}
use Rattle.op_model.specs.declared.entry.Entry.{Entry}
use Rattle.op_model.specs.declared.entry.Plan.{Plan}
use Rattle.op_model.specs.declared.reply.Refusal.{Refusal}
use Rattle.op_model.specs.declared.reply.Refusal.TheVariants as refusal
use Rattle.graph_model.specs.Lists.{has}
use Rattle.op_model.specs.Cuts.{Shows}
use Rattle.op_model.specs.Legal.{LegalPlan}
use Rattle.op_model.specs.Operations.{touched}
use Rattle.op_model.specs.Refusals.{first_of, refuse_cut, refuse_early}
use Rattle.root_masks.specs.Masks.{HasLocks}

-- each is a supervoxel of the base
abbrev pub AreKnown : Base → List ℕ → Type 0
AreKnown b ids = AllByRecursion (λ v. has b.supervoxels v ≡ true) ids

-- the edit isn't refused for its ids, its marks, its roots or its operation, and the mask has the locks of the roots that it touches and no other
abbrev pub AreLocks : Dataset → Base → List Entry → Edit → ℕ → Type 0
AreLocks d b log edit mask = (refuse_early d b log edit ≡ None) × HasLocks d.layout (touched d b log edit) mask

-- a legal plan of the edit, with what its reply shows
abbrev pub IsPlan : Dataset → Base → List Entry → Edit → Plan → Type 0
IsPlan d b log edit p = (p.edit ≡ edit) × LegalPlan d b log edit p.changed × Shows d b log edit p.shown

-- why there is no plan: the edit is refused before room, ids and time count, or there was no memory
abbrev pub IsUnplanned : Dataset → Base → List Entry → Edit → Refusal → Type 0
IsUnplanned d b log edit refusal.NoMemory = ⊤
IsUnplanned d b log edit r = first_of (refuse_early d b log edit ∷ refuse_cut d b log edit ∷ []) ≡ Some r

-- the locks of the edit, or its first refusal
abbrev pub AnswersLocks : Dataset → Base → List Entry → Edit → Result ℕ Refusal → Type 0
AnswersLocks d b log edit (Ok mask) = AreLocks d b log edit mask
AnswersLocks d b log edit (Err r) = refuse_early d b log edit ≡ Some r

-- its plan, or why there is none
abbrev pub AnswersPlan : Dataset → Base → List Entry → Edit → Result Plan Refusal → Type 0
AnswersPlan d b log edit (Ok plan) = IsPlan d b log edit plan
AnswersPlan d b log edit (Err r) = IsUnplanned d b log edit r

-- the pairs that its plan changes, or why there is none
abbrev pub AnswersChange : Dataset → Base → List Entry → Edit → Result (List Changed) Refusal → Type 0
AnswersChange d b log edit (Ok changed) = LegalPlan d b log edit changed
AnswersChange d b log edit (Err r) = IsUnplanned d b log edit r
