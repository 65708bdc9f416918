-- Inner: no clause of `run` is made of it.
-- What the core asks of the calls that it makes.
use Rattle.std.specs.Prelude.{◌≡◌, ℕ, List, ⊤, Some, None, Result, Ok, Err}
use Rattle.op_model.specs.declared.base.Dataset.{Dataset}
use Rattle.op_model.specs.declared.base.Base.{Base}
use Rattle.op_model.specs.declared.request.Edit.{Edit}
use Rattle.op_model.specs.declared.entry.Changed.{Changed}
use Rattle.op_model.specs.Legal.{LegalPlan}
use Rattle.op_model.specs.declared.request.Read.{Read}
use Rattle.op_model.specs.declared.entry.Plan.{Plan}
use Rattle.op_model.specs.declared.entry.Asked.TheVariants as asked
use Rattle.op_model.specs.declared.entry.Entry.{Entry}
use Rattle.op_model.specs.declared.request.Request.{Request}
use Rattle.op_model.specs.declared.request.Request.TheVariants as request
use Rattle.op_model.specs.declared.reply.Reply.{Reply}
use Rattle.op_model.specs.declared.reply.Reply.TheVariants as reply
use Rattle.op_model.specs.declared.reply.Refusal.{Refusal}
use Rattle.op_model.specs.declared.reply.Refusal.TheVariants as refusal
use Rattle.op_model.specs.declared.request.LineError.{LineError}
use Rattle.op_model.specs.declared.request.LineError.TheVariants as error
use Rattle.op_model.specs.Cuts.{Shows}
use Rattle.op_model.specs.Operations.{change, touched, entry_of}
use Rattle.op_model.specs.Refusals.{refuse_early, refuse_cut, refuse_late, refused}
use Rattle.op_model.specs.Answers.{answer}
use Rattle.op_model.specs.Transcript.{Line, Asks, Faulty, read_reply}
use Rattle.op_model.specs.Locks.{locks_of}
use Rattle.op_model.specs.Stamps.{stamp}
use Rattle.client_events.specs.declared.rows.Stamp.{Stamp}
use Rattle.client_events.specs.declared.rows.Remade.{Remade}
use Rattle.client_events.specs.Masks.{numbers}

-- a line is read as what it is, unless there is no memory
abbrev pub Reads : Result Request LineError → Line → Type 0
Reads (Ok q) line = line ≡ Asks q
Reads (Err error.NoMemory) line = ⊤
Reads (Err e) line = line ≡ Faulty e

-- a read is answered at the log, unless there is no memory
abbrev pub Answers : Dataset → Base → List Entry → Read → Reply → Type 0
Answers d b log q reply.NoMemory = ⊤
Answers d b log q r = r ≡ read_reply (refused d b log (request.Read q)) log (answer d b log q)

-- the locks of an edit that isn't refused early
abbrev pub Locks : Dataset → Base → List Entry → Edit → Result ℕ Refusal → Type 0
Locks d b log edit (Ok mask) = (refuse_early d b log edit ≡ None) × (locks_of d.layout (touched d b log edit) ≡ numbers mask 0)
Locks d b log edit (Err r) = refuse_early d b log edit ≡ Some r

-- the plan of an edit, of which it is known that it isn't refused early
abbrev pub Planned : Dataset → Base → List Entry → Edit → Result Plan Refusal → Type 0
Planned d b log edit (Ok plan) =
    (plan.edit ≡ edit) × (refuse_cut d b log edit ≡ None) × (plan.changed ≡ change d b log edit) × Shows d b log edit plan.shown
Planned d b log edit (Err refusal.NoMemory) = ⊤
Planned d b log edit (Err r) = refuse_early d b log edit ≡ None → refuse_cut d b log edit ≡ Some r

-- the entry of a plan
abbrev pub entry_from : Dataset → Base → List Entry → Plan → Stamp → Entry
entry_from d b log plan s = entry_of d b log s.client s.line (stamp log s.now) (asked.Edit plan.edit) plan.changed

-- the draft of a legal plan
abbrev pub Remakes : (Dataset → Base → List Entry → Entry → Type 0) → Dataset → Base → List Entry → Plan → Stamp → Result Remade Refusal → Type 0
Remakes drafts d b log plan s (Ok r) =
    let e = entry_from d b log plan s in
    (refuse_late d b log plan.edit ≡ None) × drafts d b log e × (r.op ≡ e.number) × (r.at ≡ e.at) × (r.retired ≡ e.retired) × (r.made ≡ e.made)
Remakes drafts d b log plan s (Err refusal.NoMemory) = ⊤
Remakes drafts d b log plan s (Err r) = refuse_late d b log plan.edit ≡ Some r

-- the records are those of some log
abbrev pub IsStood : (Dataset → Base → List Entry → Type 0) → Type 0
IsStood stands = (d : Dataset) × (b : Base) × (log : List Entry) × stands d b log

-- and the plan is legal there
abbrev pub IsPlanned : (Dataset → Base → List Entry → Type 0) → Edit → List Changed → Type 0
IsPlanned stands edit changed = (d : Dataset) × (b : Base) × (log : List Entry) × stands d b log × LegalPlan d b log edit changed

-- a draft stands behind the records
abbrev pub IsDrafted : (Dataset → Base → List Entry → Entry → Type 0) → Type 0
IsDrafted drafts = (d : Dataset) × (b : Base) × (log : List Entry) × (e : Entry) × drafts d b log e
