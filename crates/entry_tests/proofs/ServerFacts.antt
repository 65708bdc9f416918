-- What reads and edits need of the words of a server, and what edits leave.
use Rattle.std.proofs.Common.{◌≡◌, ℕ, ◌+◌, ◌*◌, ◌≤◌, List, ◌∷◌, length, Result, Ok, Err, IfOk, OnOk, OnErr, MatchResult, sym, subst, arith}
use Rattle.op_model.specs.declared.base.Dataset.{Dataset}
use Rattle.op_model.specs.declared.base.Base.{Base}
use Rattle.op_model.specs.declared.entry.Entry.{Entry}
use Rattle.op_model.specs.declared.entry.Plan.{Plan}
use Rattle.op_model.specs.declared.reply.Refusal.{Refusal}
use Rattle.op_model.specs.declared.request.Edit.{Edit}
use Rattle.op_model.specs.Legal.{LegalPlan}
use Rattle.record_rows.specs.Readings.{ForEachLog, Image, ParentImage}
use Rattle.record_rows.proofs.ImageFacts.{parent_image}
use Rattle.log_rows.specs.Entries.{HasLog}
use Rattle.root_masks.specs.Plans.{AnswersPlan, IsPlan, IsUnplanned}
use Rattle.pcg_base.specs.WordStores.{WordStore}
use Rattle.hierarchy_build.specs.declared.errors.BuildError.{BuildError}
use Rattle.hierarchy_edit.specs.declared.remaking.Stamp.{Stamp}
use Rattle.hierarchy_edit.specs.declared.remaking.Remade.{Remade}
use Rattle.hierarchy_edit.specs.Remade.{entry_for}
use Rattle.entry_tests.specs.Servers.{IsPlanned, IsServer}

pub server_parents : (d : Dataset) (words : List ℕ) (spare : ℕ) → IsServer d words spare → HasLog ParentImage words
server_parents d words spare i = (d, i.b, i.log, parent_image d i.b i.log words i.image)

pub server_image : (d : Dataset) (words : List ℕ) (spare : ℕ) → IsServer d words spare → HasLog Image words
server_image d words spare i = (d, i.b, i.log, i.image)

-- a plan that is answered is legal
planned : (d : Dataset) (b : Base) (log : List Entry) (words : List ℕ) (edit : Edit) (r : Result Plan Refusal) → Image d b log words → AnswersPlan d b log edit r → IfOk r (IsPlanned d words)
planned d b log words edit (Ok p) i a = record { b = b; log = log; image = i; legal = subst (λ e. LegalPlan d b log e p.changed) (sym a.0) a.1 }
planned d b log words edit (Err e) i a = tt

matched : (d : Dataset) (b : Base) (log : List Entry) (words : List ℕ) (edit : Edit) (r : Result Plan Refusal) → Image d b log words → MatchResult r (IsPlan d b log edit) (IsUnplanned d b log edit) → IfOk r (IsPlanned d words)
matched d b log words edit (Ok p) i a = record { b = b; log = log; image = i; legal = subst (λ e. LegalPlan d b log e p.changed) (sym a.0) a.1 }
matched d b log words edit (Err e) i a = tt

pub merge_planned : (d : Dataset) (words : List ℕ) (spare : ℕ) (edit : Edit) (r : Result Plan Refusal) → IsServer d words spare → ForEachLog ParentImage words (λ d b log. AnswersPlan d b log edit r) → IfOk r (IsPlanned d words)
merge_planned d words spare edit r i a = planned d i.b i.log words edit r i.image (a d i.b i.log (parent_image d i.b i.log words i.image))

pub turn_planned : (d : Dataset) (words : List ℕ) (spare : ℕ) (edit : Edit) (r : Result Plan Refusal) → IsServer d words spare → ForEachLog Image words (λ d b log. AnswersPlan d b log edit r) → IfOk r (IsPlanned d words)
turn_planned d words spare edit r i a = planned d i.b i.log words edit r i.image (a d i.b i.log i.image)

pub split_planned : (d : Dataset) (words : List ℕ) (spare : ℕ) (edit : Edit) (r : Result Plan Refusal) → IsServer d words spare → ForEachLog Image words (λ d b log. MatchResult r (IsPlan d b log edit) (IsUnplanned d b log edit)) → IfOk r (IsPlanned d words)
split_planned d words spare edit r i a = matched d i.b i.log words edit r i.image (a d i.b i.log i.image)

-- the words are those of a server again, whether the entry of a plan was put or refused
pub put_or_kept : (d : Dataset) (p : Plan) (s : Stamp) (old new : WordStore) (r : Result Remade Refusal) → IsServer d old.words old.spare → IsPlanned d old.words p
    → ((b : Base) (log : List Entry) → Image d b log old.words → LegalPlan d b log p.edit p.changed → OnOk r (Image d b (entry_for d b log p.edit s ∷ log) new.words))
    → OnErr r (new ≡ old) → length new.words + new.spare ≡ length old.words + old.spare → IsServer d new.words new.spare
put_or_kept d p s old new (Ok x) i l image kept room =
    let has : 8 * d.capacity ≤ length old.words + old.spare = i.room in
    record { b = l.b; log = entry_for d l.b l.log p.edit s ∷ l.log; image = image l.b l.log l.image l.legal; room = omega (arith, room, has) }
put_or_kept d p s old new (Err e) i l image kept room = subst (λ w. IsServer d w.words w.spare) (sym kept) i

-- what is built of a base are the words of a server
pub built_server : (d : Dataset) (b : Base) (log : List Entry) (r : Result WordStore BuildError) → IfOk r (λ w. Image d b log w.words) → IfOk r (λ w. 8 * d.capacity ≤ length w.words + w.spare) → IfOk r (λ w. IsServer d w.words w.spare)
built_server d b log (Ok w) i room = record { b = b; log = log; image = i; room = room }
built_server d b log (Err e) i room = tt
