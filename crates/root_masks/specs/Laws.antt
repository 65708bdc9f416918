-- Inner: no clause of `run` is made of it.
-- What was answered of an edit at a log, at a later one.
use Rattle.std.specs.Prelude.{◌≡◌, ℕ, true, false, List, ◌∷◌, ◌++◌, Result}
use Rattle.std.specs.List.{AllByRecursion}
use Rattle.node_ids.specs.Ids.{IsLayout, LayoutForm}
use Rattle.op_model.specs.declared.base.Dataset.{Dataset}
use Rattle.op_model.specs.declared.base.Base.{Base}
use Rattle.op_model.specs.declared.request.Edit.{Edit}
use Rattle.op_model.specs.declared.entry.Entry.{Entry}
use Rattle.op_model.specs.declared.entry.Plan.{Plan}
use Rattle.op_model.specs.declared.reply.Refusal.{Refusal}
use Rattle.op_model.specs.Laws.{Lasts}
use Rattle.op_model.specs.Legal.{Legal}
use Rattle.op_model.specs.Locks.{lock_of}
use Rattle.op_model.specs.Operations.{next_entry}
use Rattle.op_model.specs.Valid.{IsBase, IsDataset}
use Rattle.root_masks.specs.Masks.{has_bit}
use Rattle.root_masks.specs.Plans.{AnswersPlan, AreLocks}

-- no entry retires a root whose lock the mask has
abbrev pub AreSpared : LayoutForm → ℕ → List Entry → Type 0
AreSpared layout mask entries = AllByRecursion (λ e. AllByRecursion (λ r. has_bit mask (lock_of layout r) ≡ false) e.retired) entries

-- locks of an edit are its locks behind entries that retire no root of one of them, and what its plan rests on is the same there
abbrev pub LocksLast : Type 0
LocksLast =
    (d : Dataset) (b : Base) (newer : List Entry) (e : Entry) (log : List Entry) (edit : Edit) (mask : ℕ)
    → IsLayout d.layout → Legal d b (newer ++ e ∷ log) → AreLocks d b (e ∷ log) edit mask → AreSpared d.layout mask newer
    → AreLocks d b (newer ++ e ∷ log) edit mask × Lasts d b (e ∷ log) (newer ++ e ∷ log) edit

-- and what is planned, or refused for its component or its glue, is planned or refused as before
abbrev pub PlansStay : Type 0
PlansStay =
    (d : Dataset) (b : Base) (newer : List Entry) (e : Entry) (log : List Entry) (edit : Edit) (mask : ℕ) (answer : Result Plan Refusal)
    → IsLayout d.layout → Legal d b (newer ++ e ∷ log) → AreLocks d b (e ∷ log) edit mask → AreSpared d.layout mask newer
    → AnswersPlan d b (e ∷ log) edit answer → AnswersPlan d b (newer ++ e ∷ log) edit answer

-- the entry of an edit retires only roots whose locks are the edit's
abbrev pub RetiredAreLocked : Type 0
RetiredAreLocked =
    (d : Dataset) (b : Base) (log : List Entry) (client line at : ℕ) (edit : Edit) (mask : ℕ)
    → IsDataset d → IsBase d b → Legal d b log → AreLocks d b log edit mask
    → AllByRecursion (λ r. has_bit mask (lock_of d.layout r) ≡ true) (next_entry d b log client line at edit).retired
