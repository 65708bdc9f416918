-- Inner: no clause of `run` is made of it.
-- What a pass knows after a read or an edit, and what is replied.
use Rattle.std.specs.Prelude.{◌≡◌, ◌≤◌, ℕ, suc, List, ◌∷◌, length, Option, Some, None}
use Rattle.op_model.specs.declared.base.Dataset.{Dataset}
use Rattle.op_model.specs.declared.entry.Entry.{Entry}
use Rattle.op_model.specs.declared.entry.Shown.{Shown}
use Rattle.op_model.specs.declared.reply.Reply.{Reply}
use Rattle.op_model.specs.declared.reply.Reply.TheVariants as reply
use Rattle.op_model.specs.declared.request.Edit.{Edit}
use Rattle.op_model.specs.declared.request.Read.{Read}
use Rattle.op_model.specs.declared.request.Request.TheVariants as request
use Rattle.op_model.specs.Cuts.{Shows}
use Rattle.op_model.specs.Operations.{next_entry}
use Rattle.op_model.specs.Refusals.{refused}
use Rattle.op_model.specs.Stamps.{stamp}
use Rattle.shared_rows.specs.declared.view.View.{View}
use Rattle.shared_rows.specs.Known.{IsIdle, Known, Place}
use Rattle.shared_rows.specs.Logs.{Extends}
use Rattle.timestamp_reader.specs.Replies.{IsAnswer}

-- the pass is one of these rows over this dataset, and holds nothing
pub record IsReady (shared : Place) (d : Dataset) (p : Known) : Type 0 where
  pub table_is : p.table ≡ shared.table
  pub dataset_is : p.view.dataset ≡ d
  pub idle : IsIdle p.view

-- what stays of a pass, and the log that it sees only grows
pub record Went (v w : View) : Type 0 where
  pub number_is : w.number ≡ v.number
  pub dataset_is : w.dataset ≡ v.dataset
  pub base_is : w.base ≡ v.base
  pub permits_is : w.permits ≡ v.permits
  pub olds_is : w.olds ≡ v.olds
  pub more : v.tail ≤ w.tail
  pub looks : v.looks ≤ w.looks
  pub seen : Extends w.log v.log

-- and it has published nothing
pub record Stays (v w : View) : Type 0 where
  pub went : Went v w
  pub own_is : w.own ≡ v.own

-- the pass has published this entry behind all that it had seen
pub record Puts (v : View) (e : Entry) (w : View) : Type 0 where
  pub number_is : w.number ≡ v.number
  pub dataset_is : w.dataset ≡ v.dataset
  pub base_is : w.base ≡ v.base
  pub permits_is : w.permits ≡ v.permits
  pub olds_is : w.olds ≡ v.olds
  pub held_is : w.held ≡ v.held
  pub turn_is : w.turn ≡ v.turn
  pub looks_are : w.looks ≡ v.looks
  pub more : v.tail ≤ w.tail
  pub log_is : w.log ≡ e ∷ v.log
  pub own_is : w.own ≡ e ∷ v.own

-- the entry of a pass's edit behind this log
abbrev pub entry_for : View → List Entry → ℕ → ℕ → Edit → Entry
entry_for v log line at edit = next_entry v.dataset v.base log v.number line at edit

-- The pass has published the entry of the edit, which nothing refused, behind a log that begins with all that it had seen. This is told of it.
pub record Publishes (v : View) (edit : Edit) (line op at : ℕ) (retired made : List ℕ) (shown : Option Shown) (seen : ℕ) (w : View) : Type 0 where
  pub log : List Entry
  pub clock : ℕ
  pub grown : Extends log v.log
  pub allowed : refused w.dataset w.base log (request.Edit edit) ≡ None
  pub at_is : at ≡ stamp log clock
  pub log_is : w.log ≡ entry_for w log line at edit ∷ log
  pub own_is : w.own ≡ entry_for w log line at edit ∷ v.own
  pub op_is : op ≡ length log
  pub retired_is : retired ≡ (entry_for w log line at edit).retired
  pub made_is : made ≡ (entry_for w log line at edit).made
  pub shows : Shows w.dataset w.base log edit shown
  pub seen_is : seen ≡ length w.log

-- The edit is in the log, and the reply tells of it; or the pass has published nothing, and the edit is refused at the log that it saw last, or there was no memory.
abbrev pub Edits : View → Edit → ℕ → Reply → View → Type 0
Edits v edit line (reply.Edited op at retired made shown seen) w =
    Went v w × Publishes v edit line op at retired made shown seen w
Edits v edit line (reply.Refused r seen) w =
    Stays v w × (refused w.dataset w.base w.log (request.Edit edit) ≡ Some r) × (seen ≡ length w.log)
Edits v edit line reply.NoMemory w = Stays v w
Edits v edit line r w = ⊥

-- one look was made, and the reply is that of the log that it saw
abbrev pub Reads : View → Read → Reply → View → Type 0
Reads v q r w = Stays v w × (w.looks ≡ suc v.looks) × IsAnswer w.dataset w.base w.log q r
