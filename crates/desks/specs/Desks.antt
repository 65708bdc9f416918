-- Inner: no clause of `run` is made of it.
-- What a client knows at its desk, and what a read and an edit do to that.
use Rattle.std.specs.Prelude.{◌≡◌, ◌<◌, ℕ, List, ◌∷◌, length, Option, Some, None}
use Rattle.op_model.specs.declared.base.Base.{Base}
use Rattle.op_model.specs.declared.base.Dataset.{Dataset}
use Rattle.op_model.specs.declared.entry.Entry.{Entry}
use Rattle.op_model.specs.declared.entry.Shown.{Shown}
use Rattle.op_model.specs.declared.reply.Reply.{Reply}
use Rattle.op_model.specs.declared.reply.Reply.TheVariants as reply
use Rattle.op_model.specs.declared.request.Edit.{Edit}
use Rattle.op_model.specs.declared.request.Read.{Read}
use Rattle.op_model.specs.declared.request.Request.TheVariants as request
use Rattle.op_model.specs.Cuts.{Shows}
use Rattle.op_model.specs.Operations.{next_entry}
use Rattle.op_model.specs.Refusals.{refused}
use Rattle.op_model.specs.Stamps.{stamp}
use Rattle.shared_rows.specs.Logs.{Extends}
use Rattle.timestamp_reader.specs.Replies.{IsAnswer}

-- the client's number, what the log is over, all that the client has seen of the log, and the entries that it published; both lists have their newest entry first
pub record Knows : Type 0 where
  pub client : ℕ
  pub dataset : Dataset
  pub base : Base
  pub log : List Entry
  pub own : List Entry

-- the client is the same, and has seen a log that begins with the one that it saw before, and an entry at least
pub record Goes (k l : Knows) : Type 0 where
  pub client_is : l.client ≡ k.client
  pub dataset_is : l.dataset ≡ k.dataset
  pub base_is : l.base ≡ k.base
  pub seen : Extends l.log k.log
  pub some : 0 < length l.log

-- and it has published nothing
pub record Keeps (k l : Knows) : Type 0 where
  pub goes : Goes k l
  pub own_is : l.own ≡ k.own

-- the entry of the client's edit behind this log
abbrev pub entry_for : Knows → List Entry → ℕ → ℕ → Edit → Entry
entry_for k log line at edit = next_entry k.dataset k.base log k.client line at edit

-- The client has published the entry of the edit, which nothing refused, behind a log that begins with all that it had seen. This is told of it.
pub record Publishes (k : Knows) (edit : Edit) (line op at : ℕ) (retired made : List ℕ) (shown : Option Shown) (seen : ℕ) (l : Knows) : Type 0 where
  pub log : List Entry
  pub clock : ℕ
  pub grown : Extends log k.log
  pub allowed : refused l.dataset l.base log (request.Edit edit) ≡ None
  pub at_is : at ≡ stamp log clock
  pub log_is : l.log ≡ entry_for l log line at edit ∷ log
  pub own_is : l.own ≡ entry_for l log line at edit ∷ k.own
  pub op_is : op ≡ length log
  pub retired_is : retired ≡ (entry_for l log line at edit).retired
  pub made_is : made ≡ (entry_for l log line at edit).made
  pub shows : Shows l.dataset l.base log edit shown
  pub seen_is : seen ≡ length l.log

-- The edit is in the log, and the reply tells of it; or the client has published nothing, and the edit is refused at the log that it saw last, or there was no memory.
abbrev pub Edits : Knows → Edit → ℕ → Reply → Knows → Type 0
Edits k edit line (reply.Edited op at retired made shown seen) l =
    Goes k l × Publishes k edit line op at retired made shown seen l
Edits k edit line (reply.Refused r seen) l =
    Keeps k l × (refused l.dataset l.base l.log (request.Edit edit) ≡ Some r) × (seen ≡ length l.log)
Edits k edit line reply.NoMemory l = Keeps k l
Edits k edit line r l = ⊥

-- the client has published nothing, and the reply is that of the log that it saw last
abbrev pub Reads : Knows → Read → Reply → Knows → Type 0
Reads k q r l = Keeps k l × IsAnswer l.dataset l.base l.log q r
