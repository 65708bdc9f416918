-- Inner: no clause of `run` is made of it.
-- An edit in its turn.
use Rattle.std.specs.Prelude.{◌≡◌, ℕ, length, Option, Some, None, Result, Ok, Err}
use Rattle.op_model.specs.declared.entry.Shown.{Shown}
use Rattle.op_model.specs.declared.reply.Refusal.{Refusal}
use Rattle.op_model.specs.declared.reply.Refusal.TheVariants as refusal
use Rattle.op_model.specs.declared.reply.Reply.{Reply}
use Rattle.op_model.specs.declared.reply.Reply.TheVariants as reply
use Rattle.op_model.specs.declared.request.Edit.{Edit}
use Rattle.op_model.specs.declared.request.Request.TheVariants as request
use Rattle.op_model.specs.Refusals.{refused}
use Rattle.op_model.specs.Stamps.{stamp}
use Rattle.shared_rows.specs.declared.view.View.{View}
use Rattle.edit_desk.specs.declared.turning.Put.{Put}
use Rattle.edit_desk.specs.Desk.{Puts, entry_for}

-- the refusal at a log of this length, or that there was no memory
abbrev pub refusal_reply : Refusal → ℕ → Reply
refusal_reply refusal.NoMemory seen = reply.NoMemory
refusal_reply r seen = reply.Refused r seen

-- what is replied in the end
abbrev pub reply_of : Result Put Refusal → Option Shown → ℕ → Reply
reply_of (Ok p) shown seen = reply.Edited p.op p.at p.retired p.made shown p.seen
reply_of (Err r) shown seen = refusal_reply r seen

-- the entry was published behind what was seen, where nothing refused it, and this is told of it
pub record IsPut (u : View) (edit : Edit) (line : ℕ) (p : Put) (w : View) : Type 0 where
  pub clock : ℕ
  pub allowed : refused u.dataset u.base u.log (request.Edit edit) ≡ None
  pub at_is : p.at ≡ stamp u.log clock
  pub puts : Puts u (entry_for u u.log line p.at edit) w
  pub op_is : p.op ≡ length u.log
  pub retired_is : p.retired ≡ (entry_for u u.log line p.at edit).retired
  pub made_is : p.made ≡ (entry_for u u.log line p.at edit).made
  pub seen_is : p.seen ≡ length w.log

-- it was, or nothing was, for this refusal or for want of memory
abbrev pub Appends : View → Edit → ℕ → Result Put Refusal → View → Type 0
Appends u edit line (Ok p) w = IsPut u edit line p w
Appends u edit line (Err refusal.NoMemory) w = w ≡ u
Appends u edit line (Err r) w = (w ≡ u) × (refused u.dataset u.base u.log (request.Edit edit) ≡ Some r)
