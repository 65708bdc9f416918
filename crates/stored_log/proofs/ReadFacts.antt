-- What is read and replied is what the core asks.
use Rattle.std.proofs.Common.{◌≡◌, ℕ, List, Result, Ok, Err, refl, sym, ◌∙◌, ap, subst, inl, inr}
use Rattle.op_model.specs.declared.base.Dataset.{Dataset}
use Rattle.op_model.specs.declared.base.Base.{Base}
use Rattle.op_model.specs.declared.entry.Entry.{Entry}
use Rattle.op_model.specs.declared.request.LineError.{LineError}
use Rattle.op_model.specs.declared.request.LineError.TheVariants as errors
use Rattle.op_model.specs.declared.request.Read.{Read}
use Rattle.op_model.specs.declared.request.Read.TheVariants as read
use Rattle.op_model.specs.declared.request.Request.{Request}
use Rattle.op_model.specs.declared.request.Request.TheVariants as request
use Rattle.op_model.specs.declared.reply.Reply.{Reply}
use Rattle.op_model.specs.declared.reply.Reply.TheVariants as reply
use Rattle.op_model.specs.Answers.{answer}
use Rattle.op_model.specs.Refusals.{refused}
use Rattle.op_model.specs.Transcript.{read_reply}
use Rattle.client_events.specs.Calls.{Answers, Reads}
use Rattle.request_lines.specs.Asking.{Gives, asked}
use Rattle.timestamp_reader.specs.Replies.{IsAnswer, reply_to}
use Rattle.stored_log.specs.Stored.{asked_line, line_read}

-- a line is what it is read as
pub read_as : (r : Result Request LineError) (bytes : List ℕ) → Gives r (asked bytes) → Reads r (asked_line bytes)
read_as (Ok q) bytes h = ap line_read h
read_as (Err errors.NoMemory) bytes h = tt
read_as (Err (errors.LineTooLong n)) bytes h = ap line_read h
read_as (Err errors.NotJson) bytes h = ap line_read h
read_as (Err errors.NotObject) bytes h = ap line_read h
read_as (Err (errors.MissingField name)) bytes h = ap line_read h
read_as (Err (errors.BadField name)) bytes h = ap line_read h
read_as (Err errors.NoSuchCommand) bytes h = ap line_read h

is_reply : (d : Dataset) (b : Base) (log : List Entry) (q : Read) (r : Reply) → r ≡ read_reply (refused d b log (request.Read q)) log (answer d b log q) → Answers d b log q r
is_reply d b log q reply.NoMemory h = tt
is_reply d b log q r h = h

same_reply : (d : Dataset) (b : Base) (log : List Entry) (q : Read) → reply_to d b log q ≡ read_reply (refused d b log (request.Read q)) log (answer d b log q)
unfolding reply_to refused
same_reply d b log q = refl

reply_so : (d : Dataset) (b : Base) (log : List Entry) (q : Read) (r : Reply) → r ≡ reply_to d b log q → Answers d b log q r
reply_so d b log q r h = is_reply d b log q r (h ∙ same_reply d b log q)

short_so : (d : Dataset) (b : Base) (log : List Entry) (q : Read) (r : Reply) → r ≡ reply.NoMemory → Answers d b log q r
short_so d b log q r h = subst (Answers d b log q) (sym h) tt

-- a reply to a read
pub answered : (d : Dataset) (b : Base) (log : List Entry) (q : Read) (r : Reply) → IsAnswer d b log q r → Answers d b log q r
answered d b log (read.Root v at) r h = reply_so d b log (read.Root v at) r h
answered d b log (read.Path v at) r h = reply_so d b log (read.Path v at) r h
answered d b log (read.Leaves root at) r (inl h) = reply_so d b log (read.Leaves root at) r h
answered d b log (read.Leaves root at) r (inr h) = short_so d b log (read.Leaves root at) r h.0
answered d b log (read.Changes root at) r (inl h) = reply_so d b log (read.Changes root at) r h
answered d b log (read.Changes root at) r (inr h) = short_so d b log (read.Changes root at) r h.0
