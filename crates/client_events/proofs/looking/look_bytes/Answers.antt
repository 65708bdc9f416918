use Rattle.std.proofs.Common.{◌∙◌, ap, false}
use Rattle.op_model.specs.declared.request.Request.TheVariants as request
use Rattle.op_model.specs.Transcript.{Asks}
use Rattle.client_events.proofs.LookLemmas.{line_read}
use Rattle.client_events.proofs.looking.look_bytes.Goals as goal

pub returns-in-Ok-Read-clause-is : goal.returns-in-Ok-Read-clause-is
returns-in-Ok-Read-clause-is g c = λ d b sh s client line stands seen.
    line_read d b sh s client line (g.R.Rows.asked c.args.bytes.now) (Asks (request.Read c.in-Ok-Read.read)) c.look_read.result (c.in-Ok-Read.ensures ∙ ap Asks c.in-Ok-Read.field-0-is)
    (c.look_read.ensures.is d b sh s client line stands)

pub returns-in-Ok-Edit-clause-is : goal.returns-in-Ok-Edit-clause-is
returns-in-Ok-Edit-clause-is g c = λ d b sh s client line stands seen.
    line_read d b sh s client line (g.R.Rows.asked c.args.bytes.now) (Asks (request.Edit c.in-Ok-Edit.edit)) c.look.result (c.in-Ok-Edit.ensures ∙ ap Asks c.in-Ok-Edit.field-0-is)
    (false, c.look.ensures.is d b sh s client line stands)
