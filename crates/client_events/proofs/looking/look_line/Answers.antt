use Rattle.std.proofs.Common.{◌∙◌, ap, sym}
use Rattle.client_events.specs.Phases.{line_of}
use Rattle.client_events.proofs.LookLemmas.{line_read}
use Rattle.client_events.proofs.looking.look_line.Goals as goal

pub returns-in-Bytes-clause-is : goal.returns-in-Bytes-clause-is
returns-in-Bytes-clause-is g c = λ d b sh s client line stands seen.
    line_read d b sh s client line (line_of g.R.Rows.asked c.args.text.now) (g.R.Rows.asked c.as_slice.result.now) c.look_bytes.result
    (ap (line_of g.R.Rows.asked) c.in-Bytes.is ∙ ap g.R.Rows.asked (sym c.as_slice.ensures.value)) (c.look_bytes.ensures.is d b sh s client line stands seen)
