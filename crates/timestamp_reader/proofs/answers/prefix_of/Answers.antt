use Rattle.std.proofs.Common.{◌∙◌, Ok, Err, sym, ap}
use Rattle.timestamp_reader.specs.Replies.{prefix_of_read}
use Rattle.timestamp_reader.proofs.ReadPrefixes.{read_all, read_counted, read_early, read_late}
use Rattle.timestamp_reader.proofs.answers.prefix_of.Goals as goal

pub returns-in_default-clause-is : goal.returns-in_default-clause-is
returns-in_default-clause-is g c d b log i = ap (λ n. Ok n) (c.length.ensures.is d b log i) ∙ (read_all log ∙ ap (prefix_of_read log) (sym c.in_default.is))

pub returns-in-Ok-clause-is : goal.returns-in-Ok-clause-is
returns-in-Ok-clause-is g c d b log i = read_counted log c.in-Some.t c.in-Ok.prefix (sym (c.prefix_at.ensures.is d b log i) ∙ c.in-Ok.is) ∙ ap (prefix_of_read log) (sym c.in-Some.is)

pub returns-in-Err-TooEarly-clause-is : goal.returns-in-Err-TooEarly-clause-is
returns-in-Err-TooEarly-clause-is g c d b log i = read_early log c.in-Some.t c.in-Err-TooEarly.first (sym (c.prefix_at.ensures.is d b log i) ∙ (c.in-Err-TooEarly.is ∙ ap (λ x. Err x) c.in-Err-TooEarly.field-0-is)) ∙ ap (prefix_of_read log) (sym c.in-Some.is)

pub returns-in-Err-Unpublished-clause-is : goal.returns-in-Err-Unpublished-clause-is
returns-in-Err-Unpublished-clause-is g c d b log i = read_late log c.in-Some.t c.in-Err-Unpublished.latest (sym (c.prefix_at.ensures.is d b log i) ∙ (c.in-Err-Unpublished.is ∙ ap (λ x. Err x) c.in-Err-Unpublished.field-0-is)) ∙ ap (prefix_of_read log) (sym c.in-Some.is)
