use Rattle.request_lines.specs.Texts.{text_of_entry}
use Rattle.log_lines.proofs.Texts.{no_front}
use Rattle.log_lines.proofs.writing.write_at.Goals as goal

pub returns-in-Err-clause-front : goal.returns-in-Err-clause-front
returns-in-Err-clause-front g c = λ d b log e i h. no_front (g.K.Sink.state c.args.out.now).held (text_of_entry e)
