use Rattle.std.proofs.Common.{◌∙◌, ap, inl, inr, subst}
use Rattle.call_lines.specs.Statuses.{status_of}
use Rattle.call_lines.specs.Texts.{stop_text}
use Rattle.call_lines.specs.Printing.{Prints}
use Rattle.call_lines.specs.declared.stops.Stop.{Stop}
use Rattle.pcg_serve.proofs.Made.{never_done}
use Rattle.pcg_serve.proofs.making.run_make.Goals as goal

pub returns-in-Ok-clause-outcome : goal.returns-in-Ok-clause-outcome
returns-in-Ok-clause-outcome g c = inl (c.in-Ok.ensures.wrote.0, c.in-Ok.ensures.wrote.1, c.finish_made.ensures.printed)

pub returns-in-Err-clause-outcome : goal.returns-in-Err-clause-outcome
returns-in-Err-clause-outcome g c =
    inr (
      c.in-Err.stop,
      c.in-Err.ensures.wrote.0,
      c.in-Err.ensures.wrote.1,
      c.stopped.ensures.status ∙ ap status_of c.stop_of.ensures,
      subst (λ (s : Stop). Prints (g.K.Sink.state c.args.out.now) (g.K.Sink.state c.stopped.new.out) (stop_text s)) c.stop_of.ensures c.stopped.ensures.line,
    )

pub returns-in-Err-clause-flushed : goal.returns-in-Err-clause-flushed
returns-in-Err-clause-flushed g c = never_done c.in-Err.stop c.stop_of.result c.stopped.result c.stop_of.ensures c.stopped.ensures.status
