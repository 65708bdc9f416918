use Rattle.usage_texts.specs.Told.{PutsSome}
use Rattle.usage_texts.proofs.writing.put_usage.Given as goal

abbrev pub invariant-loop-line : goal.invariant-loop-line
invariant-loop-line g l = PutsSome (g.K.Sink.state l.fn.out) (g.K.Sink.state l.out) l.fn.page l.page
