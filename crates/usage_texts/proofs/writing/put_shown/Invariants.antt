use Rattle.usage_texts.specs.Told.{PutsSome}
use Rattle.usage_texts.proofs.writing.put_shown.Given as goal

abbrev pub invariant-loop-at : goal.invariant-loop-at
invariant-loop-at g l = PutsSome (g.K.Sink.state l.fn.out) (g.K.Sink.state l.out) l.fn.page l.page
