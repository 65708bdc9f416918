use Rattle.usage_texts.specs.Told.{PutsSome}
use Rattle.usage_texts.proofs.writing.put_parts.Given as goal

abbrev pub invariant-loop-part : goal.invariant-loop-part
invariant-loop-part g l = PutsSome (g.K.Sink.state l.fn.out) (g.K.Sink.state l.out) l.fn.page l.page
