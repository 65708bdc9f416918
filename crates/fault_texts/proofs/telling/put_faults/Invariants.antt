use Rattle.usage_texts.specs.Told.{PutsSome}
use Rattle.fault_texts.proofs.telling.put_faults.Given as goal

abbrev pub invariant-loop-number : goal.invariant-loop-number
invariant-loop-number g l = PutsSome (g.K.Sink.state l.fn.out) (g.K.Sink.state l.out) l.fn.page l.page
