use Rattle.usage_texts.proofs.Some.{some_none, both_some}
use Rattle.fault_texts.proofs.telling.put_faults.Goals as goal

pub loop-number-init : goal.loop-number-init
loop-number-init g c = some_none (g.K.Sink.state c.args.out.now) c.args.page.now

pub loop-number-preserved : goal.loop-number-preserved
loop-number-preserved g c = both_some c.loop-number.invariant c.put_fault.ensures
