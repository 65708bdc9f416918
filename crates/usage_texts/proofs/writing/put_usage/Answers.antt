use Rattle.usage_texts.proofs.Some.{some_none, some_then}
use Rattle.usage_texts.proofs.writing.put_usage.Goals as goal

pub loop-line-init : goal.loop-line-init
loop-line-init g c = some_none (g.K.Sink.state c.args.out.now) c.args.page.now

pub loop-line-preserved : goal.loop-line-preserved
loop-line-preserved g c = some_then _ c.loop-line.invariant c.put.ensures
