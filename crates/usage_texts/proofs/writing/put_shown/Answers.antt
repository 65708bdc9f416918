use Rattle.usage_texts.proofs.Some.{some_none, some_then}
use Rattle.usage_texts.proofs.writing.put_shown.Goals as goal

pub loop-at-init : goal.loop-at-init
loop-at-init g c = some_none (g.K.Sink.state c.args.out.now) c.args.page.now

pub loop-at-preserved : goal.loop-at-preserved
loop-at-preserved g c = some_then _ c.loop-at.invariant c.put.ensures
