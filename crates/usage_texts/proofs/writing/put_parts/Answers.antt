use Rattle.usage_texts.proofs.Some.{some_none, both_some}
use Rattle.usage_texts.proofs.writing.put_parts.Goals as goal

pub loop-part-init : goal.loop-part-init
loop-part-init g c = some_none (g.K.Sink.state c.args.out.now) c.args.page.now

pub loop-part-preserved : goal.loop-part-preserved
loop-part-preserved g c = both_some c.loop-part.invariant c.put_shown.ensures
