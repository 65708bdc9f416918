use Rattle.thread_tests.proofs.Gathering.{ends_joined, rest_ends}
use Rattle.thread_tests.proofs.ending.gather_all.Goals as goal

pub loop-other-preserved : goal.loop-other-preserved
loop-other-preserved c = (
  ends_joined c.args.shared.now c.loop-other.all c.in-Some.other c.gather.new.into c.loop-other.invariant.0 c.gather.ensures,
  rest_ends c.args.shared.now c.loop-other.rest.items c.pop.new.self.items c.pop.result c.pop.ensures.items c.loop-other.invariant.1,
)
