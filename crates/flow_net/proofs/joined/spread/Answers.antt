use Rattle.flow_net.proofs.Reached.{spreads_to, spreads_back, other_false, other_true}
use Rattle.flow_net.proofs.joined.spread.Goals as goal

pub returns-then-seen-a-2-clause-more : goal.returns-then-seen-a-2-clause-more
returns-then-seen-a-2-clause-more c _ =
    spreads_to c.args.seen.now c.args.a c.args.b c.requires.b c.if-seen-a-2.true (other_false _ _ c.if-seen-a.false c.if-seen-a-2.true)

pub returns-else-seen-a-2-clause-more : goal.returns-else-seen-a-2-clause-more
returns-else-seen-a-2-clause-more c _ =
    spreads_back c.args.seen.now c.args.a c.args.b c.requires.a c.if-seen-a-2.false (other_true _ _ c.if-seen-a.false c.if-seen-a-2.false)
