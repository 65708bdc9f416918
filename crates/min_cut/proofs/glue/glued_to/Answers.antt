use Rattle.flow_net.proofs.Reached.{ends_at}
use Rattle.min_cut.proofs.glue.glued_to.Goals as goal

pub returns-then-link-from-clause-below : goal.returns-then-link-from-clause-below
returns-then-link-from-clause-below c n e l = (ends_at n c.args.links.now c.args.k _ e c.requires).1

pub returns-then-link-from-2-clause-below : goal.returns-then-link-from-2-clause-below
returns-then-link-from-2-clause-below c n e l = (ends_at n c.args.links.now c.args.k _ e c.requires).0
