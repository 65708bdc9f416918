use Rattle.flow_net.proofs.Reached.{ends_at}
use Rattle.min_cut.proofs.answer.is_edge.Goals as goal

pub bounds-visits-link : goal.bounds-visits-link
bounds-visits-link c = (ends_at _ c.args.links.now c.args.k _ c.requires.ends c.requires.at).0

pub bounds-visits-link-2 : goal.bounds-visits-link-2
bounds-visits-link-2 c = (ends_at _ c.args.links.now c.args.k _ c.requires.ends c.requires.at).1
