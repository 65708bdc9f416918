use Rattle.flow_net.proofs.Reached.{ends_at}
use Rattle.flow_net.proofs.joined.spread_over.Goals as goal

pub spread-requires-clause-a : goal.spread-requires-clause-a
spread-requires-clause-a c = (ends_at _ c.args.links.now c.args.k _ c.requires.ends c.requires.at).0

pub spread-requires-clause-b : goal.spread-requires-clause-b
spread-requires-clause-b c = (ends_at _ c.args.links.now c.args.k _ c.requires.ends c.requires.at).1

pub bounds-seen-link : goal.bounds-seen-link
bounds-seen-link c = (ends_at _ c.args.links.now c.args.k _ c.requires.ends c.requires.at).0

pub bounds-seen-link-2 : goal.bounds-seen-link-2
bounds-seen-link-2 c = (ends_at _ c.args.links.now c.args.k _ c.requires.ends c.requires.at).1
