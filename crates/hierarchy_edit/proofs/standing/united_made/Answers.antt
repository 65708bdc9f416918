use Rattle.record_rows.proofs.ImageFacts.{parent_image}
use Rattle.hierarchy_edit.proofs.standing.united_made.Goals as goal

pub united_layers-requires-clause-united : goal.united_layers-requires-clause-united
united_layers-requires-clause-united g c = let r = c.requires.paths in (r.0, r.1, r.2, parent_image c.args.dataset.now r.0 r.1 _ r.3, r.4, r.5)

pub returns-clause-layers : goal.returns-clause-layers
returns-clause-layers g c b log e i on q = c.in_ok-layers.ensures.layers b log e (parent_image c.args.dataset.now b log _ i) on q
