use Rattle.std.proofs.Common.{◌∙◌, eqb, sym, ap}
use Rattle.record_rows.proofs.ImageFacts.{within}
use Rattle.node_reader.proofs.LeafWalks.{is_leaf, is_open}
use Rattle.united_layers.proofs.reading.is_supervoxel.Goals as goal

pub kind_of-requires : goal.kind_of-requires
kind_of-requires g c = let r = c.requires.id in record { within = within r.0 r.1 r.2 _ r.4 c.args.spot r.5.0 r.5.1 }

pub returns-clause-yes : goal.returns-clause-yes
returns-clause-yes g c d b log id i h t = is_leaf d b log _ i c.args.spot id h (sym (ap (λ k. eqb k 2) c.kind_of.ensures.is) ∙ t)

pub returns-clause-no : goal.returns-clause-no
returns-clause-no g c d b log id i h t = is_open d b log _ i c.args.spot id h (sym (ap (λ k. eqb k 2) c.kind_of.ensures.is) ∙ t)
