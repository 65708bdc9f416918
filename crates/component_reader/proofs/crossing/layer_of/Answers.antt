use Rattle.std.proofs.Common.{◌∙◌, refl, ap, eq-eqb}
use Rattle.node_ids.specs.Ids.{parts_of}
use Rattle.record_rows.specs.Chains.{has_id}
use Rattle.record_rows.specs.Rows.{NodeRow}
use Rattle.record_rows.proofs.ImageFacts.{parent_image, within}
use Rattle.node_reader.proofs.Climbs.{id_at_told}
use Rattle.component_reader.proofs.crossing.layer_of.Goals as goal

pub id_of-id-requires : goal.id_of-id-requires
id_of-id-requires g c = let (b, log, n, i, h) = c.requires.node in record { within = within c.args.dataset.now b log _ (parent_image c.args.dataset.now b log _ i) c.args.node _ h }

pub returns-clause-is : goal.returns-clause-is
unfolding has_id
returns-clause-is g c b log n i h =
    let d = c.args.dataset.now in
    let own = c.id_of-id.ensures.is ∙ id_at_told d b log _ (parent_image d b log _ i) c.args.node n.id (NodeRow n, h, eq-eqb n.id n.id refl) in
    ap (λ p. p.layer) c.unpack.ensures ∙ ap (λ x. (parts_of d.layout x).layer) own
