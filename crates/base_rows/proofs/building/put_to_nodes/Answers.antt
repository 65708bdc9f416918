use Rattle.std.proofs.Common.{refl}
use Rattle.base_rows.proofs.building.put_to_nodes.Goals as goal

pub returns-clause-words : goal.returns-clause-words
returns-clause-words c ns are =
    let d = c.args.dataset.now in
    let edged = c.in_ok-put_all_edges.ensures.words d c.args.chunks.now c.put_owners.ensures.words in
    c.in_ok-put_nodes.ensures.words d c.args.ids.now c.args.edges.items ns refl edged are
