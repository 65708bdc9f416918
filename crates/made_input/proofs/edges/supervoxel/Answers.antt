use Rattle.std.proofs.Common.{◌∙◌, ap}
use Rattle.node_ids.specs.Packing.{packed}
use Rattle.made_input.proofs.Places.{packs}
use Rattle.made_input.proofs.edges.supervoxel.Goals as goal

pub returns-in-Ok : goal.returns-in-Ok
returns-in-Ok c =
    let w = c.args.wish.now in
    cc (c.in-Ok.ensures ∙ ap (packed w.layout) c.parts.ensures ∙ packs w c.requires.fits c.args.k c.requires.there)

pub returns-in-Err : goal.returns-in-Err
returns-in-Err c =
    let w = c.args.wish.now in
    cc (c.in-Err.ensures ∙ ap (packed w.layout) c.parts.ensures ∙ packs w c.requires.fits c.args.k c.requires.there)
