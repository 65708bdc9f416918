use Rattle.std.proofs.Common.{sym, subst}
use Rattle.parent_rows.proofs.ChainWalks.{image_kept}
use Rattle.change_reader.specs.Walks.{IsMadeBy}
use Rattle.change_reader.proofs.RootRows.{made_by_row}
use Rattle.change_reader.proofs.makers.maker.Goals as goal

pub node-requires : goal.node-requires
node-requires g c =
    let r = c.requires.root in
    let n = c.record_of-spot.ensures.is r.0 r.1 r.2 r.3 r.4 in
    record { node = (r.0, r.1, r.2, n.0, image_kept g.W.Words.words r.0 r.1 r.2 c.record_of-spot.ensures.same r.4.image, n.1) }

pub returns-clause-is : goal.returns-clause-is
returns-clause-is g c d b log prefix i =
    let n = c.record_of-spot.ensures.is d b log prefix i in
    subst (IsMadeBy log c.args.root prefix) (sym (c.node.ensures.is d b log n.0 (image_kept g.W.Words.words d b log c.record_of-spot.ensures.same i.image) n.1).2)
    (made_by_row d b log _ c.args.root prefix i c.record_of-spot.result n.0 n.1 n.2)
