use Rattle.std.proofs.Common.{inr, refl}
use Rattle.edge_rows.proofs.ChainFacts.{image_kept}
use Rattle.chain_ends.proofs.EdgeFinds.{edge_found, found_known, none_unknown}
use Rattle.entry_lists.proofs.ChangeFacts.{known_change}
use Rattle.entry_lists.proofs.changes.change_at.Goals as goal

pub returns-in_default-clause-is : goal.returns-in_default-clause-is
returns-in_default-clause-is g c = λ d b log i. inr (none_unknown d b log _ i c.args.changed.now.pair (c.find_edge.ensures.found d b log i) c.in_default.not-Some, refl, refl)

pub changes_end-last-requires : goal.changes_end-last-requires
changes_end-last-requires g c =
    let r = c.requires.image in
    let x = edge_found r.0 r.1 r.2 _ r.3 c.args.changed.now.pair c.in-Some.edge (c.find_edge.ensures.found r.0 r.1 r.2 r.3) c.in-Some.is in
    record { edge = (r.0, r.1, r.2, x.0, x.1, image_kept g.W.Words.words r.0 r.1 r.2 c.find_edge.ensures.same r.3, x.2) }

pub returns-clause-is : goal.returns-clause-is
returns-clause-is g c = λ d b log i.
    let x = edge_found d b log _ i c.args.changed.now.pair c.in-Some.edge (c.find_edge.ensures.found d b log i) c.in-Some.is in
    known_change d b log c.args.changed.now c.in-Some.edge x.0 x.1 c.changes_end-last.result (found_known d b log _ i c.args.changed.now.pair c.in-Some.edge (c.find_edge.ensures.found d b log i) c.in-Some.is)
    (c.find_edge.ensures.found d b log i) c.in-Some.is x.2 x.3
    (c.changes_end-last.ensures.end d b log x.0 x.1 (image_kept g.W.Words.words d b log c.find_edge.ensures.same i) x.2) c.changes_end-last.ensures.pointer.0 c.changes_end-last.ensures.pointer.1 _
