use Rattle.std.proofs.Common.{◌∙◌, sym}
use Rattle.record_rows.specs.LogRows.{rows_of}
use Rattle.parent_rows.proofs.ChainWalks.{image_kept}
use Rattle.parent_rows.proofs.Told.{parent_leads}
use Rattle.parent_rows.proofs.VersionWalks.{no_parent, link_parent, parent_stands}
use Rattle.parent_rows.proofs.versions.parent_at.Goals as goal

pub returns-in_default-clause-is : goal.returns-in_default-clause-is
returns-in_default-clause-is g c = λ d b log id i h. no_parent (rows_of d b log) id c.args.prefix (c.newest_below.ensures.is d b log id i h) c.in_default.not-Some

pub pointer-requires-clause-within : goal.pointer-requires-clause-within
pointer-requires-clause-within g c =
    let r = c.requires.owner in
    let l = link_parent (rows_of r.0 r.1 r.2) r.3 c.args.prefix c.in-Some.link (c.newest_below.ensures.is r.0 r.1 r.2 r.3 r.4 r.5) c.in-Some.is in
    (parent_leads r.0 r.1 r.2 _ (image_kept g.W.Words.words r.0 r.1 r.2 c.newest_below.ensures.same r.4) c.in-Some.link l.0 l.1).0

pub pointer-requires-clause-place : goal.pointer-requires-clause-place
pointer-requires-clause-place g c =
    let r = c.requires.owner in
    let l = link_parent (rows_of r.0 r.1 r.2) r.3 c.args.prefix c.in-Some.link (c.newest_below.ensures.is r.0 r.1 r.2 r.3 r.4 r.5) c.in-Some.is in
    (parent_leads r.0 r.1 r.2 _ (image_kept g.W.Words.words r.0 r.1 r.2 c.newest_below.ensures.same r.4) c.in-Some.link l.0 l.1).1

pub returns-clause-is : goal.returns-clause-is
returns-clause-is g c = λ d b log id i h.
    let l = link_parent (rows_of d b log) id c.args.prefix c.in-Some.link (c.newest_below.ensures.is d b log id i h) c.in-Some.is in
    c.pointer.ensures.is ∙ ((parent_leads d b log _ (image_kept g.W.Words.words d b log c.newest_below.ensures.same i) c.in-Some.link l.0 l.1).2 ∙ (parent_stands d b log _ i c.in-Some.link l.0 l.1 ∙ sym l.2))
