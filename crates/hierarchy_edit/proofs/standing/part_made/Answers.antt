use Rattle.std.proofs.Common.{sym, subst}
use Rattle.entry_parts.specs.Parts.{AreEndsAt}
use Rattle.edge_rows.proofs.ChainFacts.{image_kept}
use Rattle.hierarchy_edit.proofs.EntryFacts.{entry_part, some_changed, some_entry}
use Rattle.hierarchy_edit.proofs.standing.part_made.Goals as goal

pub entry_layers-requires-clause-part : goal.entry_layers-requires-clause-part
entry_layers-requires-clause-part g c =
    let r = c.requires.known in
    let d = c.args.dataset.now in
    let cs = c.args.changed.now in
    let e = some_entry cs in
    let at = subst (AreEndsAt c.in_ok-touched.touched.part.supervoxels cs) (sym c.as_slice-ends.ensures.value) c.in_ok-touched.ensures.ends in
    (r.0, r.1, e, entry_part d r.0 r.1 e _ _ _ cs (image_kept g.W.Words.words d r.0 r.1 c.in_ok-touched.ensures.same r.2) (c.in_ok-touched.ensures.part r.0 r.1 e r.2 r.3 r.4 (some_changed cs)) at (some_changed cs))

pub returns-clause-layers : goal.returns-clause-layers
returns-clause-layers g c b log e i known tops q =
    let d = c.args.dataset.now in
    let cs = c.args.changed.now in
    let at = subst (AreEndsAt c.in_ok-touched.touched.part.supervoxels cs) (sym c.as_slice-ends.ensures.value) c.in_ok-touched.ensures.ends in
    c.in_ok-layers.ensures.layers b log e
    (entry_part d b log e _ _ _ cs (image_kept g.W.Words.words d b log c.in_ok-touched.ensures.same i) (c.in_ok-touched.ensures.part b log e i known tops q) at q)
