use Rattle.std.proofs.Common.{◌++◌, ◌∙◌, sym, ap, subst, arith}
use Rattle.op_model.specs.Labels.{edges}
use Rattle.record_rows.specs.Readings.{Image}
use Rattle.record_rows.proofs.ImageFacts.{parent_image}
use Rattle.part_laws.specs.Touched.{gained_edges, is_among, kept_edges}
use Rattle.component_reader.specs.Among.{active_among, leads}
use Rattle.touched_paths.proofs.Climbs.{whole_log}
use Rattle.touched_part.proofs.Whole.{first_entry_there}
use Rattle.touched_part.proofs.touched.part_edges.Goals as goal

pub length-prefix-requires : goal.length-prefix-requires
length-prefix-requires g c = let r = c.requires.image in record { image = (c.args.dataset.now, r.0, r.1, parent_image c.args.dataset.now r.0 r.1 _ r.2) }

pub edges_among-requires-clause-image : goal.edges_among-requires-clause-image
edges_among-requires-clause-image g c =
    let r = c.requires.image in (c.args.dataset.now, r.0, r.1, subst (λ w. Image c.args.dataset.now r.0 r.1 (g.W.Words.words w)) (sym c.length-prefix.ensures.same) r.2, r.3)

pub edges_among-requires-clause-prefix : goal.edges_among-requires-clause-prefix
edges_among-requires-clause-prefix g c =
    let r = c.requires.image in
    let d = c.args.dataset.now in
    let e = c.length-prefix.ensures.is d r.0 r.1 (parent_image d r.0 r.1 _ r.2) in
    let l = first_entry_there d r.0 r.1 r.2.legal in
    omega (arith, e, l)

pub returns-clause-are : goal.returns-clause-are
unfolding active_among leads is_among
returns-clause-are g c b log i k =
    let d = c.args.dataset.now in
    let whole = whole_log d b log c.length-prefix.result (c.length-prefix.ensures.is d b log (parent_image d b log _ i)) in
    let all = (c.in-Ok.ensures.is d b log (subst (λ w. Image d b log (g.W.Words.words w)) (sym c.length-prefix.ensures.same) i) k).0 ∙ ap (λ now. active_among (edges d b now) c.args.ids.now) whole in
    c.in_ok-put_gained.ensures
    ∙ ap (λ es. es ++ gained_edges d.merge_affinity c.args.changed.now) (c.in_ok-list.ensures ∙ ap (kept_edges d.merge_affinity c.args.changed.now) (c.as_slice.ensures.value ∙ (c.among.view_is ∙ all)))
