use Rattle.std.proofs.Common.{◌≡◌, ◌++◌, sym, ap, subst, ◌∙◌}
use Rattle.std.specs.List.{filter}
use Rattle.op_model.specs.Labels.{edges}
use Rattle.op_model.specs.Transcript.{log_at}
use Rattle.record_rows.specs.Readings.{Image}
use Rattle.record_rows.specs.Walks.{edges_at}
use Rattle.record_rows.proofs.ImageFacts.{parent_image}
use Rattle.component_reader.specs.Crossing.{AreInGrid, goes_out}
use Rattle.component_reader.proofs.Leaving.{own_in_grid}
use Rattle.component_reader.proofs.crossing.leaf_out.Goals as goal

pub supervoxel_of-spot-requires : goal.supervoxel_of-spot-requires
supervoxel_of-spot-requires g c =
    let (b, log, i, known) = c.requires.image in
    let d = c.args.dataset.now in
    record { known = (d, b, log, parent_image d b log _ i, known) }

pub edges_of-requires-clause-supervoxel : goal.edges_of-requires-clause-supervoxel
edges_of-requires-clause-supervoxel g c =
    let (b, log, i, known) = c.requires.image in
    let d = c.args.dataset.now in
    (d, b, log, c.args.sv, subst (λ w. Image d b log (g.W.Words.words w)) (sym c.supervoxel_of-spot.ensures.same) i, c.supervoxel_of-spot.ensures.is d b log (parent_image d b log _ i) known)

pub keep_out-requires : goal.keep_out-requires
keep_out-requires g c =
    let (b, log, i, known) = c.requires.image in
    let d = c.args.dataset.now in
    let j = subst (λ w. Image d b log (g.W.Words.words w)) (sym c.supervoxel_of-spot.ensures.same) i in
    let own : c.as_slice.result.now ≡ edges_at (edges d b (log_at d b log c.args.prefix)) c.args.sv =
    c.as_slice.ensures.value ∙ (c.own.view_is ∙ c.in_ok-own.ensures.edges d b log c.args.sv j (c.supervoxel_of-spot.ensures.is d b log (parent_image d b log _ i) known)) in
    subst (AreInGrid d) (sym own) (own_in_grid d b i.dataset i.base log i.legal c.args.prefix c.requires.prefix c.args.sv)

pub returns-clause-kept : goal.returns-clause-kept
returns-clause-kept g c b log i known =
    let d = c.args.dataset.now in
    let j = subst (λ w. Image d b log (g.W.Words.words w)) (sym c.supervoxel_of-spot.ensures.same) i in
    let own : c.as_slice.result.now ≡ edges_at (edges d b (log_at d b log c.args.prefix)) c.args.sv =
    c.as_slice.ensures.value ∙ (c.own.view_is ∙ c.in_ok-own.ensures.edges d b log c.args.sv j (c.supervoxel_of-spot.ensures.is d b log (parent_image d b log _ i) known)) in
    c.in_ok-keep_out.ensures ∙ ap (λ es. c.args.list.now.items ++ filter (goes_out d c.args.layer) es) own
