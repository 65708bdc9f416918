use Rattle.std.proofs.Common.{◌≡◌, List, sym, ap, subst, ◌∙◌}
use Rattle.std.specs.List.{filter, flat_map}
use Rattle.op_model.specs.declared.base.Edge.{Edge}
use Rattle.op_model.specs.Labels.{edges}
use Rattle.op_model.specs.Transcript.{log_at}
use Rattle.record_rows.specs.Readings.{Image}
use Rattle.record_rows.specs.Walks.{edges_at}
use Rattle.record_rows.proofs.ImageFacts.{parent_image}
use Rattle.node_reader.specs.Readable.{AreKnown}
use Rattle.component_reader.specs.Crossing.{goes_out}
use Rattle.component_reader.proofs.Leaving.{found_leaving, layer_is}
use Rattle.component_reader.proofs.RootLeaves.{leaves_known}
use Rattle.component_reader.proofs.crossing.cross.Goals as goal

pub leaves-requires : goal.leaves-requires
leaves-requires g c =
    let (b, log, n, i, h) = c.requires.node in
    let d = c.args.dataset.now in
    record { node = (d, b, log, n, parent_image d b log _ (subst (λ w. Image d b log (g.W.Words.words w)) (sym c.layer_of-layer.ensures.same) i), h) }

pub all_out-requires-clause-image : goal.all_out-requires-clause-image
all_out-requires-clause-image g c =
    let (b, log, n, i, h) = c.requires.node in
    let d = c.args.dataset.now in
    let j = subst (λ w. Image d b log (g.W.Words.words w)) (sym c.layer_of-layer.ensures.same) i in
    let all : c.as_slice.result.now ≡ n.leaves = c.as_slice.ensures.value ∙ (c.leaves-2.view_is ∙ c.in_ok-leaves.ensures.is d b log n (parent_image d b log _ j) h) in
    (b, log, subst (λ w. Image d b log (g.W.Words.words w)) (sym c.in_ok-leaves.ensures.same) j, subst (AreKnown b) (sym all) (leaves_known d b i.dataset i.base log i.legal c.args.spot n h))

pub returns-clause-is : goal.returns-clause-is
returns-clause-is g c b log n layer v i h hl hv q =
    let d = c.args.dataset.now in
    let j = subst (λ w. Image d b log (g.W.Words.words w)) (sym c.layer_of-layer.ensures.same) i in
    let k = subst (λ w. Image d b log (g.W.Words.words w)) (sym c.in_ok-leaves.ensures.same) j in
    let all : c.as_slice.result.now ≡ n.leaves = c.as_slice.ensures.value ∙ (c.leaves-2.view_is ∙ c.in_ok-leaves.ensures.is d b log n (parent_image d b log _ j) h) in
    let known = subst (AreKnown b) (sym all) (leaves_known d b i.dataset i.base log i.legal c.args.spot n h) in
    let told : c.layer_of-layer.result ≡ layer = c.layer_of-layer.ensures.is b log n i h ∙ layer_is d b i.dataset i.base log i.legal c.args.prefix c.requires.prefix layer v hl hv n.id q in
    let es : List Edge = edges d b (log_at d b log c.args.prefix) in
    let found : c.in_ok-found.found.items ≡ flat_map (λ u. filter (goes_out d layer) (edges_at es u)) n.leaves =
    c.in_ok-found.ensures.is b log k known ∙ (ap (flat_map (λ u. filter (goes_out d c.layer_of-layer.result) (edges_at es u))) all ∙ ap (λ l. flat_map (λ u. filter (goes_out d l) (edges_at es u)) n.leaves) told) in
    found_leaving d b i.dataset i.base log i.legal c.args.prefix c.requires.prefix layer v hl hv c.args.spot n h q c.in_ok-found.found.items c.ascending.result found c.ascending.ensures.same c.ascending.ensures.sorted
