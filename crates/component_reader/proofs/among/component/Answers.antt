use Rattle.std.proofs.Common.{◌≡◌, ◌≤◌, List, length, sym, subst, ◌∙◌}
use Rattle.std.specs.Prelude.{MatchResult}
use Rattle.op_model.specs.declared.base.Edge.{Edge}
use Rattle.op_model.specs.Labels.{edges}
use Rattle.op_model.specs.Transcript.{log_at}
use Rattle.op_model.specs.Valid.{IsAscending}
use Rattle.record_rows.specs.Readings.{Image}
use Rattle.record_rows.proofs.ImageFacts.{parent_image}
use Rattle.node_reader.specs.Readable.{AreKnown}
use Rattle.component_reader.specs.Among.{IsLarge, active_among}
use Rattle.component_reader.proofs.RootLeaves.{leaves_ascend, leaves_known}
use Rattle.component_reader.proofs.among.component.Goals as goal

pub leaves-requires : goal.leaves-requires
leaves-requires g c = let (d, b, log, n, i, h) = c.requires.node in record { node = (d, b, log, n, parent_image d b log _ i, h) }

pub edges_among-requires-clause-image : goal.edges_among-requires-clause-image
edges_among-requires-clause-image g c =
    let (d, b, log, n, i, h) = c.requires.node in
    let p = parent_image d b log _ i in
    let all : c.as_slice.result.now ≡ n.leaves = c.as_slice.ensures.value ∙ (c.leaves-2.view_is ∙ c.in-Ok.ensures.is d b log n p h) in
    (d, b, log, subst (λ w. Image d b log (g.W.Words.words w)) (sym c.in-Ok.ensures.same) i, subst (AreKnown b) (sym all) (leaves_known d b i.dataset i.base log i.legal c.args.node n h))

pub edges_among-requires-clause-ascending : goal.edges_among-requires-clause-ascending
edges_among-requires-clause-ascending g c =
    let (d, b, log, n, i, h) = c.requires.node in
    let p = parent_image d b log _ i in
    let all : c.as_slice.result.now ≡ n.leaves = c.as_slice.ensures.value ∙ (c.leaves-2.view_is ∙ c.in-Ok.ensures.is d b log n p h) in
    subst IsAscending (sym all) (leaves_ascend d b i.dataset i.base log i.legal c.args.node n h)

pub returns-clause-is : goal.returns-clause-is
returns-clause-is g c d b log n i h =
    let p = parent_image d b log _ i in
    let es : List Edge = edges d b (log_at d b log c.args.prefix) in
    let all : c.as_slice.result.now ≡ n.leaves = c.as_slice.ensures.value ∙ (c.leaves-2.view_is ∙ c.in-Ok.ensures.is d b log n p h) in
    subst (λ vs. MatchResult c.edges_among.result (λ fs. (fs ≡ active_among es vs) × (length fs ≤ c.args.most)) (IsLarge (length (active_among es vs)) c.args.most)) all
    (c.edges_among.ensures.is d b log (subst (λ w. Image d b log (g.W.Words.words w)) (sym c.in-Ok.ensures.same) i) (subst (AreKnown b) (sym all) (leaves_known d b i.dataset i.base log i.legal c.args.node n h)))
