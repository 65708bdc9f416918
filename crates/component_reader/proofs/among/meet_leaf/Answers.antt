use Rattle.std.proofs.Common.{◌≡◌, ◌++◌, ℕ, List, length, slice_index_or, sym, ap, subst, ◌∙◌, arith}
use Rattle.std.specs.List.{filter}
use Rattle.op_model.specs.declared.base.Edge.{Edge}
use Rattle.op_model.specs.Labels.{edges}
use Rattle.op_model.specs.Transcript.{log_at}
use Rattle.record_rows.specs.Readings.{Image}
use Rattle.record_rows.specs.Walks.{edges_at, is_end}
use Rattle.record_rows.proofs.ImageFacts.{parent_image}
use Rattle.component_reader.specs.Taking.{AreMet, starts}
use Rattle.component_reader.proofs.Few.{edges_few}
use Rattle.component_reader.proofs.Kept.{filter_few}
use Rattle.component_reader.proofs.RootLeaves.{at_zero, known_at}
use Rattle.component_reader.proofs.Started.{own_starts}
use Rattle.component_reader.proofs.among.meet_leaf.Goals as goal

pub supervoxel_of-spot-requires : goal.supervoxel_of-spot-requires
supervoxel_of-spot-requires g c =
    let (d, b, log, i, known, few) = c.requires.image in
    record { known = (d, b, log, parent_image d b log _ i, known_at b c.args.leaves.now c.args.place c.index-leaves-place.result known c.requires.place (at_zero c.args.leaves.now c.args.place c.index-leaves-place.result c.requires.place c.index-leaves-place.is)) }

pub edges_of-requires-clause-supervoxel : goal.edges_of-requires-clause-supervoxel
edges_of-requires-clause-supervoxel g c =
    let (d, b, log, i, known, few) = c.requires.image in (
      d,
      b,
      log,
      c.index-leaves-place.result,
      subst (λ w. Image d b log (g.W.Words.words w)) (sym c.supervoxel_of-spot.ensures.same) i,
      c.supervoxel_of-spot.ensures.is d b log (parent_image d b log _ i) (known_at b c.args.leaves.now c.args.place c.index-leaves-place.result known c.requires.place (at_zero c.args.leaves.now c.args.place c.index-leaves-place.result c.requires.place c.index-leaves-place.is)),
    )

pub meet_own-requires-clause-room : goal.meet_own-requires-clause-room
unfolding edges_at
meet_own-requires-clause-room g c =
    let (d, b, log, i, known, few) = c.requires.image in
    let v : ℕ = c.index-leaves-place.result in
    let es : List Edge = edges d b (log_at d b log c.args.prefix) in
    let j = subst (λ w. Image d b log (g.W.Words.words w)) (sym c.supervoxel_of-spot.ensures.same) i in
    let at = c.supervoxel_of-spot.ensures.is d b log (parent_image d b log _ i) (known_at b c.args.leaves.now c.args.place v known c.requires.place (at_zero c.args.leaves.now c.args.place c.index-leaves-place.result c.requires.place c.index-leaves-place.is)) in
    let own : c.as_slice.result.now ≡ edges_at es v = c.as_slice.ensures.value ∙ (c.own.view_is ∙ c.in_ok-own.ensures.edges d b log v j at) in
    let n : length c.as_slice.result.now ≡ length (filter (is_end v) es) = ap length own in
    let most = edges_few d b log _ c.args.prefix (parent_image d b log _ i) c.requires.prefix in
    let less = filter_few (is_end v) es in
    omega (arith, n, most, less, few)

pub returns-clause-met : goal.returns-clause-met
returns-clause-met g c d b log before i known m =
    let v : ℕ = c.index-leaves-place.result in
    let es : List Edge = edges d b (log_at d b log c.args.prefix) in
    let j = subst (λ w. Image d b log (g.W.Words.words w)) (sym c.supervoxel_of-spot.ensures.same) i in
    let at = c.supervoxel_of-spot.ensures.is d b log (parent_image d b log _ i) (known_at b c.args.leaves.now c.args.place v known c.requires.place (at_zero c.args.leaves.now c.args.place c.index-leaves-place.result c.requires.place c.index-leaves-place.is)) in
    let own : c.as_slice.result.now ≡ edges_at es v = c.as_slice.ensures.value ∙ (c.own.view_is ∙ c.in_ok-own.ensures.edges d b log v j at) in
    let all : filter (starts c.args.leaves.now v) c.as_slice.result.now ≡ filter (starts c.args.leaves.now (slice_index_or c.args.leaves.now c.args.place 0)) es =
    ap (filter (starts c.args.leaves.now v)) own ∙ (own_starts c.args.leaves.now v es ∙ ap (λ u. filter (starts c.args.leaves.now u) es) (at_zero c.args.leaves.now c.args.place c.index-leaves-place.result c.requires.place c.index-leaves-place.is)) in
    subst (λ fs. AreMet c.args.most (before ++ fs) c.meet_own.new.met) all (c.in_ok-meet_own.ensures.met before m)
