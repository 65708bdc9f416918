use Rattle.std.proofs.Common.{◌≡◌, ◌++◌, ◌+◌, ◌-◌, ℕ, List, map, ◌∙◌, ap, arith}
use Rattle.std.specs.List.{flat_map}
use Rattle.op_model.specs.Chunks.{chunk, layers, layers_from}
use Rattle.plain_hierarchy.proofs.Counts.{pieces_more}
use Rattle.plain_hierarchy.proofs.records.chunks.Goals as goal

pub loop-place-init : goal.loop-place-init
unfolding layers_from
loop-place-init c = c.new-list.ensures.items

pub loop-place-preserved : goal.loop-place-preserved
loop-place-preserved c =
    let vs = c.args.base.now.supervoxels in
    let f : ℕ → List ℕ = λ layer. map (chunk c.args.dataset.now layer) vs in
    c.in_ok-add_chunks.ensures ∙ (ap (λ xs. xs ++ f (c.loop-place.place + 2)) c.loop-place.invariant ∙ pieces_more f c.loop-place.place)

pub returns : goal.returns
unfolding layers
returns c =
    let f : ℕ → List ℕ = λ layer. map (chunk c.args.dataset.now layer) c.args.base.now.supervoxels in
    let end : c.loop-place.place ≡ c.top-place-end.result - 1 = omega (arith, c.loop-place-test.false, c.loop-place.auto.place-end) in
    c.loop-place.invariant ∙ ap (λ n. flat_map f (layers_from 2 n)) (end ∙ ap (λ n. n - 1) c.top-place-end.ensures.is)
