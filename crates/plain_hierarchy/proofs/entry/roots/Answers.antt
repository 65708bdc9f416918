use Rattle.std.proofs.Common.{◌≡◌, ◌<◌, ◌+◌, true, length, get_or, leb, sym, ◌∙◌, ap, subst, arith}
use Rattle.graph_model.specs.Lists.{has}
use Rattle.graph_model.proofs.ListLemmas.{filter_length}
use Rattle.op_model.specs.Labels.{root}
use Rattle.op_model.specs.Ingest.{ingested}
use Rattle.plain_hierarchy.specs.Ingest.{firsts, up_to}
use Rattle.plain_hierarchy.proofs.Growing.{has_get}
use Rattle.plain_hierarchy.proofs.Ingests.{root_told}
use Rattle.plain_hierarchy.proofs.Counts.{map_next}
use Rattle.plain_hierarchy.proofs.entry.roots.Goals as goal

pub numbered-requires-clause-label : goal.numbered-requires-clause-label
numbered-requires-clause-label c =
    let l = filter_length (λ w. leb w c.in_ok-first.first) c.as_slice.result.now in
    let k = c.as_slice.type_inv in
    let e : c.up_to.result ≡ up_to c.in_ok-first.first c.as_slice.result.now = c.up_to.ensures in
    omega (arith, l, k, e)

pub loop-sv-preserved : goal.loop-sv-preserved
loop-sv-preserved c =
    let d = c.args.dataset.now in
    let b = c.args.base.now in
    let v = c.sv-item.result in
    let i = c.loop-sv.sv-index in
    let same = c.ids_of-svs.ensures in
    let low : i < length b.supervoxels = subst (λ xs. i < length xs) same c.loop-sv-test.true in
    let is : v ≡ get_or b.supervoxels i v = c.sv-item.is ∙ ap (λ xs. get_or xs i v) same in
    let h : has b.supervoxels v ≡ true = subst (λ x. has b.supervoxels x ≡ true) (sym is) (has_get b.supervoxels i v low) in
    let told : c.numbered.result ≡ root d b (ingested d b 0) v =
    root_told d b c.requires.dataset c.requires.base v h c.top-layer.result c.chunk-place.result c.in_ok-first.first c.numbered.result c.as_slice.result.now
    c.top-layer.ensures.is c.chunk-place.ensures.is c.in_ok-first.ensures
    (c.as_slice.ensures.value ∙ (c.in_ok-nodes.ensures ∙ ap (firsts d b c.top-layer.result) same))
    (c.numbered.ensures ∙ ap (λ n. c.chunk-place.result + n) c.up_to.ensures) in
    c.in_ok-push.ensures ∙ map_next (root d b (ingested d b 0)) b.supervoxels i v c.loop-sv.list.items c.numbered.result low c.loop-sv.invariant (told ∙ ap (root d b (ingested d b 0)) is)
