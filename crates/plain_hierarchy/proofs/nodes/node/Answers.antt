use Rattle.std.proofs.Common.{◌≡◌, ◌+◌, true, ◌∙◌, ap, subst, arith, leb}
use mathlib.Core.Path.{ap₂}
use Rattle.graph_model.specs.Lists.{has}
use Rattle.graph_model.proofs.ListLemmas.{filter_length}
use Rattle.op_model.specs.Chunks.{chunk, members}
use Rattle.op_model.specs.Valid.{IsSupervoxel}
use Rattle.op_model.proofs.LegalLemmas.{all_has}
use Rattle.op_model.proofs.LabelLemmas.{members_in}
use Rattle.plain_hierarchy.specs.Ingest.{firsts, up_to}
use Rattle.plain_hierarchy.proofs.Ingests.{node_ingested}
use Rattle.plain_hierarchy.proofs.nodes.node.Goals as goal

pub chunk-place-requires-clause-sv : goal.chunk-place-requires-clause-sv
chunk-place-requires-clause-sv c = all_has (IsSupervoxel c.args.dataset.now) c.args.base.now.supervoxels c.args.sv c.requires.base.supervoxels c.requires.sv

pub firsts-requires-clause-among : goal.firsts-requires-clause-among
firsts-requires-clause-among c v h =
    (members_in c.args.dataset.now c.args.base.now c.args.layer c.chunk-place.result v
    (subst (λ xs. has xs v ≡ true) (c.as_slice.ensures.value ∙ c.in_ok-inside.ensures) h)).0

pub numbered-requires-clause-label : goal.numbered-requires-clause-label
numbered-requires-clause-label c =
    let l = filter_length (λ w. leb w c.in_ok-first.first) c.as_slice-2.result.now in
    let k = c.as_slice-2.type_inv in
    let e : c.up_to.result ≡ up_to c.in_ok-first.first c.as_slice-2.result.now = c.up_to.ensures in
    omega (arith, l, k, e)

pub returns : goal.returns
returns c at =
    let d = c.args.dataset.now in
    let b = c.args.base.now in
    let l = c.args.layer in
    let v = c.args.sv in
    let place = c.chunk-place.ensures.is in
    let inside : c.as_slice.result.now ≡ members d b l (chunk d l v) = c.as_slice.ensures.value ∙ (c.in_ok-inside.ensures ∙ ap (members d b l) place) in
    let nodes = c.as_slice-2.ensures.value ∙ (c.in_ok-nodes.ensures ∙ ap (firsts d b l) inside) in
    c.numbered.ensures ∙ (ap₂ (λ m n. m + n) place (c.up_to.ensures ∙ ap₂ up_to c.in_ok-first.ensures nodes) ∙ node_ingested d b at l v)
