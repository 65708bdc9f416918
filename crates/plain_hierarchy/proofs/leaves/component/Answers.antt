use Rattle.std.proofs.Common.{◌≡◌, true, sym, ◌∙◌, ap, subst}
use Rattle.graph_model.specs.Lists.{has}
use Rattle.graph_model.specs.Components.{component_of}
use Rattle.op_model.specs.Edges.{linked}
use Rattle.op_model.specs.Chunks.{members}
use Rattle.op_model.specs.Valid.{IsSupervoxel}
use Rattle.op_model.proofs.LegalLemmas.{all_has}
use Rattle.op_model.proofs.LabelLemmas.{in_members}
use Rattle.plain_hierarchy.proofs.Ingests.{component_base}
use Rattle.plain_hierarchy.proofs.leaves.component.Goals as goal

pub chunk-place-requires-clause-sv : goal.chunk-place-requires-clause-sv
chunk-place-requires-clause-sv c = all_has (IsSupervoxel c.args.dataset.now) c.args.base.now.supervoxels c.args.sv c.requires.base.supervoxels c.requires.sv

pub joined-requires : goal.joined-requires
joined-requires c =
    let d = c.args.dataset.now in
    let b = c.args.base.now in
    subst (λ xs. has xs c.args.sv ≡ true) (sym (c.as_slice.ensures.value ∙ c.in_ok-inside.ensures))
    (in_members d b c.args.layer c.chunk-place.result c.args.sv c.requires.sv (sym c.chunk-place.ensures.is))

pub returns : goal.returns
returns c at =
    let d = c.args.dataset.now in
    let b = c.args.base.now in
    let l = c.args.layer in
    let v = c.args.sv in
    let inside = c.as_slice.ensures.value ∙ (c.in_ok-inside.ensures ∙ ap (members d b l) c.chunk-place.ensures.is) in
    c.in_ok-list.ensures ∙ (ap (λ es. component_of (linked es) c.as_slice.result.now v) c.edges_of.ensures
    ∙ (ap (λ xs. component_of (linked b.edges) xs v) inside ∙ component_base d b c.requires.base at l v))
