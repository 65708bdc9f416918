use Rattle.std.proofs.Common.{List, [], ◌∙◌, ap}
use Rattle.std.proofs.lemmas.List.Sorted.{All-permutation}
use Rattle.op_model.specs.declared.base.Edge.{Edge}
use Rattle.op_model.specs.Edges.{put_edges, edges_after}
use Rattle.op_model.specs.Labels.{edges}
use Rattle.base_rows.specs.Lists.{IsPlaced}
use Rattle.octree_layers.proofs.edging.base_edges.Goals as goal

pub returns-clause-edges : goal.returns-clause-edges
unfolding edges edges_after
returns-clause-edges c = c.by_pair.ensures.sorted ∙ ap (λ (es : List Edge). put_edges es []) c.requires.places.edges

pub returns-clause-placed : goal.returns-clause-placed
returns-clause-placed c =
    All-permutation (IsPlaced c.args.base.now.supervoxels) c.args.ends.items c.by_pair.result.items c.by_pair.ensures.moved c.requires.places.placed
