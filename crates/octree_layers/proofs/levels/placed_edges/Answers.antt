use Rattle.std.proofs.Common.{map, ◌∙◌, ap, sym}
use Rattle.std.proofs.lemmas.List.{take_all}
use Rattle.base_rows.specs.declared.lists.BaseEdge.{BaseEdge}
use Rattle.octree_layers.specs.Places.{placed}
use Rattle.octree_layers.proofs.Leaves.{map_twice}
use Rattle.octree_layers.proofs.Pushes.{map_pushed}
use Rattle.octree_layers.proofs.levels.placed_edges.Goals as goal

pub loop-end-preserved : goal.loop-end-preserved
loop-end-preserved c =
    let l = c.loop-end in
    map_pushed (λ (x : BaseEdge). placed c.args.dataset.now c.args.base.now x.edge) c.args.ends.now l.end-index c.end-item.result c.placed.result l.list.items c.push.new.self.items
    c.loop-end-test.true c.end-item.is c.placed.ensures l.invariant c.in-Ok.ensures.items

pub returns : goal.returns
returns c =
    let d = c.args.dataset.now in
    let b = c.args.base.now in
    let xs = c.args.ends.now in
    c.loop-end.invariant ∙ (ap (map (λ (x : BaseEdge). placed d b x.edge)) (take_all c.loop-end.end-index xs c.loop-end-test.false)
    ∙ (sym (map_twice (placed d b) (λ (x : BaseEdge). x.edge) xs) ∙ ap (map (placed d b)) c.requires.places.edges))
