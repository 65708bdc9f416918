use Rattle.std.proofs.Common.{◌<◌, ◌≤◌, ◌^◌, length, sym, ◌∙◌, subst}
use Rattle.std.proofs.lemmas.List.{take_all}
use Rattle.op_model.specs.Valid.{IsAscending, IsEdge}
use Rattle.base_rows.specs.Lists.{IsPlaced}
use Rattle.octree_layers.proofs.Pushes.{edge_in, places_pushed}
use Rattle.octree_layers.proofs.edging.edge_places.Goals as goal

pub base_edge-requires-clause-ascending : goal.base_edge-requires-clause-ascending
base_edge-requires-clause-ascending c = subst IsAscending (sym c.ids_of-ids.ensures) c.requires.base.ascending

pub base_edge-requires-clause-size : goal.base_edge-requires-clause-size
base_edge-requires-clause-size c = subst (λ ids. length ids < 2 ^ 32) (sym c.ids_of-ids.ensures) c.requires.size

pub base_edge-requires-clause-edge : goal.base_edge-requires-clause-edge
base_edge-requires-clause-edge c =
    let b = c.args.base.now in
    subst (λ ids. IsEdge ids c.edge-item.result) (sym c.ids_of-ids.ensures)
    (edge_in b.supervoxels b.edges c.edges_of-edge-items.result.now c.loop-edge.edge-index c.edge-item.result c.edges_of-edge-items.ensures c.loop-edge-test.true c.edge-item.is c.requires.base.edges)

pub loop-edge-preserved : goal.loop-edge-preserved
loop-edge-preserved c =
    let b = c.args.base.now in
    let l = c.loop-edge in
    places_pushed b.supervoxels b.edges c.edges_of-edge-items.result.now l.edge-index c.edge-item.result c.base_edge.result l.list.items c.push.new.self.items
    c.edges_of-edge-items.ensures c.loop-edge-test.true c.edge-item.is c.base_edge.ensures.is (subst (λ ids. IsPlaced ids c.base_edge.result) c.ids_of-ids.ensures c.base_edge.ensures.placed)
    c.in-Ok.ensures.items l.invariant

pub returns : goal.returns
returns c =
    let es = c.args.base.now.edges in
    record {
      edges = c.loop-edge.invariant.0 ∙ take_all c.loop-edge.edge-index es (subst (λ xs. length xs ≤ c.loop-edge.edge-index) c.edges_of-edge-items.ensures c.loop-edge-test.false);
      placed = c.loop-edge.invariant.1;
    }
