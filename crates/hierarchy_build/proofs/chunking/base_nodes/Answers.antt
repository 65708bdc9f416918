use Rattle.std.proofs.Common.{◌+◌, ◌<◌, length, ap, subst, sym, arith}
use Rattle.std.specs.List.{All}
use Rattle.std.proofs.lemmas.List.Elements.{All-from_recursion}
use Rattle.op_model.specs.Ingest.{ingested}
use Rattle.record_rows.specs.LogRows.{chunks}
use Rattle.base_rows.specs.Lists.{AreNodes}
use Rattle.octree_layers.specs.declared.numbering.Made.{Made}
use Rattle.octree_layers.specs.Layers.{all_nodes, IsLayer}
use Rattle.hierarchy_build.proofs.LayerChunks.{made_some}
use Rattle.hierarchy_build.proofs.PlacedNodes.{nodes_placed, layer_at, layer_more, nodes_left, chunks_within, all_behind-end}
use Rattle.hierarchy_build.proofs.chunking.base_nodes.Goals as goal

pub push_nodes-requires-clause-least : goal.push_nodes-requires-clause-least
push_nodes-requires-clause-least c =
    let d = c.args.dataset.now in
    let b = c.args.base.now in
    let is : IsLayer d b (ingested d b 0) (2 + c.loop-layer.layer-index) c.layer-item.result =
    layer_at d b (ingested d b 0) c.args.layers.now 2 c.loop-layer.layer-index c.layer-item.result (c.requires.layers 0) c.loop-layer-test.true c.layer-item.is in
    subst (λ ids. All (λ (m : Made). m.least < length ids) c.deref.result.now) (sym c.ids_of-ids.ensures)
    (subst (λ ms. All (λ (m : Made). m.least < length b.supervoxels) ms) (sym c.deref.ensures.value) (λ k m l. (is.least k m l).0))

pub push_nodes-requires-clause-chunks : goal.push_nodes-requires-clause-chunks
push_nodes-requires-clause-chunks c =
    let d = c.args.dataset.now in
    let b = c.args.base.now in
    subst (λ ms. All (λ (m : Made). 0 < m.chunk) ms) (sym c.deref.ensures.value)
    (All-from_recursion (λ (m : Made). 0 < m.chunk) c.layer-item.result.made.items
    (made_some d b c.requires.dataset c.requires.base 0 (2 + c.loop-layer.layer-index) (omega arith) c.layer-item.result
    (layer_at d b (ingested d b 0) c.args.layers.now 2 c.loop-layer.layer-index c.layer-item.result (c.requires.layers 0) c.loop-layer-test.true c.layer-item.is)))

pub push_nodes-requires-clause-few : goal.push_nodes-requires-clause-few
push_nodes-requires-clause-few c =
    let n = nodes_left c.args.layers.now c.loop-layer.layer-index c.layer-item.result c.loop-layer-test.true c.layer-item.is c.args.base.now in
    let e = ap length c.deref.ensures.value in
    let f = c.loop-layer.invariant.few in
    let g = c.requires.few in
    omega (arith, n, e, f, g)

pub loop-layer-preserved : goal.loop-layer-preserved
loop-layer-preserved c =
    let l = c.loop-layer in
    let n = nodes_left c.args.layers.now l.layer-index c.layer-item.result c.loop-layer-test.true c.layer-item.is c.args.base.now in
    let e = ap length c.deref.ensures.value in
    let m = c.in_ok-count.ensures.count in
    let w = chunks_within c.deref.result.now in
    let f = l.invariant.few in
    record {
      nodes =
          layer_more c.args.layers.now l.layer-index c.layer-item.result c.loop-layer-test.true c.layer-item.is c.args.base.now.supervoxels c.ids_of-ids.result.now c.deref.result.now l.count c.in_ok-count.count l.list.items
          c.push_nodes.new.list.items _ c.ids_of-ids.ensures c.deref.ensures.value m l.invariant.nodes c.in_ok-count.ensures.nodes;
      few = omega (arith, n, e, m, w, f);
    }

pub returns : goal.returns
returns c =
    let l = c.loop-layer in
    subst (λ xs. AreNodes (chunks c.args.dataset.now c.args.base.now) xs (all_nodes c.args.base.now c.args.layers.now))
    (sym (all_behind-end c.args.base.now.supervoxels l.count c.args.layers.now l.layer-index l.list.items _ c.loop-layer-test.false l.invariant.nodes))
    (nodes_placed c.args.base.now c.args.dataset.now c.requires.dataset c.requires.base 0 c.args.layers.now c.requires.count (c.requires.layers 0))
