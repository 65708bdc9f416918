use Rattle.std.proofs.Common.{◌≡◌, length, map, ◌∙◌, ap, rules}
use Rattle.std.specs.List.{flat_map}
use Rattle.op_model.specs.Chunks.{chunk, layers, top}
use Rattle.op_model.specs.Operations.{ascending}
use Rattle.op_model.specs.Records.{node_count, nodes_in}
use Rattle.op_model.specs.Ingest.{ingested}
use Rattle.layer_laws.proofs.IngestLemmas.{sum_told, records_ingested}
use Rattle.plain_hierarchy.proofs.records.record_count.Goals as goal

pub returns : goal.returns
returns c at =
    let d = c.args.dataset.now in
    let b = c.args.base.now in
    let log = ingested d b 0 in
    let places = flat_map (λ layer. map (chunk d layer) b.supervoxels) (layers d) in
    let long : c.len-held.result ≡ length c.ascending_ids.result.items = search rules in
    let held = long ∙ ap length (c.ascending_ids.ensures ∙ ap ascending c.in_ok-all.ensures) in
    sum_told (length c.ids_of.result.now) c.len-held.result (length c.edges_of.result.now) c.in_ok-nodes.nodes c.in_ok-roots.roots
    (length b.supervoxels) (length (ascending places)) (length b.edges) (node_count d b log) (nodes_in d b log (top d))
    (ap length c.ids_of.ensures) held (ap length c.edges_of.ensures) c.in_ok-nodes.ensures.is (c.in_ok-roots.ensures.is ∙ ap (nodes_in d b log) c.top.ensures.is)
    ∙ records_ingested d b at
