use Rattle.std.proofs.Common.{◌≡◌, length, eqb, ◌∙◌, ap, arith, rules}
use Rattle.graph_model.proofs.ListLemmas.{filter_length}
use Rattle.op_model.specs.Labels.{least}
use Rattle.op_model.specs.Records.{nodes_in}
use Rattle.op_model.specs.Ingest.{ingested}
use Rattle.plain_hierarchy.specs.Ingest.{firsts}
use Rattle.plain_hierarchy.proofs.records.nodes_in.Goals as goal

pub returns-clause-is : goal.returns-clause-is
unfolding nodes_in
returns-clause-is c =
    let same = c.in_ok-nodes.ensures ∙ ap (firsts c.args.dataset.now c.args.base.now c.args.layer) c.ids_of.ensures in
    let long : c.len.result ≡ length c.in_ok-nodes.nodes.items = search rules in
    long ∙ ap length same

pub returns-clause-few : goal.returns-clause-few
returns-clause-few c =
    let same = c.in_ok-nodes.ensures ∙ ap (firsts c.args.dataset.now c.args.base.now c.args.layer) c.ids_of.ensures in
    let long : c.len.result ≡ length c.in_ok-nodes.nodes.items = search rules in
    let few = filter_length (λ v. eqb (least c.args.dataset.now c.args.base.now (ingested c.args.dataset.now c.args.base.now 0) c.args.layer v) v) c.args.base.now.supervoxels in
    let e = ap length same in
    omega (arith, long, few, e)
