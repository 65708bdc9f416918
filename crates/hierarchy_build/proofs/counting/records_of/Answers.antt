use Rattle.std.proofs.Common.{ap, length, ◌∙◌, arith}
use Rattle.hierarchy_build.proofs.Totals.{few_nodes, nodes_summed, records_told}
use Rattle.hierarchy_build.proofs.counting.records_of.Goals as goal

pub node_count-nodes-requires : goal.node_count-nodes-requires
node_count-nodes-requires c = record { few = few_nodes c.requires.built.0 c.args.base.now c.args.layers.now c.requires.built.1 c.requires.size }

pub returns-clause-is : goal.returns-clause-is
returns-clause-is c d now built held =
    records_told d c.args.base.now c.args.layers.now now (length c.ids_of.result.now) c.args.chunk_count (length c.edges_of.result.now) c.node_count-nodes.result c.root_count-roots.result
    built (ap length c.ids_of.ensures) held (ap length c.edges_of.ensures) c.node_count-nodes.ensures.is c.root_count-roots.ensures.is

pub returns-clause-all : goal.returns-clause-all
returns-clause-all c =
    let n = c.node_count-nodes.ensures.is ∙ nodes_summed c.args.base.now c.args.layers.now in
    let s = ap length c.ids_of.ensures in
    omega (arith, n, s)
