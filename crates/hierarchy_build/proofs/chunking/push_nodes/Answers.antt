use Rattle.std.proofs.Common.{ℕ, ◌+◌, ◌∙◌, sym, arith}
use Rattle.hierarchy_build.proofs.Fresh.{count_more, count_end, count_low, count_some, nodes_more, nodes_end}
use Rattle.hierarchy_build.proofs.chunking.push_nodes.Goals as goal

pub loop-node-preserved : goal.loop-node-preserved
loop-node-preserved c =
    let l = c.loop-node in
    let m = c.node-item.result in
    let n : ℕ = c.count_behind-count.result in
    let e = c.count_behind-count.ensures in
    record {
      nodes = nodes_more c.args.ids.now l.last l.count c.args.made.now l.node-index m n c.base_node.result l.list.items c.push.new.self.items _ c.loop-node-test.true c.node-item.is e c.base_node.ensures l.invariant.nodes c.in-Ok.ensures.items;
      count = count_more l.last l.count c.args.made.now l.node-index m n c.loop-node-test.true c.node-item.is e ∙ l.invariant.count;
      low = let k = count_low l.last l.count m.chunk n (c.args.below + l.node-index) e l.invariant.low in omega (arith, k);
      some = λ more. count_some l.last l.count m.chunk n e more l.invariant.some;
    }

pub returns-clause-nodes : goal.returns-clause-nodes
returns-clause-nodes c =
    let l = c.loop-node in
    nodes_end c.args.ids.now l.last l.count c.args.made.now l.node-index l.list.items _ c.loop-node-test.false l.invariant.nodes

pub returns-clause-count : goal.returns-clause-count
returns-clause-count c =
    let l = c.loop-node in
    sym (count_end l.last l.count c.args.made.now l.node-index c.loop-node-test.false) ∙ l.invariant.count
