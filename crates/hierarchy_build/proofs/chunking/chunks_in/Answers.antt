use Rattle.std.proofs.Common.{◌∙◌, sym}
use Rattle.hierarchy_build.proofs.Fresh.{count_more, count_end, count_low}
use Rattle.hierarchy_build.proofs.chunking.chunks_in.Goals as goal

pub loop-node-preserved : goal.loop-node-preserved
loop-node-preserved c =
    let l = c.loop-node in
    let m = c.node-item.result in (
      count_more l.last l.count c.args.made.now l.node-index m c.count_behind-count.result c.loop-node-test.true c.node-item.is c.count_behind-count.ensures ∙ l.invariant.0,
      count_low l.last l.count m.chunk c.count_behind-count.result l.node-index c.count_behind-count.ensures l.invariant.1,
    )

pub returns : goal.returns
returns c =
    let l = c.loop-node in
    sym (count_end l.last l.count c.args.made.now l.node-index c.loop-node-test.false) ∙ l.invariant.0
