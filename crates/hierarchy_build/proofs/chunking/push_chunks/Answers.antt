use Rattle.hierarchy_build.proofs.Fresh.{chunks_more, chunks_end}
use Rattle.hierarchy_build.proofs.chunking.push_chunks.Goals as goal

pub loop-node-preserved : goal.loop-node-preserved
loop-node-preserved c =
    let l = c.loop-node in
    chunks_more l.last c.args.made.now l.node-index c.node-item.result l.list.items c.push_chunk.new.list.items _ c.loop-node-test.true c.node-item.is l.invariant c.in_ok-push_chunk.ensures

pub returns : goal.returns
returns c = let l = c.loop-node in chunks_end l.last c.args.made.now l.node-index l.list.items _ c.loop-node-test.false l.invariant
