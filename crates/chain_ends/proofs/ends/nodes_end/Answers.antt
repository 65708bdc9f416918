use Rattle.parent_rows.proofs.ChainWalks.{image_kept}
use Rattle.parent_rows.proofs.Sought.{chunk_place}
use Rattle.chain_ends.proofs.EndFacts.{chunk_here, nodes_last, nodes_none}
use Rattle.chain_ends.proofs.ends.nodes_end.Goals as goal

pub returns-in_default-clause-end : goal.returns-in_default-clause-end
returns-in_default-clause-end g c = λ d b log i h.
    let z = chunk_here d b log _ i c.args.id h (c.chunk.ensures.found d b log i) in
    absurd (c.in_default.not-Some z.0 z.1)

pub last_node-requires : goal.last_node-requires
last_node-requires g c =
    let r = c.requires.chunk in
    record { chunk = (r.0, r.1, r.2, c.args.id, image_kept g.W.Words.words r.0 r.1 r.2 c.chunk.ensures.same r.3, chunk_place r.0 r.1 r.2 _ r.3 c.args.id c.in-Some.spot (c.chunk.ensures.found r.0 r.1 r.2 r.3) c.in-Some.is) }

pub returns-in_default-last_node-clause-end : goal.returns-in_default-last_node-clause-end
returns-in_default-last_node-clause-end g c = λ d b log i h.
    let j = image_kept g.W.Words.words d b log c.chunk.ensures.same i in
    let k = chunk_place d b log _ i c.args.id c.in-Some.spot (c.chunk.ensures.found d b log i) c.in-Some.is in
    nodes_none d b log i.dataset i.base c.args.id c.in-Some.spot (c.last_node.ensures.is d b log c.args.id j k) c.in_default-last_node.not-Some k

pub returns-clause-end : goal.returns-clause-end
returns-clause-end g c = λ d b log i h.
    let j = image_kept g.W.Words.words d b log c.chunk.ensures.same i in
    let k = chunk_place d b log _ i c.args.id c.in-Some.spot (c.chunk.ensures.found d b log i) c.in-Some.is in
    nodes_last d b log c.args.id c.in-Some-last_node.node (c.last_node.ensures.is d b log c.args.id j k) c.in-Some-last_node.is
