use Rattle.std.proofs.Common.{◌∙◌, arith}
use Rattle.parent_rows.proofs.ChainWalks.{image_kept}
use Rattle.made_nodes.proofs.LastNumbers.{chunk_there, chunk_spot, last_there_is, last_spot, last_id, small_number}
use Rattle.made_nodes.proofs.greatest.used.Goals as goal

pub returns-in_default-clause-is : goal.returns-in_default-clause-is
returns-in_default-clause-is g c d b log layer i h =
    let t = chunk_there d b log _ i layer c.args.id h in
    absurd (c.in_default.not-Some t.0 (c.chunk.ensures.found d b log i ∙ t.1))

pub last_node-requires : goal.last_node-requires
last_node-requires g c =
    let r = c.requires.chunk in
    record {
      chunk = (
        r.0,
        r.1,
        r.2,
        c.args.id,
        image_kept g.W.Words.words r.0 r.1 r.2 c.chunk.ensures.same r.4,
        chunk_spot r.0 r.1 r.2 _ r.4 r.3 c.args.id r.5 c.in-Some.spot (c.chunk.ensures.found r.0 r.1 r.2 r.4) c.in-Some.is,
      );
    }

pub returns-in_default-last_node-clause-is : goal.returns-in_default-last_node-clause-is
returns-in_default-last_node-clause-is g c d b log layer i h =
    let i1 = image_kept g.W.Words.words d b log c.chunk.ensures.same i in
    let k = chunk_spot d b log _ i layer c.args.id h c.in-Some.spot (c.chunk.ensures.found d b log i) c.in-Some.is in
    let t = last_there_is d b log _ i layer c.args.id h in
    absurd (c.in_default-last_node.not-Some t.0 (c.last_node.ensures.is d b log c.args.id i1 k ∙ t.2))

pub node-requires : goal.node-requires
node-requires g c =
    let r = c.requires.chunk in
    let i1 = image_kept g.W.Words.words r.0 r.1 r.2 c.chunk.ensures.same r.4 in
    let k = chunk_spot r.0 r.1 r.2 _ r.4 r.3 c.args.id r.5 c.in-Some.spot (c.chunk.ensures.found r.0 r.1 r.2 r.4) c.in-Some.is in
    let n = last_spot r.0 r.1 r.2 _ r.4 r.3 c.args.id r.5 c.in-Some-last_node.last (c.last_node.ensures.is r.0 r.1 r.2 c.args.id i1 k) c.in-Some-last_node.is in
    record { node = (r.0, r.1, r.2, n.0, image_kept g.W.Words.words r.0 r.1 r.2 c.last_node.ensures.same i1, n.1) }

pub number_of-requires : goal.number_of-requires
number_of-requires g c =
    let r = c.requires.chunk in
    let i1 = image_kept g.W.Words.words r.0 r.1 r.2 c.chunk.ensures.same r.4 in
    let k = chunk_spot r.0 r.1 r.2 _ r.4 r.3 c.args.id r.5 c.in-Some.spot (c.chunk.ensures.found r.0 r.1 r.2 r.4) c.in-Some.is in
    let n = last_id r.0 r.1 r.2 _ r.4 r.3 c.args.id r.5 c.in-Some-last_node.last (c.last_node.ensures.is r.0 r.1 r.2 c.args.id i1 k) c.in-Some-last_node.is (c.last_node.ensures.greatest r.0 r.1 r.2 c.args.id i1 k) in
    let i2 = image_kept g.W.Words.words r.0 r.1 r.2 c.last_node.ensures.same i1 in
    let t = (c.node.ensures.is r.0 r.1 r.2 n.0 i2 n.1).0 in
    let e = n.2 in
    omega (arith, t, e)

pub returns-clause-is : goal.returns-clause-is
returns-clause-is g c d b log layer i h =
    let i1 = image_kept g.W.Words.words d b log c.chunk.ensures.same i in
    let k = chunk_spot d b log _ i layer c.args.id h c.in-Some.spot (c.chunk.ensures.found d b log i) c.in-Some.is in
    let n = last_id d b log _ i layer c.args.id h c.in-Some-last_node.last (c.last_node.ensures.is d b log c.args.id i1 k) c.in-Some-last_node.is (c.last_node.ensures.greatest d b log c.args.id i1 k) in
    let i2 = image_kept g.W.Words.words d b log c.last_node.ensures.same i1 in
    let t = (c.node.ensures.is d b log n.0 i2 n.1).0 in
    let e = n.2 in
    let v = c.number_of.ensures in
    omega (arith, t, e, v)

pub returns-clause-small : goal.returns-clause-small
returns-clause-small g c =
    let r = c.requires.chunk in
    let s = small_number r.0 r.1 r.2 _ r.4 r.3 c.args.id r.5 in
    let e = returns-clause-is g c r.0 r.1 r.2 r.3 r.4 r.5 in
    omega (arith, s, e)
