use Rattle.std.proofs.Common.{◌∙◌, ap}
use Rattle.record_rows.specs.Rows.{NodeRow}
use Rattle.record_rows.specs.Chains.{node_in}
use Rattle.record_rows.specs.LogRows.{rows_of}
use Rattle.record_rows.specs.Readings.{next_place}
use Rattle.parent_rows.proofs.ChainWalks.{image_kept, leap_falls, last_leap, last_end}
use Rattle.parent_rows.proofs.Seeks.{near_last}
use Rattle.parent_rows.proofs.ChunkWalks.{chunk_node, node_passes, node_most, greatest_last}
use Rattle.parent_rows.proofs.chunk_nodes.last_node.Goals as goal

pub loop-at-init : goal.loop-at-init
loop-at-init g c = (
  c.near_node-at.ensures.same,
  λ d b log x i h. near_last d b log _ i x _ (c.near_node-at.ensures.is d b log x i h),
)

pub leap-last-requires : goal.leap-last-requires
leap-last-requires g c =
    let r = c.requires.chunk in
    let inv = c.loop-at.invariant in
    let at = inv.1 r.0 r.1 r.2 r.3 r.4 r.5 in
    let n = chunk_node (rows_of r.0 r.1 r.2) r.3 c.in-Some.node c.in-Some.is at.0 in
    let i0 = image_kept g.W.Words.words r.0 r.1 r.2 inv.0 r.4 in
    let small = node_most r.0 r.1 r.2 r.4.dataset r.4.base r.4.legal c.in-Some.node n.0 n.1 in
    record { node = (r.0, r.1, r.2, n.0, i0, n.1, small) }

pub next_node-at-requires : goal.next_node-at-requires
next_node-at-requires g c =
    let r = c.requires.chunk in
    let inv = c.loop-at.invariant in
    let at = inv.1 r.0 r.1 r.2 r.3 r.4 r.5 in
    let n = chunk_node (rows_of r.0 r.1 r.2) r.3 c.in-Some.node c.in-Some.is at.0 in
    let i0 = image_kept g.W.Words.words r.0 r.1 r.2 inv.0 r.4 in
    let small = node_most r.0 r.1 r.2 r.4.dataset r.4.base r.4.legal c.in-Some.node n.0 n.1 in
    let m = c.leap-last.ensures.is r.0 r.1 r.2 n.0 i0 n.1 small in
    let i1 = image_kept g.W.Words.words r.0 r.1 r.2 c.leap-last.ensures.same i0 in
    record { node = (r.0, r.1, r.2, m.0, i1, m.1) }

pub loop-at-smaller : goal.loop-at-smaller
loop-at-smaller g c =
    let r = c.requires.chunk in
    let inv = c.loop-at.invariant in
    let at = inv.1 r.0 r.1 r.2 r.3 r.4 r.5 in
    let n = chunk_node (rows_of r.0 r.1 r.2) r.3 c.in-Some.node c.in-Some.is at.0 in
    let i0 = image_kept g.W.Words.words r.0 r.1 r.2 inv.0 r.4 in
    let small = node_most r.0 r.1 r.2 r.4.dataset r.4.base r.4.legal c.in-Some.node n.0 n.1 in
    let m = c.leap-last.ensures.is r.0 r.1 r.2 n.0 i0 n.1 small in
    let i1 = image_kept g.W.Words.words r.0 r.1 r.2 c.leap-last.ensures.same i0 in
    leap_falls r.0 r.1 r.2 _ r.4 c.in-Some.node c.leap-last.result (NodeRow m.0) m.4 m.1 (node_in m.0.chunk) c.in-Some.is (c.next_node-at.ensures.is r.0 r.1 r.2 m.0 i1 m.1)

pub loop-at-preserved : goal.loop-at-preserved
loop-at-preserved g c = (
  c.next_node-at.ensures.same ∙ (c.leap-last.ensures.same ∙ c.loop-at.invariant.0),
  λ d b log x i h.
      let inv = c.loop-at.invariant in
      let at = inv.1 d b log x i h in
      let n = chunk_node (rows_of d b log) x c.in-Some.node c.in-Some.is at.0 in
      let i0 = image_kept g.W.Words.words d b log inv.0 i in
      let small = node_most d b log i.dataset i.base i.legal c.in-Some.node n.0 n.1 in
      let m = c.leap-last.ensures.is d b log n.0 i0 n.1 small in
      let i1 = image_kept g.W.Words.words d b log c.leap-last.ensures.same i0 in
      last_leap (node_in x) (rows_of d b log) c.in-Some.node c.leap-last.result c.loop-at.found (NodeRow m.0) c.in-Some.is m.4 m.1 (node_passes x m.0 (m.2 ∙ n.2))
      (c.next_node-at.ensures.is d b log m.0 i1 m.1 ∙ ap (λ y. next_place (node_in y) (rows_of d b log) c.leap-last.result) (m.2 ∙ n.2))
      at,
)

pub returns-clause-is : goal.returns-clause-is
returns-clause-is g c = λ d b log x i h. last_end (node_in x) (rows_of d b log) c.loop-at.at c.loop-at.found c.in_default.not-Some (c.loop-at.invariant.1 d b log x i h)

pub returns-clause-greatest : goal.returns-clause-greatest
returns-clause-greatest g c = λ d b log x i h.
    greatest_last d b i.dataset i.base log x (last_end (node_in x) (rows_of d b log) c.loop-at.at c.loop-at.found c.in_default.not-Some (c.loop-at.invariant.1 d b log x i h))
