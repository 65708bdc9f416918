use Rattle.std.proofs.Common.{◌∙◌, ◌<◌, ◌≤◌, refl, sym, subst}
use Rattle.record_rows.specs.Rows.{NodeRow}
use Rattle.record_rows.specs.Chains.{node_in}
use Rattle.record_rows.specs.LogRows.{rows_of}
use Rattle.parent_rows.proofs.ChainWalks.{image_kept, leap_falls}
use Rattle.parent_rows.proofs.ChunkWalks.{chunk_node}
use Rattle.parent_rows.proofs.Told.{id_found, node_id}
use Rattle.parent_rows.proofs.Seeks.{near_start, node_leap, node_step, node_met, node_passed, node_end}
use Rattle.parent_rows.proofs.finding.node_of.Goals as goal

pub loop-at-init : goal.loop-at-init
loop-at-init g c = (
  c.near_node-at.ensures.same,
  λ d b log x i h. near_start d b log _ i x c.args.id (c.near_node-at.ensures.is d b log x i h),
)

pub id_of-requires : goal.id_of-requires
id_of-requires g c =
    let r = c.requires.chunk in
    let inv = c.loop-at.invariant in
    let at = inv.1 r.0 r.1 r.2 r.3 r.4 r.5 in
    let n = chunk_node (rows_of r.0 r.1 r.2) r.3 c.in-Some.spot c.in-Some.is at.0 in
    let i0 = image_kept g.W.Words.words r.0 r.1 r.2 inv.0 r.4 in
    record { within = (node_id r.0 r.1 r.2 _ i0 c.in-Some.spot n.0 n.1).0 }

pub returns-then-id_of-id-clause-is : goal.returns-then-id_of-id-clause-is
returns-then-id_of-id-clause-is g c = λ d b log x i h.
    let inv = c.loop-at.invariant in
    let at = inv.1 d b log x i h in
    let n = chunk_node (rows_of d b log) x c.in-Some.spot c.in-Some.is at.0 in
    let i0 = image_kept g.W.Words.words d b log inv.0 i in
    let here = c.id_of.ensures.is ∙ id_found d b log _ i0 c.in-Some.spot n.0 n.1 in
    node_passed d b i.dataset i.base log x c.args.id c.in-Some.spot n.0 n.1 n.2 (subst (λ k. c.args.id < k) here c.if-id_of-id.true) c.in-Some.is at

pub leap-last-requires : goal.leap-last-requires
leap-last-requires g c =
    let r = c.requires.chunk in
    let inv = c.loop-at.invariant in
    let at = inv.1 r.0 r.1 r.2 r.3 r.4 r.5 in
    let n = chunk_node (rows_of r.0 r.1 r.2) r.3 c.in-Some.spot c.in-Some.is at.0 in
    let i0 = image_kept g.W.Words.words r.0 r.1 r.2 inv.0 r.4 in
    let here = c.id_of.ensures.is ∙ id_found r.0 r.1 r.2 _ i0 c.in-Some.spot n.0 n.1 in
    let i1 = image_kept g.W.Words.words r.0 r.1 r.2 c.id_of.ensures.same i0 in
    let low = subst (λ k. k ≤ c.args.id) here c.if-id_of-id.false in
    record { node = (r.0, r.1, r.2, n.0, i1, n.1, low) }

pub id_of-requires-in-Some : goal.id_of-requires-in-Some
id_of-requires-in-Some g c =
    let r = c.requires.chunk in
    let inv = c.loop-at.invariant in
    let at = inv.1 r.0 r.1 r.2 r.3 r.4 r.5 in
    let n = chunk_node (rows_of r.0 r.1 r.2) r.3 c.in-Some.spot c.in-Some.is at.0 in
    let i0 = image_kept g.W.Words.words r.0 r.1 r.2 inv.0 r.4 in
    let here = c.id_of.ensures.is ∙ id_found r.0 r.1 r.2 _ i0 c.in-Some.spot n.0 n.1 in
    let i1 = image_kept g.W.Words.words r.0 r.1 r.2 c.id_of.ensures.same i0 in
    let low = subst (λ k. k ≤ c.args.id) here c.if-id_of-id.false in
    let m = c.leap-last.ensures.is r.0 r.1 r.2 n.0 i1 n.1 low in
    let i2 = image_kept g.W.Words.words r.0 r.1 r.2 c.leap-last.ensures.same i1 in
    record { within = (node_id r.0 r.1 r.2 _ i2 c.leap-last.result m.0 m.1).0 }

pub returns-then-id_of-id-2-clause-is : goal.returns-then-id_of-id-2-clause-is
returns-then-id_of-id-2-clause-is g c = λ d b log x i h.
    let inv = c.loop-at.invariant in
    let at = inv.1 d b log x i h in
    let n = chunk_node (rows_of d b log) x c.in-Some.spot c.in-Some.is at.0 in
    let i0 = image_kept g.W.Words.words d b log inv.0 i in
    let here = c.id_of.ensures.is ∙ id_found d b log _ i0 c.in-Some.spot n.0 n.1 in
    let i1 = image_kept g.W.Words.words d b log c.id_of.ensures.same i0 in
    let low = subst (λ k. k ≤ c.args.id) here c.if-id_of-id.false in
    let m = c.leap-last.ensures.is d b log n.0 i1 n.1 low in
    let i2 = image_kept g.W.Words.words d b log c.leap-last.ensures.same i1 in
    let there = c.id_of-in-Some.ensures.is ∙ id_found d b log _ i2 c.leap-last.result m.0 m.1 in
    let leapt = node_leap d b i.dataset i.base log x c.args.id c.in-Some.spot c.leap-last.result m.0 m.4 m.1 (m.2 ∙ n.2) m.3 c.in-Some.is at in
    node_met (rows_of d b log) x c.args.id c.leap-last.result m.0 (m.1, m.2 ∙ n.2) (sym there ∙ c.if-id_of-id-2.true) refl leapt

pub next_node-at-requires : goal.next_node-at-requires
next_node-at-requires g c =
    let r = c.requires.chunk in
    let inv = c.loop-at.invariant in
    let at = inv.1 r.0 r.1 r.2 r.3 r.4 r.5 in
    let n = chunk_node (rows_of r.0 r.1 r.2) r.3 c.in-Some.spot c.in-Some.is at.0 in
    let i0 = image_kept g.W.Words.words r.0 r.1 r.2 inv.0 r.4 in
    let here = c.id_of.ensures.is ∙ id_found r.0 r.1 r.2 _ i0 c.in-Some.spot n.0 n.1 in
    let i1 = image_kept g.W.Words.words r.0 r.1 r.2 c.id_of.ensures.same i0 in
    let low = subst (λ k. k ≤ c.args.id) here c.if-id_of-id.false in
    let m = c.leap-last.ensures.is r.0 r.1 r.2 n.0 i1 n.1 low in
    let i2 = image_kept g.W.Words.words r.0 r.1 r.2 c.leap-last.ensures.same i1 in
    let there = c.id_of-in-Some.ensures.is ∙ id_found r.0 r.1 r.2 _ i2 c.leap-last.result m.0 m.1 in
    let i3 = image_kept g.W.Words.words r.0 r.1 r.2 c.id_of-in-Some.ensures.same i2 in
    record { node = (r.0, r.1, r.2, m.0, i3, m.1) }

pub loop-at-smaller : goal.loop-at-smaller
loop-at-smaller g c =
    let r = c.requires.chunk in
    let inv = c.loop-at.invariant in
    let at = inv.1 r.0 r.1 r.2 r.3 r.4 r.5 in
    let n = chunk_node (rows_of r.0 r.1 r.2) r.3 c.in-Some.spot c.in-Some.is at.0 in
    let i0 = image_kept g.W.Words.words r.0 r.1 r.2 inv.0 r.4 in
    let here = c.id_of.ensures.is ∙ id_found r.0 r.1 r.2 _ i0 c.in-Some.spot n.0 n.1 in
    let i1 = image_kept g.W.Words.words r.0 r.1 r.2 c.id_of.ensures.same i0 in
    let low = subst (λ k. k ≤ c.args.id) here c.if-id_of-id.false in
    let m = c.leap-last.ensures.is r.0 r.1 r.2 n.0 i1 n.1 low in
    let i2 = image_kept g.W.Words.words r.0 r.1 r.2 c.leap-last.ensures.same i1 in
    let there = c.id_of-in-Some.ensures.is ∙ id_found r.0 r.1 r.2 _ i2 c.leap-last.result m.0 m.1 in
    let i3 = image_kept g.W.Words.words r.0 r.1 r.2 c.id_of-in-Some.ensures.same i2 in
    leap_falls r.0 r.1 r.2 _ r.4 c.in-Some.spot c.leap-last.result (NodeRow m.0) m.4 m.1 (node_in m.0.chunk) c.in-Some.is (c.next_node-at.ensures.is r.0 r.1 r.2 m.0 i3 m.1)

pub loop-at-preserved : goal.loop-at-preserved
loop-at-preserved g c = (
  c.next_node-at.ensures.same ∙ (c.id_of-in-Some.ensures.same ∙ (c.leap-last.ensures.same ∙ (c.id_of.ensures.same ∙ c.loop-at.invariant.0))),
  λ d b log x i h.
      let inv = c.loop-at.invariant in
      let at = inv.1 d b log x i h in
      let n = chunk_node (rows_of d b log) x c.in-Some.spot c.in-Some.is at.0 in
      let i0 = image_kept g.W.Words.words d b log inv.0 i in
      let here = c.id_of.ensures.is ∙ id_found d b log _ i0 c.in-Some.spot n.0 n.1 in
      let i1 = image_kept g.W.Words.words d b log c.id_of.ensures.same i0 in
      let low = subst (λ k. k ≤ c.args.id) here c.if-id_of-id.false in
      let m = c.leap-last.ensures.is d b log n.0 i1 n.1 low in
      let i2 = image_kept g.W.Words.words d b log c.leap-last.ensures.same i1 in
      let there = c.id_of-in-Some.ensures.is ∙ id_found d b log _ i2 c.leap-last.result m.0 m.1 in
      let i3 = image_kept g.W.Words.words d b log c.id_of-in-Some.ensures.same i2 in
      let leapt = node_leap d b i.dataset i.base log x c.args.id c.in-Some.spot c.leap-last.result m.0 m.4 m.1 (m.2 ∙ n.2) m.3 c.in-Some.is at in
      node_step (rows_of d b log) x c.args.id c.leap-last.result m.0 (m.1, m.2 ∙ n.2) (λ e. c.if-id_of-id-2.false (there ∙ e)) refl (c.next_node-at.ensures.is d b log m.0 i3 m.1) leapt,
)

pub returns-clause-is : goal.returns-clause-is
returns-clause-is g c = λ d b log x i h. node_end (rows_of d b log) x c.args.id c.loop-at.at c.in_default.not-Some (c.loop-at.invariant.1 d b log x i h)
