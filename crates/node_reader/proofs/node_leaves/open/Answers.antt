use Rattle.std.proofs.Common.{◌∙◌, ◌≤◌, ◌+◌, length, subst, arith}
use Rattle.record_rows.specs.Rows.{LinkRow}
use Rattle.record_rows.specs.Chains.{child_of}
use Rattle.record_rows.specs.LogRows.{rows_of}
use Rattle.parent_rows.proofs.ChainWalks.{image_kept, walk_falls}
use Rattle.parent_rows.proofs.NodeWalks.{child_link, child_first}
use Rattle.node_reader.specs.Spreads.{layer_of, weight, weights}
use Rattle.node_reader.proofs.LeafMeaning.{opened}
use Rattle.node_reader.proofs.LeafWalks.{walk_starts, walk_goes, walk_ends, walk_lightens, node_id_told}
use Rattle.node_reader.proofs.node_leaves.open.Goals as goal

pub loop-at-init : goal.loop-at-init
loop-at-init g c = record {
  same = c.first_link-at.ensures.same;
  nodes = λ d b log n i h a. a;
  walked = λ d b log n i h. walk_starts (rows_of d b log) (g.W.Words.words c.args.w.now) n.id c.args.list.now.items c.args.waiting.now.items (child_first d b log _ i n.id (c.first_link-at.ensures.is d b log n i h));
}

pub put_child-requires : goal.put_child-requires
put_child-requires g c =
    let r = c.requires.node in
    let inv = c.loop-at.invariant in
    let l = child_link (rows_of r.0 r.1 r.2) r.3.id c.in-Some.link c.in-Some.is (inv.walked r.0 r.1 r.2 r.3 r.4 r.5).place.0 in
    record { link = (r.0, r.1, r.2, l.0, image_kept g.W.Words.words r.0 r.1 r.2 inv.same r.4, l.1) }

pub returns-in_err-put_child-clause-same : goal.returns-in_err-put_child-clause-same
returns-in_err-put_child-clause-same g c = c.in_err-put_child.ensures.same ∙ c.loop-at.invariant.same

pub next_link-at-requires : goal.next_link-at-requires
next_link-at-requires g c =
    let r = c.requires.node in
    let inv = c.loop-at.invariant in
    let l = child_link (rows_of r.0 r.1 r.2) r.3.id c.in-Some.link c.in-Some.is (inv.walked r.0 r.1 r.2 r.3 r.4 r.5).place.0 in
    record { link = (r.0, r.1, r.2, l.0, image_kept g.W.Words.words r.0 r.1 r.2 (c.in_ok-put_child.ensures.same ∙ inv.same) r.4, l.1) }

pub loop-at-smaller : goal.loop-at-smaller
loop-at-smaller g c =
    let r = c.requires.node in
    let inv = c.loop-at.invariant in
    let l = child_link (rows_of r.0 r.1 r.2) r.3.id c.in-Some.link c.in-Some.is (inv.walked r.0 r.1 r.2 r.3 r.4 r.5).place.0 in
    walk_falls r.0 r.1 r.2 _ r.4 c.in-Some.link (LinkRow l.0) l.1 (child_of l.0.parent) c.in-Some.is
    (c.next_link-at.ensures.is r.0 r.1 r.2 l.0 (image_kept g.W.Words.words r.0 r.1 r.2 (c.in_ok-put_child.ensures.same ∙ inv.same) r.4) l.1)

pub loop-at-preserved : goal.loop-at-preserved
loop-at-preserved g c = record {
  same = c.next_link-at.ensures.same ∙ (c.in_ok-put_child.ensures.same ∙ c.loop-at.invariant.same);
  nodes = λ d b log n i h a.
      let inv = c.loop-at.invariant in
      let l = child_link (rows_of d b log) n.id c.in-Some.link c.in-Some.is (inv.walked d b log n i h).place.0 in
      c.in_ok-put_child.ensures.nodes d b log l.0 (image_kept g.W.Words.words d b log inv.same i) l.1 (inv.nodes d b log n i h a);
  walked = λ d b log n i h.
      let inv = c.loop-at.invariant in
      let l = child_link (rows_of d b log) n.id c.in-Some.link c.in-Some.is (inv.walked d b log n i h).place.0 in
      let k = image_kept g.W.Words.words d b log inv.same i in
      walk_goes (rows_of d b log) (g.W.Words.words c.args.w.now) n.id c.args.list.now.items c.args.waiting.now.items c.in-Some.link l.0 l.1 l.2 c.in-Some.is
      (c.next_link-at.ensures.is d b log l.0 (image_kept g.W.Words.words d b log (c.in_ok-put_child.ensures.same ∙ inv.same) i) l.1)
      (c.in_ok-put_child.ensures.leaves d b log l.0 k l.1)
      (subst (λ w. weights (g.W.Words.words w) c.put_child.new.waiting.items ≤ weights (g.W.Words.words w) c.loop-at.waiting.items + weight (length (g.W.Words.words w)) l.0.child) inv.same (c.in_ok-put_child.ensures.more d b log l.0 k l.1))
      (inv.walked d b log n i h);
}

pub returns-clause-same : goal.returns-clause-same
returns-clause-same g c = c.loop-at.invariant.same

pub returns-clause-nodes : goal.returns-clause-nodes
returns-clause-nodes g c = λ d b log n i h a. c.loop-at.invariant.nodes d b log n i h a

pub returns-clause-leaves : goal.returns-clause-leaves
returns-clause-leaves g c = λ d b log n i h.
    walk_ends (rows_of d b log) (g.W.Words.words c.args.w.now) n c.args.list.now.items c.args.waiting.now.items c.in_default.not-Some (opened d b i.dataset i.base log i.legal c.args.node n h).whole (c.loop-at.invariant.walked d b log n i h)

pub returns-clause-fewer : goal.returns-clause-fewer
returns-clause-fewer g c =
    let r = c.requires.node in
    let o = opened r.0 r.1 r.4.dataset r.4.base r.2 r.4.legal c.args.node r.3 r.5 in
    let high : 1 ≤ layer_of r.3.id = (let q = o.layered in omega arith) in
    walk_lightens r.0 r.1 r.2 (g.W.Words.words c.args.w.now) r.4 c.args.node r.3 r.5 high o.below c.args.list.now.items c.args.waiting.now.items c.in_default.not-Some (c.loop-at.invariant.walked r.0 r.1 r.2 r.3 r.4 r.5)
    (node_id_told r.0 r.1 r.2 (g.W.Words.words c.args.w.now) r.4 c.args.node r.3 r.5)
