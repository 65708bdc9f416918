use Rattle.std.proofs.Common.{◌∙◌, sym, subst}
use Rattle.op_model.specs.Valid.{IsAscending}
use Rattle.record_rows.specs.Rows.{LinkRow}
use Rattle.record_rows.specs.Chains.{child_of}
use Rattle.record_rows.specs.LogRows.{rows_of}
use Rattle.record_rows.proofs.ChildOrder.{children_ascend}
use Rattle.parent_rows.proofs.ChainWalks.{image_kept, walk_falls}
use Rattle.parent_rows.proofs.NodeWalks.{AtChild, child_link, child_first, child_step, child_end}
use Rattle.parent_rows.proofs.nodes.children.Goals as goal

pub loop-at-init : goal.loop-at-init
loop-at-init g c = (
  c.first_child-at.ensures.same,
  λ d b log n i h. subst (AtChild (rows_of d b log) n.id c.first_child-at.result) (sym c.new-list.ensures.items) (child_first d b log _ i n.id (c.first_child-at.ensures.is d b log n i h)),
)

pub child-requires : goal.child-requires
child-requires g c =
    let r = c.requires.node in
    let inv = c.loop-at.invariant in
    let l = child_link (rows_of r.0 r.1 r.2) r.3.id c.in-Some.link c.in-Some.is (inv.1 r.0 r.1 r.2 r.3 r.4 r.5).0 in
    record { link = (r.0, r.1, r.2, l.0, image_kept g.W.Words.words r.0 r.1 r.2 inv.0 r.4, l.1) }

pub next_child-at-requires : goal.next_child-at-requires
next_child-at-requires g c =
    let r = c.requires.node in
    let inv = c.loop-at.invariant in
    let l = child_link (rows_of r.0 r.1 r.2) r.3.id c.in-Some.link c.in-Some.is (inv.1 r.0 r.1 r.2 r.3 r.4 r.5).0 in
    record { link = (r.0, r.1, r.2, l.0, image_kept g.W.Words.words r.0 r.1 r.2 (c.child.ensures.same ∙ inv.0) r.4, l.1) }

pub loop-at-smaller : goal.loop-at-smaller
loop-at-smaller g c =
    let r = c.requires.node in
    let inv = c.loop-at.invariant in
    let l = child_link (rows_of r.0 r.1 r.2) r.3.id c.in-Some.link c.in-Some.is (inv.1 r.0 r.1 r.2 r.3 r.4 r.5).0 in
    walk_falls r.0 r.1 r.2 _ r.4 c.in-Some.link (LinkRow l.0) l.1 (child_of l.0.parent) c.in-Some.is
    (c.next_child-at.ensures.is r.0 r.1 r.2 l.0 (image_kept g.W.Words.words r.0 r.1 r.2 (c.child.ensures.same ∙ inv.0) r.4) l.1)

pub loop-at-preserved : goal.loop-at-preserved
loop-at-preserved g c = (
  c.next_child-at.ensures.same ∙ (c.child.ensures.same ∙ c.loop-at.invariant.0),
  λ d b log n i h.
      let inv = c.loop-at.invariant in
      let at = inv.1 d b log n i h in
      let l = child_link (rows_of d b log) n.id c.in-Some.link c.in-Some.is at.0 in
      let child = c.child.ensures.is d b log l.0 (image_kept g.W.Words.words d b log inv.0 i) l.1 in
      child_step (rows_of d b log) n.id c.in-Some.link l.0 c.loop-at.list.items l.1 l.2 c.in-Some.is
      (c.next_child-at.ensures.is d b log l.0 (image_kept g.W.Words.words d b log (c.child.ensures.same ∙ inv.0) i) l.1)
      c.child.result child c.in_ok-push.ensures
      at,
)

pub returns-clause-children : goal.returns-clause-children
returns-clause-children g c = λ d b log n i h. child_end (rows_of d b log) n.id c.loop-at.at c.loop-at.list.items c.in_default.not-Some (c.loop-at.invariant.1 d b log n i h)

pub returns-clause-ascending : goal.returns-clause-ascending
returns-clause-ascending g c = λ d b log n i h.
    subst IsAscending (sym (child_end (rows_of d b log) n.id c.loop-at.at c.loop-at.list.items c.in_default.not-Some (c.loop-at.invariant.1 d b log n i h))) (children_ascend d b i.dataset i.base log i.legal n.id)
