use Rattle.std.proofs.Common.{◌∙◌, ◌++◌, ◌∷◌, [], append-nil, sym, ap, refl, map}
use Rattle.node_ids.specs.Ids.{parts_of}
use Rattle.record_rows.specs.Rows.{LinkRow}
use Rattle.record_rows.specs.Chains.{child_of}
use Rattle.record_rows.specs.LogRows.{rows_of}
use Rattle.parent_rows.proofs.ChainWalks.{image_kept, walk_falls}
use Rattle.parent_rows.proofs.NodeWalks.{child_link, child_first, child_step, child_end}
use Rattle.united_layers.specs.Jointed.{node_joint}
use Rattle.united_layers.proofs.Gathering.{child_put}
use Rattle.united_layers.proofs.reading.put_node.Goals as goal

pub first_link-at-requires : goal.first_link-at-requires
first_link-at-requires g c = let r = c.requires.node in record { node = (c.args.dataset.now, r.0, r.1, r.2, image_kept g.W.Words.words c.args.dataset.now r.0 r.1 c.node-row.ensures.same r.3, r.4) }

pub loop-at-init : goal.loop-at-init
loop-at-init g c = record {
  same = c.first_link-at.ensures.same ∙ c.node-row.ensures.same;
  walked = λ b log n i h. (
    [],
    child_first c.args.dataset.now b log _ i n.id (c.first_link-at.ensures.is c.args.dataset.now b log n (image_kept g.W.Words.words c.args.dataset.now b log c.node-row.ensures.same i) h),
    sym (append-nil c.args.list.now.items),
  );
}

pub child_least-b-requires : goal.child_least-b-requires
child_least-b-requires g c =
    let r = c.requires.node in
    let d = c.args.dataset.now in
    let inv = c.loop-at.invariant in
    let l = child_link (rows_of d r.0 r.1) r.2.id c.in-Some.link c.in-Some.is (inv.walked r.0 r.1 r.2 r.3 r.4).1.0 in
    record { link = (d, r.0, r.1, l.0, image_kept g.W.Words.words d r.0 r.1 inv.same r.3, l.1) }

pub next_link-at-requires : goal.next_link-at-requires
next_link-at-requires g c =
    let r = c.requires.node in
    let d = c.args.dataset.now in
    let inv = c.loop-at.invariant in
    let l = child_link (rows_of d r.0 r.1) r.2.id c.in-Some.link c.in-Some.is (inv.walked r.0 r.1 r.2 r.3 r.4).1.0 in
    record { link = (d, r.0, r.1, l.0, image_kept g.W.Words.words d r.0 r.1 (c.child_least-b.ensures.same ∙ inv.same) r.3, l.1) }

pub loop-at-smaller : goal.loop-at-smaller
loop-at-smaller g c =
    let r = c.requires.node in
    let d = c.args.dataset.now in
    let inv = c.loop-at.invariant in
    let l = child_link (rows_of d r.0 r.1) r.2.id c.in-Some.link c.in-Some.is (inv.walked r.0 r.1 r.2 r.3 r.4).1.0 in
    walk_falls d r.0 r.1 _ r.3 c.in-Some.link (LinkRow l.0) l.1 (child_of l.0.parent) c.in-Some.is
    (c.next_link-at.ensures.is d r.0 r.1 l.0 (image_kept g.W.Words.words d r.0 r.1 (c.child_least-b.ensures.same ∙ inv.same) r.3) l.1)

pub loop-at-preserved : goal.loop-at-preserved
loop-at-preserved g c = record {
  same = c.next_link-at.ensures.same ∙ (c.child_least-b.ensures.same ∙ c.loop-at.invariant.same);
  walked = λ b log n i h.
      let d = c.args.dataset.now in
      let inv = c.loop-at.invariant in
      let w = inv.walked b log n i h in
      let l = child_link (rows_of d b log) n.id c.in-Some.link c.in-Some.is w.1.0 in
      let row = c.node-row.ensures.is d b log n i h in
      let el = c.unpack-layer.ensures ∙ ap (λ x. parts_of d.layout x) row.0 in
      let eb = c.child_least-b.ensures.is d b log l.0 (image_kept g.W.Words.words d b log inv.same i) l.1 in (
        w.0 ++ l.0.child ∷ [],
        child_step (rows_of d b log) n.id c.in-Some.link l.0 w.0 l.1 l.2 c.in-Some.is
            (c.next_link-at.ensures.is d b log l.0 (image_kept g.W.Words.words d b log (c.child_least-b.ensures.same ∙ inv.same) i) l.1) l.0.child refl refl w.1,
        child_put (node_joint d (rows_of d b log) n) w.0 c.args.list.now.items c.loop-at.list.items _ l.0.child _ (λ k. record { layer = (el k).layer; a = row.1 k; b = eb k }) w.2 c.in_ok-put.ensures,
      );
}

pub returns-in_err-put-clause-same : goal.returns-in_err-put-clause-same
returns-in_err-put-clause-same g c = c.child_least-b.ensures.same ∙ c.loop-at.invariant.same

pub returns-clause-same : goal.returns-clause-same
returns-clause-same g c = c.loop-at.invariant.same

pub returns-clause-put : goal.returns-clause-put
returns-clause-put g c b log n i h =
    let d = c.args.dataset.now in
    let w = c.loop-at.invariant.walked b log n i h in
    w.2 ∙ ap (λ xs. c.args.list.now.items ++ map (node_joint d (rows_of d b log) n) xs) (child_end (rows_of d b log) n.id c.loop-at.at w.0 c.in_default.not-Some w.1)
