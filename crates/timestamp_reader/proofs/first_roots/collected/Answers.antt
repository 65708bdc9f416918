use Rattle.std.proofs.Common.{◌<◌, ◌++◌, [], ◌∷◌, length, sym, ◌∙◌, ap, subst, arith, append-nil, append_assoc}
use Rattle.record_rows.specs.Rows.{NodeRow}
use Rattle.record_rows.specs.Chains.{node_in}
use Rattle.record_rows.specs.LogRows.{rows_of}
use Rattle.record_rows.specs.Readings.{ParentImage, next_place}
use Rattle.record_rows.proofs.ImageFacts.{within}
use Rattle.record_rows.proofs.WalkLemmas.{Behind, steps_left, next_behind}
use Rattle.timestamp_reader.specs.Places.{FirstNodeAt, NodeAt, first_from}
use Rattle.timestamp_reader.proofs.FirstWalks.{first_at, first_all, next_at, next_all, fewer}
use Rattle.timestamp_reader.proofs.first_roots.collected.Goals as goal

pub if_first-at-requires : goal.if_first-at-requires
if_first-at-requires g c =
    let r = c.requires.chunk in
    record {
      node = (
        r.0,
        r.1,
        r.2,
        r.3,
        subst (λ w. ParentImage r.0 r.1 r.2 (g.W.Words.words w)) (sym c.first_node-first.ensures.same) r.4,
        subst (NodeAt r.0 r.1 r.2 r.3) (sym (c.first_node-first.ensures.is r.0 r.1 r.2 r.3 r.4 r.5)) (first_at r.0 r.1 r.2 r.3),
      );
    }

pub loop-at-init : goal.loop-at-init
loop-at-init g c = record {
  same = c.if_first-at.ensures.same ∙ c.first_node-first.ensures.same;
  node = λ d b log k i h.
      c.if_first-at.ensures.at d b log k (subst (λ w. ParentImage d b log (g.W.Words.words w)) (sym c.first_node-first.ensures.same) i)
      (subst (NodeAt d b log k) (sym (c.first_node-first.ensures.is d b log k i h)) (first_at d b log k));
  shown = λ d b log k i h.
      ap (λ xs. xs ++ first_from d b log k c.if_first-at.result) c.new-list.ensures.items
      ∙ (c.if_first-at.ensures.rest d b log k (subst (λ w. ParentImage d b log (g.W.Words.words w)) (sym c.first_node-first.ensures.same) i)
      (subst (NodeAt d b log k) (sym (c.first_node-first.ensures.is d b log k i h)) (first_at d b log k))
      ∙ (ap (first_from d b log k) (c.first_node-first.ensures.is d b log k i h) ∙ first_all d b log k));
}

pub if_first-at-requires-in-Some : goal.if_first-at-requires-in-Some
if_first-at-requires-in-Some g c =
    let r = c.requires.chunk in
    let i = c.loop-at.invariant in
    let n = subst (FirstNodeAt r.0 r.1 r.2 r.3) c.in-Some.is (i.node r.0 r.1 r.2 r.3 r.4 r.5) in
    let same = c.in_ok-add.ensures.same ∙ i.same in
    let image = subst (λ w. ParentImage r.0 r.1 r.2 (g.W.Words.words w)) (sym same) r.4 in
    record {
      node = (
        r.0,
        r.1,
        r.2,
        r.3,
        subst (λ w. ParentImage r.0 r.1 r.2 (g.W.Words.words w)) (sym (c.next_node-next.ensures.same ∙ same)) r.4,
        subst (NodeAt r.0 r.1 r.2 r.3) (sym (c.next_node-next.ensures.is r.0 r.1 r.2 n.1 image n.2 ∙ ap (λ k. next_place (node_in k) (rows_of r.0 r.1 r.2) c.in-Some.spot) n.3)) (next_at r.0 r.1 r.2 r.3 c.in-Some.spot),
      );
    }

pub loop-at-smaller : goal.loop-at-smaller
loop-at-smaller g c =
    let r = c.requires.chunk in
    let i = c.loop-at.invariant in
    let n = subst (FirstNodeAt r.0 r.1 r.2 r.3) c.in-Some.is (i.node r.0 r.1 r.2 r.3 r.4 r.5) in
    let same = c.in_ok-add.ensures.same ∙ i.same in
    let image = subst (λ w. ParentImage r.0 r.1 r.2 (g.W.Words.words w)) (sym same) r.4 in
    let long = within r.0 r.1 r.2 _ r.4 c.in-Some.spot (NodeRow n.1) n.2 in
    let behind = subst (Behind c.in-Some.spot) (sym (c.next_node-next.ensures.is r.0 r.1 r.2 n.1 image n.2)) (next_behind (node_in n.1.chunk) (rows_of r.0 r.1 r.2) c.in-Some.spot) in
    subst (λ o. steps_left (length (g.W.Words.words c.args.w.now)) c.if_first-at-in-Some.result < steps_left (length (g.W.Words.words c.args.w.now)) o) (sym c.in-Some.is)
    (fewer (length (g.W.Words.words c.args.w.now)) c.in-Some.spot (omega (arith, long)) c.next_node-next.result c.if_first-at-in-Some.result behind c.if_first-at-in-Some.ensures.same_place)

pub loop-at-preserved : goal.loop-at-preserved
loop-at-preserved g c =
    let i = c.loop-at.invariant in
    let same = c.in_ok-add.ensures.same ∙ i.same in
    record {
      same = c.if_first-at-in-Some.ensures.same ∙ (c.next_node-next.ensures.same ∙ same);
      node = λ d b log k image h.
          let n = subst (FirstNodeAt d b log k) c.in-Some.is (i.node d b log k image h) in
          let now = subst (λ w. ParentImage d b log (g.W.Words.words w)) (sym same) image in
          let later = subst (λ w. ParentImage d b log (g.W.Words.words w)) (sym (c.next_node-next.ensures.same ∙ same)) image in
          let next = c.next_node-next.ensures.is d b log n.1 now n.2 ∙ ap (λ x. next_place (node_in x) (rows_of d b log) c.in-Some.spot) n.3 in
          c.if_first-at-in-Some.ensures.at d b log k later (subst (NodeAt d b log k) (sym next) (next_at d b log k c.in-Some.spot));
      shown = λ d b log k image h.
          let n = subst (FirstNodeAt d b log k) c.in-Some.is (i.node d b log k image h) in
          let before = subst (λ w. ParentImage d b log (g.W.Words.words w)) (sym i.same) image in
          let now = subst (λ w. ParentImage d b log (g.W.Words.words w)) (sym same) image in
          let later = subst (λ w. ParentImage d b log (g.W.Words.words w)) (sym (c.next_node-next.ensures.same ∙ same)) image in
          let next = c.next_node-next.ensures.is d b log n.1 now n.2 ∙ ap (λ x. next_place (node_in x) (rows_of d b log) c.in-Some.spot) n.3 in
          let rest = c.if_first-at-in-Some.ensures.rest d b log k later (subst (NodeAt d b log k) (sym next) (next_at d b log k c.in-Some.spot)) ∙ ap (first_from d b log k) next in
          ap (λ xs. xs ++ first_from d b log k c.if_first-at-in-Some.result) (c.in_ok-add.ensures.is d b log n.1 before n.2)
          ∙ (append_assoc c.loop-at.list.items (n.1.id ∷ []) (first_from d b log k c.if_first-at-in-Some.result)
          ∙ (ap (λ xs. c.loop-at.list.items ++ n.1.id ∷ xs) rest
          ∙ (ap (λ xs. c.loop-at.list.items ++ xs) (sym (ap (first_from d b log k) c.in-Some.is ∙ next_all d b log k c.in-Some.spot n.1 n.2 n.3 n.4))
          ∙ i.shown d b log k image h)));
    }

pub returns-clause-is : goal.returns-clause-is
unfolding first_from
returns-clause-is g c d b log k image h =
    sym (append-nil c.loop-at.list.items) ∙ (sym (ap (λ o. c.loop-at.list.items ++ first_from d b log k o) c.in_default.is) ∙ c.loop-at.invariant.shown d b log k image h)
