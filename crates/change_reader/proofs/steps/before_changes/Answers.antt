use Rattle.std.proofs.Common.{◌≡◌, ◌-◌, ◌<◌, ◌≤◌, ◌∙◌, length, get_or, List, refl, sym, ap, subst, arith}
use Rattle.op_model.specs.declared.entry.Changed.{Changed}
use Rattle.op_model.specs.Operations.{ends}
use Rattle.change_reader.specs.Walks.{IsInner, linked_end}
use Rattle.change_reader.proofs.EntryFacts.{known_ends}
use Rattle.change_reader.proofs.EntryPlaces.{at_entry}
use Rattle.change_reader.proofs.Linked.{linked_all, linked_empty, linked_of, linked_pair}
use Rattle.node_reader.proofs.EndLists.{all_left, one_left, known_at}
use Rattle.change_reader.proofs.steps.before_changes.Goals as goal

pub loop-done-init : goal.loop-done-init
loop-done-init g c = record {
  same = refl;
  shown = λ d b log e i k. c.new-list.ensures.items ∙ linked_empty d b log c.args.n c.args.roots.now c.args.changed.now;
}

pub add_pair-requires-clause-ends : goal.add_pair-requires-clause-ends
add_pair-requires-clause-ends g c =
    let r = c.requires.entry in
    let i = c.loop-done.invariant in
    let cs : List Changed = c.args.changed.now in
    let x : Changed = c.index-pairs-last.result in
    let same : c.as_slice-pairs.result.now ≡ cs = c.as_slice-pairs.ensures.value ∙ c.changed.view_is in
    let low : c.loop-done.done < length cs = subst (λ xs. c.loop-done.done < length xs) same c.loop-done-test.true in
    let at : get_or cs (length cs - c.loop-done.done - 1) x ≡ x = subst (λ xs. get_or xs (length xs - c.loop-done.done - 1) x ≡ x) same (sym c.index-pairs-last.is) in
    let k = known_at r.1 cs (length cs - c.loop-done.done - 1) x (known_ends r.0 r.1 r.2 _ c.args.n r.3 cs r.5) (omega arith) at in
    (r.0, r.1, r.2, subst (λ w. IsInner r.0 r.1 r.2 (g.W.Words.words w) c.args.n) (sym i.same) r.4, k.0, k.1.0)

pub loop-done-preserved : goal.loop-done-preserved
loop-done-preserved g c =
    let i = c.loop-done.invariant in
    let cs : List Changed = c.args.changed.now in
    let x : Changed = c.index-pairs-last.result in
    let same : c.as_slice-pairs.result.now ≡ cs = c.as_slice-pairs.ensures.value ∙ c.changed.view_is in
    let low : c.loop-done.done < length cs = subst (λ xs. c.loop-done.done < length xs) same c.loop-done-test.true in
    let at : get_or cs (length cs - c.loop-done.done - 1) x ≡ x = subst (λ xs. get_or xs (length xs - c.loop-done.done - 1) x ≡ x) same (sym c.index-pairs-last.is) in
    record {
      same = c.add_pair.ensures.same ∙ i.same;
      shown = λ d b log e r k.
          let known = known_at b cs (length cs - c.loop-done.done - 1) x (known_ends d b log _ c.args.n e cs k) (omega arith) at in
          let more = one_left cs c.loop-done.done x low at in
          c.in_ok-add_pair.ensures.is d b log (subst (λ w. IsInner d b log (g.W.Words.words w) c.args.n) (sym i.same) r) known.0 known.1.0
          ∙ (ap (λ xs. linked_end d b log c.args.n c.args.roots.now x.pair.a (linked_end d b log c.args.n c.args.roots.now x.pair.b xs)) (i.shown d b log e r k)
          ∙ (sym (linked_pair d b log c.args.n c.args.roots.now x _) ∙ ap (linked_of d b log c.args.n c.args.roots.now) (sym more)));
    }

pub returns-clause-is : goal.returns-clause-is
returns-clause-is g c d b log e i k =
    let cs : List Changed = c.args.changed.now in
    let same : c.as_slice-pairs.result.now ≡ cs = c.as_slice-pairs.ensures.value ∙ c.changed.view_is in
    let all : length cs ≤ c.loop-done.done = subst (λ xs. length xs ≤ c.loop-done.done) same c.loop-done-test.false in
    c.loop-done.invariant.shown d b log e i k
    ∙ (ap (λ xs. linked_of d b log c.args.n c.args.roots.now (ends xs)) (all_left cs c.loop-done.done all ∙ k.pairs)
    ∙ linked_all d b log c.args.n c.args.roots.now e (at_entry d b log c.args.n e i.image.legal k.entry))
