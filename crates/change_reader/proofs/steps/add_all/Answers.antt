use Rattle.std.proofs.Common.{◌∙◌, refl, sym, subst}
use Rattle.change_reader.specs.Walks.{IsUnretired}
use Rattle.change_reader.proofs.Linked.{all_roots, more_roots, no_roots, root_at}
use Rattle.change_reader.proofs.steps.add_all.Goals as goal

pub loop-k-init : goal.loop-k-init
loop-k-init g c = record { same = refl; order = c.requires.order; roots = no_roots c.args.roots.now.items c.args.linked.now; waits = λ d b log n a w. w }

pub add_root-requires-clause-made : goal.add_root-requires-clause-made
add_root-requires-clause-made g c =
    let r = c.requires.made in
    let i = c.loop-k.invariant in
    (r.0, r.1, r.2, r.3, subst (λ w. IsUnretired r.0 r.1 r.2 (g.W.Words.words w) c.index-linked-k.result r.3) (sym i.same) (root_at r.0 r.1 r.2 _ r.3 c.args.linked.now c.loop-k.k c.index-linked-k.result c.loop-k-test.true c.index-linked-k.is r.4))

pub add_root-requires-clause-order : goal.add_root-requires-clause-order
add_root-requires-clause-order g c = c.loop-k.invariant.order

pub loop-k-preserved : goal.loop-k-preserved
loop-k-preserved g c =
    let i = c.loop-k.invariant in
    record {
      same = c.add_root.ensures.same ∙ i.same;
      order = c.in_ok-add_root.ensures.order;
      roots = more_roots c.args.roots.now.items c.args.linked.now c.loop-k.k c.index-linked-k.result c.loop-k-test.true c.index-linked-k.is _ _ i.roots c.in_ok-add_root.ensures.roots;
      waits = λ d b log n a w.
          c.in_ok-add_root.ensures.waits d b log n
          (subst (λ w. IsUnretired d b log (g.W.Words.words w) c.index-linked-k.result n) (sym i.same) (root_at d b log _ n c.args.linked.now c.loop-k.k c.index-linked-k.result c.loop-k-test.true c.index-linked-k.is a))
          (i.waits d b log n a w);
    }

pub returns-clause-roots : goal.returns-clause-roots
returns-clause-roots g c = all_roots c.args.roots.now.items c.args.linked.now c.loop-k.k c.loop-k-test.false _ c.loop-k.invariant.roots
