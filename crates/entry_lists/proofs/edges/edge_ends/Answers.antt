use Rattle.std.proofs.Common.{◌≡◌, true, refl, sym, ◌∙◌, subst}
use Rattle.graph_model.specs.Lists.{has}
use Rattle.record_rows.specs.LogRows.{rows_of}
use Rattle.row_append.specs.Ends.{EdgesOf}
use Rattle.base_rows.specs.States.{AreTails}
use Rattle.base_rows.proofs.Passing.{take_whole}
use Rattle.edge_rows.proofs.ChainFacts.{image_kept}
use Rattle.entry_lists.proofs.Tails.{pointers_more, pointers_none, tails_more, tails_none}
use Rattle.entry_lists.proofs.edges.edge_ends.Goals as goal

pub loop-id-init : goal.loop-id-init
loop-id-init g c = record {
  same = refl;
  ends = λ d b log i k. tails_none EdgesOf c.args.ids.now (rows_of d b log) _ c.new-list.ensures.items;
  pointers = pointers_none _ c.new-list.ensures.items;
}

pub edges_end-tail-requires : goal.edges_end-tail-requires
edges_end-tail-requires g c =
    let r = c.requires.supervoxels in
    record {
      supervoxel = (
        r.0,
        r.1,
        r.2,
        image_kept g.W.Words.words r.0 r.1 r.2 c.loop-id.invariant.same r.3,
        subst (λ x. has r.1.supervoxels x ≡ true) (sym c.id-item.is) (r.4 c.loop-id.id-index c.id-item.result c.loop-id-test.true),
      );
    }

pub loop-id-preserved : goal.loop-id-preserved
loop-id-preserved g c = record {
  same = c.edges_end-tail.ensures.same ∙ c.loop-id.invariant.same;
  ends = λ d b log i k.
      tails_more EdgesOf c.args.ids.now (rows_of d b log) c.loop-id.id-index c.id-item.result _ _ _ c.loop-id-test.true c.id-item.is c.in-Ok.ensures.items (c.loop-id.invariant.ends d b log i k)
      (c.edges_end-tail.ensures.end d b log (image_kept g.W.Words.words d b log c.loop-id.invariant.same i) (subst (λ x. has b.supervoxels x ≡ true) (sym c.id-item.is) (k c.loop-id.id-index c.id-item.result c.loop-id-test.true)));
  pointers = pointers_more _ _ _ c.in-Ok.ensures.items c.loop-id.invariant.pointers c.edges_end-tail.ensures.pointer.0 c.edges_end-tail.ensures.pointer.1;
}

pub returns-clause-ends : goal.returns-clause-ends
returns-clause-ends g c = λ d b log i k. subst (λ xs. AreTails EdgesOf xs (rows_of d b log) c.loop-id.list.items) (take_whole c.args.ids.now c.loop-id.id-index c.loop-id-test.false) (c.loop-id.invariant.ends d b log i k)
